-- A plan of one reply.
use Rattle.std.proofs.Common.{◌≡◌, ◌+◌, ◌&&◌, ℕ, not, List, [], ◌∷◌, ap, subst, ◌∙◌, append-nil}
use Rattle.core_calls.specs.Call.{Call}
use Rattle.core_calls.specs.Answer as core
use Rattle.dss_frames.specs.Writing.{written}
use Rattle.command_kit.specs.Done.{WasDone}
use Rattle.sqlam_replies.specs.Reply.{Reply}
use Rattle.conversation.specs.declared.chain.Link.{Link}
use Rattle.session_commands.specs.declared.session.Session.{Session}
use Rattle.conversation.specs.Done.{IsFollowed}
use Rattle.session_commands.specs.Access.{Answer}
use Rattle.conversation.specs.Exchange.{Plan, at_once, behind, chain_bits, sent, worst}
use Rattle.conversation.specs.Standing.{Standing}

abbrev pub one_format : Link → Session → Reply → ℕ
one_format link session reply = chain_bits (link.is_chained && not (behind session link (worst (reply ∷ []))).is_broken) [] + reply.dss_type

pub one_sent : (link : Link) (session : Session) (reply : Reply) → (sent link session (reply ∷ [])).bytes ≡ written (one_format link session reply) link.correlator reply.text
one_sent link session reply = append-nil (written (one_format link session reply) link.correlator reply.text)

module _ {A : Type 0} (asks : A → Call → core.Answer → A → Type 0) where
  -- its replies, and what is kept
  pub at_once_done : (p : Plan) (a : Answer) (link : Link) (s next : Standing A) (bytes : List ℕ) → p ≡ at_once s.statements a → (f : IsFollowed asks p link s bytes next)
      → WasDone asks (at_once s.statements a).doing s.asked next.asked next.statements [] f.replies
  at_once_done p a link s next bytes is f =
      let W : Plan → Type 0 = λ q. WasDone asks q.doing s.asked next.asked next.statements [] f.replies in
      subst W is f.done

  -- what is remembered then
  pub at_once_session : (p : Plan) (a : Answer) (link : Link) (s next : Standing A) (bytes : List ℕ) → p ≡ at_once s.statements a → IsFollowed asks p link s bytes next
      → next.session ≡ (sent link a.session (a.reply ∷ [])).session
  at_once_session p a link s next bytes is f =
      let done = at_once_done p a link s next bytes is f in
      f.session ∙ ap (λ (q : Plan). (sent link q.session f.replies).session) is ∙ ap (λ (rs : List Reply). (sent link a.session rs).session) done.1.replied

  -- what is sent
  pub at_once_sent : (p : Plan) (a : Answer) (link : Link) (s next : Standing A) (bytes : List ℕ) → p ≡ at_once s.statements a → IsFollowed asks p link s bytes next
      → bytes ≡ written (one_format link a.session a.reply) link.correlator a.reply.text
  at_once_sent p a link s next bytes is f =
      let done = at_once_done p a link s next bytes is f in
      f.bytes_are ∙ ap (λ (q : Plan). (sent link q.session f.replies).bytes) is ∙ ap (λ (rs : List Reply). (sent link a.session rs).bytes) done.1.replied ∙ one_sent link a.session a.reply
