use Rattle.std.proofs.Common.{◌≡◌, ◌≤◌, ℕ, ◌+◌, List, ◌++◌, Result, Ok, Err, OnOk, IsOk, sym, ap, subst, ◌∙◌, length, arith}
use Rattle.std.specs.Prelude.{vec_len, vec_capacity}
use Rattle.dss_frames.specs.Writing.{written, written_length}
use Rattle.sqlam_replies.specs.declared.message.ReplyMessage.TheVariants.{Syntax}
use Rattle.sqlam_replies.specs.Message.{message_of, message_text}
use Rattle.conversation.proofs.front.answer_fault.Goals as goal

it_is : {A E : Type 0} (P : Type 0) (r : Result A E) → IsOk r → OnOk r P → P
it_is P (Ok x) ok p = p
it_is P (Err e) ok p = absurd cc

pub returns : goal.returns
returns c =
    let long : length c.syntax_message-message.result ≡ 15 = omega arith in
    let room = subst (λ (n : ℕ). vec_len c.args.out.now + written_length n ≤ vec_capacity c.args.out.now) (sym long) c.requires in
    it_is _ c.write_dss.result (c.write_dss.ensures.room room) c.write_dss.ensures.ok
    ∙ ap (λ (text : List ℕ). c.args.out.now.items ++ written 2 c.args.fault.correlator text) (c.syntax_message-message.ensures ∙ ap (λ (code : ℕ). message_text (message_of (Syntax code))) c.synerrcd.ensures)
