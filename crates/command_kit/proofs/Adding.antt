-- What a reply that is added behind others makes of them.
use Rattle.std.proofs.Common.{◌≡◌, ◌≤◌, ℕ, ◌+◌, ◌-◌, List, [], ◌∷◌, ◌++◌, length, drop, sym, ap, ap₂, ◌∙◌, arith, length-append}
use Rattle.std.proofs.lemmas.List.{take_all, take-append-le, drop-append-le, length-drop}
use Rattle.dss_frames.specs.Writing.{first_size, written_length}
use Rattle.sqlam_replies.specs.declared.reply_kind.ReplyKind.{ReplyKind}
use Rattle.sqlam_replies.specs.Kind.{dss_type_of}
use Rattle.sqlam_replies.specs.Reply.{Reply}
use Rattle.command_kit.specs.Replies.{lengths_of, replies_of}
use Rattle.command_kit.specs.Sizes.{OneSegmentHasOneHeader, RepliesAddUp, written_lengths}
use Rattle.command_kit.specs.declared.head.Head.{Head}

abbrev reply_by : Head → List ℕ → Reply
reply_by head text = record { dss_type = dss_type_of head.kind; severity = head.severity; text = text }

-- the bytes behind those of the others are the text of the head behind the others
behind : (heads : List Head) (head : Head) (text more : List ℕ) → lengths_of heads ≡ length text → head.length ≡ length more
    → replies_of (heads ++ head ∷ []) (text ++ more) ≡ replies_of heads text ++ reply_by head more ∷ []
behind [] head [] more whole is = ap (λ (t : List ℕ). reply_by head t ∷ []) (take_all head.length more (omega (arith, is)))
behind [] head (byte ∷ text) more whole is = absurd (cc whole)
behind (first ∷ heads) head text more whole is =
    let le : first.length ≤ length text = omega (arith, whole) in
    let cut = length-drop first.length text in
    let left : lengths_of heads ≡ length (drop first.length text) = omega (arith, whole, cut) in
    ap₂ (λ (t : List ℕ) (rs : List Reply). reply_by first t ∷ rs) (take-append-le first.length text more le)
    (ap (replies_of (heads ++ head ∷ [])) (drop-append-le first.length text more le) ∙ behind heads head (drop first.length text) more left is)

lengths_behind : (heads : List Head) (head : Head) → lengths_of (heads ++ head ∷ []) ≡ lengths_of heads + head.length
lengths_behind [] head = omega arith
lengths_behind (first ∷ heads) head = let others = lengths_behind heads head in omega (arith, others)

-- replies in their memory, and behind them one more with its head
pub record IsAdded (heads heads' : List Head) (text text' : List ℕ) (head : Head) (reply : Reply) : Type 0 where
  pub whole : lengths_of heads ≡ length text
  pub pushed : heads' ≡ heads ++ head ∷ []
  pub appended : text' ≡ text ++ reply.text
  pub kind : dss_type_of head.kind ≡ reply.dss_type
  pub severity : head.severity ≡ reply.severity
  pub counted : head.length ≡ length reply.text

-- the head's length is what the list of bytes has grown by
pub added : (heads heads' : List Head) (text text' : List ℕ) (kind : ReplyKind) (severity start end : ℕ) (reply : Reply)
    → lengths_of heads ≡ length text → heads' ≡ heads ++ record { kind = kind; severity = severity; length = end - start } ∷ [] → text' ≡ text ++ reply.text
    → dss_type_of kind ≡ reply.dss_type → severity ≡ reply.severity → start ≡ length text → end ≡ length text'
    → IsAdded heads heads' text text' (record { kind = kind; severity = severity; length = end - start }) reply
added heads heads' text text' kind severity start end reply whole pushed appended kind_is severity_is starts ends =
    let sum = ap length appended ∙ length-append text reply.text in
    record { whole = whole; pushed = pushed; appended = appended; kind = kind_is; severity = severity_is; counted = omega (arith, sum, starts, ends) }

pub still_whole : (heads heads' : List Head) (text text' : List ℕ) (head : Head) (reply : Reply) → IsAdded heads heads' text text' head reply
    → lengths_of heads' ≡ length text'
still_whole heads heads' text text' head reply a =
    let sum = lengths_behind heads head in
    let all = length-append text reply.text in
    let whole = a.whole in
    let counted = a.counted in
    let joined : lengths_of (heads ++ head ∷ []) ≡ length (text ++ reply.text) = omega (arith, sum, all, whole, counted) in
    ap lengths_of a.pushed ∙ joined ∙ ap length (sym a.appended)

pub one_more : (heads heads' : List Head) (text text' : List ℕ) (head : Head) (reply : Reply) (before : List Reply) → IsAdded heads heads' text text' head reply
    → replies_of heads text ≡ before → replies_of heads' text' ≡ before ++ reply ∷ []
one_more heads heads' text text' head reply before a is =
    ap₂ replies_of a.pushed a.appended
    ∙ behind heads head text reply.text a.whole a.counted
    ∙ ap (λ (rs : List Reply). rs ++ reply_by head reply.text ∷ []) is
    ∙ ap (λ (k : ℕ). before ++ record { dss_type = k; severity = head.severity; text = reply.text } ∷ []) a.kind
    ∙ ap (λ (s : ℕ). before ++ record { dss_type = reply.dss_type; severity = s; text = reply.text } ∷ []) a.severity

longer : (n m : ℕ) → n ≤ m → written_length n ≤ written_length m
longer n m le = omega (arith, le)

-- and so their bytes grow by at most those of the longest text
pub grown : RepliesAddUp → (before after : List Reply) (reply : Reply) (most : ℕ) → after ≡ before ++ reply ∷ [] → length reply.text ≤ most
    → written_lengths after ≤ written_lengths before + written_length most
grown sum before after reply most is short =
    let one = longer (length reply.text) most short in
    let all = ap written_lengths is ∙ sum before (reply ∷ []) in
    omega (arith, one, all)

pub grown_short : RepliesAddUp → OneSegmentHasOneHeader → (before after : List Reply) (reply : Reply) (most : ℕ) → after ≡ before ++ reply ∷ [] → length reply.text ≤ most
    → most ≤ first_size → written_lengths after ≤ written_lengths before + (6 + most)
grown_short sum segment before after reply most is short fits =
    let all = grown sum before after reply most is short in
    let one = segment most fits in
    omega (arith, all, one)
