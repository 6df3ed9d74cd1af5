-- The replies to a command, as they lie one behind another in one list of bytes.
use Rattle.std.specs.Prelude.{ℕ, ◌+◌, List, [], ◌∷◌, take, drop}
use Rattle.sqlam_replies.specs.Kind.{dss_type_of}
use Rattle.sqlam_replies.specs.Reply.{Reply}
use Rattle.command_kit.specs.declared.head.Head.{Head}
use Rattle.command_kit.specs.declared.reply_list.ReplyList.{ReplyList}
use Rattle.command_kit.specs.declared.reply_list.ReplyRef.{ReplyRef}

-- the replies that were added, and room for more: so many bytes of text, and so many replies
pub record Replies : Type 0 where
  pub list : List Reply
  pub text_room : ℕ
  pub count_room : ℕ

-- the replies that have these heads: the text of each begins where that of the one before ends
abbrev pub replies_of : List Head → List ℕ → List Reply
replies_of [] text = []
replies_of (head ∷ heads) text =
    record { dss_type = dss_type_of head.kind; severity = head.severity; text = take head.length text } ∷ replies_of heads (drop head.length text)

-- how many bytes their texts have
abbrev pub lengths_of : List Head → ℕ
lengths_of [] = 0
lengths_of (head ∷ heads) = head.length + lengths_of heads

-- replies that are walked, and one of them
abbrev pub replies_in : ReplyList → List Reply
replies_in list = replies_of list.heads.now list.text.now

abbrev pub reply_at : ReplyRef → Reply
reply_at reply = record { dss_type = dss_type_of reply.kind; severity = reply.severity; text = reply.text.now }
