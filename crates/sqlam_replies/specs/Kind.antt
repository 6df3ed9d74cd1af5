-- The number of a reply's DSS type (DRDA V5 volume 3, "Data Stream Structures").
use Rattle.std.specs.Prelude.{ℕ}
use Rattle.sqlam_replies.specs.declared.reply_kind.ReplyKind.{ReplyKind}
use Rattle.sqlam_replies.specs.declared.reply_kind.ReplyKind.TheVariants.{Message, Object}

abbrev pub dss_type_of : ReplyKind → ℕ
dss_type_of Message = 2
dss_type_of Object = 3
