-- A text that was judged is UTF-8.
use Rattle.row_values.proofs.Known.{judged_text}
use Rattle.row_values.proofs.judged.take_typed.Goals as goal

pub from_utf8_unchecked-text-requires : goal.from_utf8_unchecked-text-requires
from_utf8_unchecked-text-requires c =
    judged_text c.args.kind c.args.bytes.now (c.in_ok-text-in-VarChar.text.now, c.in_ok-text-in-VarChar.rest.now) c.in-VarChar.is c.if-mark-ne-PRESENT.false c.in-len1-up.len_at_least c.in_ok-text-in-VarChar.ensures c.requires
