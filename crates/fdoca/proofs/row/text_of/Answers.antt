use Rattle.fdoca.proofs.Utf8.{utf8_told}
use Rattle.fdoca.proofs.row.text_of.Goals as goal

pub returns : goal.returns
returns c = utf8_told c.args.bytes.now _ c.from_utf8.result c.ok.result c.ok.ensures.value c.from_utf8.ensures.cases
