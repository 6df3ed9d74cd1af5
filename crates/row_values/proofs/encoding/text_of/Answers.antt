-- `from_utf8` tells UTF-8 from what is not.
use Rattle.row_values.proofs.Fitting.{utf8_told}
use Rattle.row_values.proofs.encoding.text_of.Goals as goal

pub returns : goal.returns
returns c = utf8_told c.args.bytes.now _ c.from_utf8.result c.ok.result c.ok.ensures.value c.from_utf8.ensures.cases
