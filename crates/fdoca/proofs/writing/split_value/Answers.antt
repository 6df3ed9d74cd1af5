use Rattle.std.proofs.Common.{arith}
use Rattle.row_values.specs.Column.{column_of}
use Rattle.fdoca.proofs.Sizes.{cut}
use Rattle.fdoca.proofs.writing.split_value.Goals as goal

pub returns-clause-cut : goal.returns-clause-cut
returns-clause-cut c = λ value rest fit same. cut (column_of c.args.column.now) value c.args.bytes.now rest _ _ c.value_size-size.result (omega arith) fit same c.value_size-size.ensures c.split_at.ensures.front c.split_at.ensures.back
