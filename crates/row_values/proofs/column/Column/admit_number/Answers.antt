-- An `i64` is in the range of BIGINT.
use Rattle.std.proofs.Common.{refl}
use Rattle.row_values.proofs.RowLaws.{is_eight}
use Rattle.row_values.proofs.column.Column.admit_number.Goals as goal

pub returns-in-BigInt : goal.returns-in-BigInt
returns-in-BigInt c = rw (c.in-BigInt.is, is_eight c.args.number c.ranges.number) refl
