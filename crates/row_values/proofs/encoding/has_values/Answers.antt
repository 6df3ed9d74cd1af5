-- A value is read, or none is, and then the bytes have no values.
use Rattle.std.proofs.Common.{map, sym, ◌∙◌}
use Rattle.row_values.specs.Column.{column_of}
use Rattle.row_values.proofs.RowSteps.{column_at}
use Rattle.row_values.proofs.ReadSteps.{none_step, some_step}
use Rattle.row_values.proofs.encoding.has_values.Goals as goal

pub returns-in-None : goal.returns-in-None
returns-in-None c =
    sym (none_step (map column_of c.args.columns.now) c.loop-column.column-index (column_of c.column-item.result) c.loop-column.rest.now
    (column_at c.args.columns.now c.loop-column.column-index c.column-item.result c.loop-column-test.true c.column-item.is) c.in-None.ensures)
    ∙ c.loop-column.invariant

pub loop-column-preserved : goal.loop-column-preserved
loop-column-preserved c =
    some_step (map column_of c.args.columns.now) c.loop-column.column-index (column_of c.column-item.result) c.loop-column.rest.now _
    (column_at c.args.columns.now c.loop-column.column-index c.column-item.result c.loop-column-test.true c.column-item.is) c.in-Some.ensures
    ∙ c.loop-column.invariant
