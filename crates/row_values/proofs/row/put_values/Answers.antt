-- Each column's value fits it, and its bytes are the next of the row.
use Rattle.std.proofs.Common.{◌+◌, ◌++◌, ℕ, List, ap, ◌∙◌, map, drop}
use Rattle.row_values.specs.declared.value.Value.TheVariants.{Null}
use Rattle.row_values.specs.Value.{value_of}
use Rattle.row_values.specs.Column.{column_of}
use Rattle.row_values.specs.Row.{row_bytes}
use Rattle.row_values.proofs.RowSteps.{column_at, value_at_place, fits_at, row_at, row_ends, in_columns, row_more, row_none}
use Rattle.row_values.proofs.row.put_values.Goals as goal

pub bounds-columns-i : goal.bounds-columns-i
bounds-columns-i c = in_columns c.args.columns.now c.args.values.now c.loop-i.i c.requires c.loop-i-test.true

pub put_value-requires : goal.put_value-requires
put_value-requires c =
    fits_at (map column_of c.args.columns.now) (map value_of c.args.values.now) c.loop-i.i _ _ c.requires
    (column_at c.args.columns.now c.loop-i.i c.index-columns-i.result (in_columns c.args.columns.now c.args.values.now c.loop-i.i c.requires c.loop-i-test.true) c.index-columns-i.is)
    (value_at_place c.args.values.now c.loop-i.i Null c.loop-i-test.true)

pub loop-i-preserved : goal.loop-i-preserved
loop-i-preserved c =
    let step = row_at (map column_of c.args.columns.now) (map value_of c.args.values.now) c.loop-i.i _ _
    (column_at c.args.columns.now c.loop-i.i c.index-columns-i.result (in_columns c.args.columns.now c.args.values.now c.loop-i.i c.requires c.loop-i-test.true) c.index-columns-i.is)
    (value_at_place c.args.values.now c.loop-i.i Null c.loop-i-test.true) in
    ap (λ (l : List ℕ). l ++ row_bytes (drop (c.loop-i.i + 1) (map column_of c.args.columns.now)) (drop (c.loop-i.i + 1) (map value_of c.args.values.now))) c.in_ok-put_value.ensures
    ∙ row_more c.loop-i.out.items _ _ _ _ step c.loop-i.invariant

pub returns : goal.returns
returns c =
    let end = row_ends c.args.columns.now c.args.values.now c.loop-i.i c.requires c.loop-i-test.false in
    row_none c.loop-i.out.items _ _ end c.loop-i.invariant
