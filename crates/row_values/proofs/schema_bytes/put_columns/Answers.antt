-- Each column's bytes are the next.
use Rattle.std.proofs.Common.{◌≡◌, ◌+◌, ◌++◌, ℕ, List, [], ap, map, drop, ◌∙◌, arith}
use Rattle.std.proofs.lemmas.List.{drop_all, length-map}
use Rattle.std.specs.List.{flat_map}
use Rattle.std.proofs.lemmas.Result.{err_from_is_err_and}
use Rattle.row_values.specs.Column.{Column, column_of}
use Rattle.row_values.specs.Schema.{is_column}
use Rattle.row_values.specs.Bytes.{column_bytes}
use Rattle.row_values.proofs.Keys.{all_at}
use Rattle.row_values.proofs.RowSteps.{column_at, row_more, row_none}
use Rattle.row_values.proofs.ByteSteps.{columns_from}
use Rattle.row_values.proofs.Kept.{kept_more, kept_then}
use Rattle.row_values.proofs.schema_bytes.put_columns.Goals as goal

pub put_column-requires : goal.put_column-requires
put_column-requires c =
    all_at is_column (map column_of c.args.columns.now) c.loop-column.column-index (column_of c.column-item.result) c.requires
    (column_at c.args.columns.now c.loop-column.column-index c.column-item.result c.loop-column-test.true c.column-item.is)

pub loop-column-preserved : goal.loop-column-preserved
loop-column-preserved c =
    let step = columns_from (map column_of c.args.columns.now) c.loop-column.column-index (column_of c.column-item.result)
    (column_at c.args.columns.now c.loop-column.column-index c.column-item.result c.loop-column-test.true c.column-item.is) in
    record {
      bytes = ap (λ (l : List ℕ). l ++ flat_map column_bytes (drop (c.loop-column.column-index + 1) (map column_of c.args.columns.now))) c.in_ok-put_column.ensures.ok
          ∙ row_more c.loop-column.out.items _ _ _ _ step c.loop-column.invariant.bytes;
      kept = kept_then c.args.out.now.items c.loop-column.out.items c.put_column.new.out.items c.loop-column.invariant.kept (grind (arith, kept_more, c.in_ok-put_column.ensures.ok));
    }

pub returns : goal.returns
returns c =
    let count = length-map c.args.columns.now column_of in
    let end = c.loop-column-test.false in
    let none : drop c.loop-column.column-index (map column_of c.args.columns.now) ≡ [] = drop_all c.loop-column.column-index (map column_of c.args.columns.now) (omega (arith, count)) in
    record { ok = row_none c.loop-column.out.items _ _ (ap (λ (cs : List Column). flat_map column_bytes cs) none) c.loop-column.invariant.bytes; err = tt }

pub returns-in_err-put_column-clause-err : goal.returns-in_err-put_column-clause-err
returns-in_err-put_column-clause-err c =
    let error = err_from_is_err_and c.from_residual.result c.from_residual.ensures.1 in
    rw error.1 (kept_then c.args.out.now.items c.loop-column.out.items c.put_column.new.out.items c.loop-column.invariant.kept c.in_err-put_column.ensures.err)
