-- Each value up to the place is read, since the bytes have values.
use Rattle.std.proofs.Common.{◌<◌, map, arith, length}
use Rattle.row_values.specs.Value.{value_of}
use Rattle.row_values.specs.Column.{column_of}
use Rattle.row_values.proofs.RowSteps.{column_at}
use Rattle.row_values.proofs.ReadSteps.{stands_first, stands_step, stands_there}
use Rattle.row_values.proofs.judged.from_column.Goals as goal

pub loop-j-init : goal.loop-j-init
loop-j-init c = stands_first (map column_of c.args.columns.now) c.args.bytes.now c.requires.values

pub take_value-requires : goal.take_value-requires
take_value-requires c =
    let within : c.loop-j.j < length c.args.columns.now = let lt = c.loop-j-test.true in let le = c.requires.inside in omega arith in
    stands_there (map column_of c.args.columns.now) c.args.bytes.now c.loop-j.j (column_of c.index-columns-j.result) c.loop-j.rest.now
    (column_at c.args.columns.now c.loop-j.j c.index-columns-j.result within c.index-columns-j.is) c.loop-j.invariant

pub loop-j-preserved : goal.loop-j-preserved
loop-j-preserved c =
    let within : c.loop-j.j < length c.args.columns.now = let lt = c.loop-j-test.true in let le = c.requires.inside in omega arith in
    stands_step (map column_of c.args.columns.now) c.args.bytes.now c.loop-j.j (column_of c.index-columns-j.result) c.loop-j.rest.now (value_of c.take_value.result.0, c.take_value.result.1.now) (λ i. (c.type_inv.bytes i).fits)
    (column_at c.args.columns.now c.loop-j.j c.index-columns-j.result within c.index-columns-j.is)
    c.take_value.ensures c.loop-j.invariant
