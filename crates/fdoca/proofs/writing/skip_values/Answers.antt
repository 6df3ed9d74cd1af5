use Rattle.std.proofs.Common.{◌<◌, arith, length, map}
use Rattle.row_values.specs.Column.{column_of}
use Rattle.fdoca.proofs.Walking.{column_at, cuts}
use Rattle.fdoca.proofs.writing.skip_values.Goals as goal

pub loop-j-preserved : goal.loop-j-preserved
loop-j-preserved c = record {
  there = λ values fit same.
      let within : c.loop-j.j < length c.args.columns.now = omega (arith, c.loop-j-test.true, c.requires.within) in
      let cut =
      cuts (map column_of c.args.columns.now) values c.loop-j.j (column_of c.index-columns-j.result) c.loop-j.rest.now c.split_value.result.0.now c.split_value.result.1.now fit
      (column_at c.args.columns.now c.loop-j.j c.index-columns-j.result within c.index-columns-j.is) (c.loop-j.invariant.there values fit same) c.split_value.ensures.cut in
      cut.back_is;
  shorter = omega (arith, c.loop-j.invariant.shorter, c.split_value.ensures.left);
}
