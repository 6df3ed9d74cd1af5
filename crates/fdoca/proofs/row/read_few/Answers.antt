use Rattle.std.proofs.Common.{◌<◌, ◌∙◌, arith, ap, map, take, length}
use Rattle.std.proofs.lemmas.List.{length-set, map_push, take_more_set}
use Rattle.std.proofs.lemmas.Option.{slice_get-get_or}
use Rattle.row_values.specs.Value.{value_of}
use Rattle.fdoca.specs.Reading.{values_at}
use Rattle.fdoca.proofs.Steps.{value_step}
use Rattle.fdoca.proofs.row.read_few.Goals as goal

pub loop-i-preserved : goal.loop-i-preserved
loop-i-preserved c =
    let within : c.loop-i.i < length c.loop-i.few = omega (arith, c.loop-i-test.true, c.requires, c.loop-i.invariant.places) in
    record {
      read =
          value_step c.args.fields.now c.loop-i.i _ (map value_of (take c.loop-i.i c.loop-i.few)) _ (value_of c.in-Some.value) c.loop-i.rest.now c.in-Some.behind.now (values_at c.args.fields.now c.args.bytes.now)
          (slice_get-get_or c.args.fields.now c.loop-i.i _ c.loop-i-test.true)
          c.in-Some.ensures
          (ap (map value_of) (take_more_set c.loop-i.few c.loop-i.i c.in-Some.value within) ∙ map_push value_of (take c.loop-i.i c.loop-i.few) c.in-Some.value)
          c.loop-i.invariant.read;
      places = length-set c.loop-i.few c.loop-i.i c.in-Some.value ∙ c.loop-i.invariant.places;
    }
