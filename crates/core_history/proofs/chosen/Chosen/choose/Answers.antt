use Rattle.std.proofs.Common.{length, refl}
use Rattle.std.proofs.lemmas.Option.{slice_get_read}
use Rattle.core_history.proofs.chosen.Chosen.choose.Goals as goal

pub loop-wish-preserved : goal.loop-wish-preserved
loop-wish-preserved g c =
    let wishes = c.args.wishes.now in
    let i = c.loop-wish.wish-index in
    let kept = c.loop-wish.invariant in
    let all = c.consider.ensures in
    let chosen = c.if-not-consider.false in
    record {
      members = all.members chosen wishes i (slice_get_read wishes (length wishes) i c.wish-item.result refl c.loop-wish-test.true c.wish-item.is) kept.members;
      apart = all.apart chosen kept.apart;
      few = all.few chosen kept.few;
    }
