use Rattle.std.proofs.Common.{[], ◌∷◌, ◌+◌, ◌*◌, ap, arith, length, length-append, ◌∙◌}
use Rattle.drda_disk.proofs.Moments.{Stays-refl, Stays-trans}
use Rattle.checkpoint_writer_tests.proofs.pages.first_keys.Goals as goal

pub loop-page-init : goal.loop-page-init
loop-page-init g c = record { stays = Stays-refl _; count = ap length c.new-keys.ensures.items }

pub first_key-requires : goal.first_key-requires
first_key-requires g c = omega (arith, c.requires.inside, ap length c.loop-page.invariant.stays.same)

pub loop-page-preserved : goal.loop-page-preserved
loop-page-preserved g c = record {
  stays = Stays-trans _ _ _ c.loop-page.invariant.stays c.first_key.ensures;
  count = omega (arith, ap length c.in-Ok.ensures.items, length-append c.loop-page.keys.items (c.in_ok-key.key ∷ []), c.loop-page.invariant.count);
}
