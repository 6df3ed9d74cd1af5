use Rattle.std.proofs.Common.{◌≡◌, ◌∙◌, refl, sym, ap, ℕ, ◌+◌, List, rules, arith}
use Rattle.drda_words.specs.Place.{part}
use Rattle.drda_disk.proofs.Moments.{Stays-refl, Stays-trans, and_then, no_call}
use Rattle.grown_stores.proofs.Copied.{one_more}
use Rattle.grown_stores.proofs.copying.copy.Goals as goal

pub loop-done-init : goal.loop-done-init
loop-done-init g c = record {
  within = omega arith;
  copied = λ one other. refl;
  stays = Stays-refl (g.D.Disk.life c.args.old.now);
  size = refl;
  moments = λ bare. no_call (g.E.Disk.life c.args.new.now) _ bare;
}

pub returns-in_err-copy_some-clause-stays : goal.returns-in_err-copy_some-clause-stays
returns-in_err-copy_some-clause-stays g c = Stays-trans _ _ _ c.loop-done.invariant.stays c.copy_some.ensures.stays

pub returns-in_err-copy_some-clause-moments : goal.returns-in_err-copy_some-clause-moments
returns-in_err-copy_some-clause-moments g c bare =
    let first = c.loop-done.invariant.moments bare in
    and_then _ _ _ _ _ _ first (c.copy_some.ensures.moments first.now) (λ i is. is) (λ i is. is)

pub loop-done-preserved : goal.loop-done-preserved
loop-done-preserved g c =
    let so = c.loop-done.invariant in
    record {
      within = omega arith;
      copied = λ one other.
          one_more (g.D.Disk.life c.args.old.now).seen (g.D.Disk.life c.loop-done.old).seen (g.E.Disk.life c.loop-done.new).seen (g.E.Disk.life c.copy_some.new.new).seen c.args.from c.loop-done.done _
          so.stays.same (so.copied one other) c.copy_some.ensures.others (c.in_ok-copy_some.ensures.copied one other);
      stays = Stays-trans _ _ _ so.stays c.copy_some.ensures.stays;
      size = c.copy_some.ensures.others.size ∙ so.size;
      moments = λ bare. let first = so.moments bare in and_then _ _ _ _ _ _ first (c.copy_some.ensures.moments first.now) (λ i is. is) (λ i is. is);
    }

pub overflow_add-from : goal.overflow_add-from
overflow_add-from g c = omega (arith, c.loop-done.invariant.within, c.requires.small.0)

pub overflow_add-done : goal.overflow_add-done
overflow_add-done g c = omega (arith, c.loop-done.invariant.within, c.requires.small.1)
