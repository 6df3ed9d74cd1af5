use Rattle.std.proofs.Common.{List, subst, ℕ}
use Rattle.drda_disk.specs.Disk.{LeavesOnly}
use Rattle.grown_stores.specs.Growing.{IsNoneOrGrown}
use Rattle.grown_stores.proofs.Finished.{untouched}
use Rattle.grown_stores.proofs.growing.grow.Goals as goal

pub returns-in-Ok-clause-moments : goal.returns-in-Ok-clause-moments
returns-in-Ok-clause-moments g c one other bare =
    subst (λ (l : List ℕ). LeavesOnly (g.E.Disk.life c.args.new.now) (g.E.Disk.life c.grow_half.new.new) (IsNoneOrGrown l)) c.open.ensures.stays.same (c.grow_half.ensures.moments one other bare)

pub returns-in-Err-clause-moments : goal.returns-in-Err-clause-moments
returns-in-Err-clause-moments g c one other bare = untouched (g.D.Disk.life c.args.old.now).seen (g.E.Disk.life c.args.new.now) bare
