use Rattle.std.proofs.Common.{rules, ◌≡◌}
use Rattle.half_store.specs.declared.header.Layout.TheVariants.{One, Two}
use Rattle.drda_program.proofs.Decided.{migrated, of_new_layout}
use Rattle.drda_program.proofs.deciding.decide_on.Goals as goal

pub returns-in_ok-migrate-clause-ends : goal.returns-in_ok-migrate-clause-ends
returns-in_ok-migrate-clause-ends g c =
    let old : c.args.core.now.layout ≡ One = search rules in
    migrated g.D.Disk.is_modelled g.D.Disk.life c.args.xid.now c.args.decision c.args.core.now c.settle.new.core c.migrate.new.core c.settle.result old c.in_ok-migrate.ensures.migrates c.settle.ensures.settles

pub returns-else-is_of_old_layout-clause-ends : goal.returns-else-is_of_old_layout-clause-ends
returns-else-is_of_old_layout-clause-ends g c =
    let new : c.args.core.now.layout ≡ Two = search rules in
    of_new_layout g.D.Disk.is_modelled g.D.Disk.life c.args.xid.now c.args.decision c.args.core.now c.settle-else-is_of_old_layout.new.core c.settle-else-is_of_old_layout.result new c.settle-else-is_of_old_layout.ensures.settles
