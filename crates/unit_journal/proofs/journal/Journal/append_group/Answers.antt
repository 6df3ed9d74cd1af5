use Rattle.std.proofs.Common.{length, subst, sym}
use Rattle.unit_journal.specs.Adding.{Adds, MayAdd}
use Rattle.unit_journal.proofs.journal.Journal.append_group.Goals as goal

pub append_behind-requires : goal.append_behind-requires
append_behind-requires g c = record { may = subst (λ n. MayAdd (length (g.D.Disk.life c.args.disk.now).seen) c.args.self.now n c.args.hold c.args.release) (sym c.bytes.ensures.len) c.requires.may }

pub returns-clause-adds : goal.returns-clause-adds
returns-clause-adds g c =
    subst (λ n. Adds g.D.Disk.is_modelled (g.D.Disk.life c.args.disk.now) (g.D.Disk.life c.append_behind.new.disk) c.args.self.now c.append_behind.new.self c.args.group.now n c.args.hold c.args.release c.append_behind.result) c.bytes.ensures.len
    (c.append_behind.ensures.adds c.args.group.now c.bytes.ensures.bytes)
