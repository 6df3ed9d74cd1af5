use Rattle.std.proofs.Common.{◌+◌, length, refl, arith}
use Rattle.drda_disk.proofs.Parts.{Torn-wider}
use Rattle.unit_journal.proofs.Staging.{laying, was_laid}
use Rattle.unit_journal.proofs.staged.Staged.lay_first.Goals as goal

pub returns-in_err-write_at-clause-any_moment : goal.returns-in_err-write_at-clause-any_moment
returns-in_err-write_at-clause-any_moment g c es u =
    laying g.D.Disk.is_modelled (g.D.Disk.life c.args.disk.now) c.args.self.now es u (c.args.self.now.journal.next + 1) (omega arith) c.bytes.result.now (omega arith) (g.D.Disk.life c.write_at.new.self) c.write_at.ensures.tears

pub returns-clause-any_moment : goal.returns-clause-any_moment
returns-clause-any_moment g c es u =
    laying g.D.Disk.is_modelled (g.D.Disk.life c.args.disk.now) c.args.self.now es u (c.args.self.now.journal.next + 1) (omega arith) c.bytes.result.now (omega arith) (g.D.Disk.life c.write_at.new.self) c.write_at.ensures.tears

pub returns-clause-there : goal.returns-clause-there
returns-clause-there g c es u =
    was_laid g.D.Disk.is_modelled (g.D.Disk.life c.args.disk.now) c.args.self.now es u (c.args.self.now.journal.next + 1) (omega arith) c.bytes.result.now (omega arith) c.args.group c.bytes.ensures.bytes (g.D.Disk.life c.write_at.new.self) _ c.write_at.ensures.tears
    (c.in_ok-write_at.ensures.written u.modelled_disk) refl refl refl refl refl refl

pub returns-in_err-write_at-clause-others : goal.returns-in_err-write_at-clause-others
returns-in_err-write_at-clause-others g c = Torn-wider (c.args.self.now.journal.next + 1) (length c.bytes.result.now) c.args.self.now.journal.region.at c.args.self.now.journal.region.length _ _ (omega arith) (omega arith) c.write_at.ensures.tears.others

pub returns-clause-others : goal.returns-clause-others
returns-clause-others g c = Torn-wider (c.args.self.now.journal.next + 1) (length c.bytes.result.now) c.args.self.now.journal.region.at c.args.self.now.journal.region.length _ _ (omega arith) (omega arith) c.write_at.ensures.tears.others
