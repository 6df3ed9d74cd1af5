use Rattle.std.proofs.Common.{◌+◌, length, refl, arith}
use Rattle.drda_disk.proofs.Parts.{Torn-wider}
use Rattle.unit_journal.proofs.Staging.{laying, was_laid_behind}
use Rattle.unit_journal.proofs.staged.Staged.lay_behind.Goals as goal

pub returns-in_err-write_at-clause-any_moment : goal.returns-in_err-write_at-clause-any_moment
returns-in_err-write_at-clause-any_moment g c es u =
    let place = c.requires.place in
    laying g.D.Disk.is_modelled (g.D.Disk.life c.args.disk.now) c.args.self.now es u c.args.at (omega (arith, place.place)) c.bytes.result.now (omega (arith, place.fits)) (g.D.Disk.life c.write_at.new.self) c.write_at.ensures.tears

pub returns-clause-any_moment : goal.returns-clause-any_moment
returns-clause-any_moment g c es u =
    let place = c.requires.place in
    laying g.D.Disk.is_modelled (g.D.Disk.life c.args.disk.now) c.args.self.now es u c.args.at (omega (arith, place.place)) c.bytes.result.now (omega (arith, place.fits)) (g.D.Disk.life c.write_at.new.self) c.write_at.ensures.tears

pub returns-clause-there : goal.returns-clause-there
returns-clause-there g c es u =
    let place = c.requires.place in
    was_laid_behind g.D.Disk.is_modelled (g.D.Disk.life c.args.disk.now) c.args.self.now es u c.args.at (omega (arith, place.place)) c.bytes.result.now (omega (arith, place.fits)) c.args.group c.bytes.ensures.bytes
    (g.D.Disk.life c.write_at.new.self) _ c.write_at.ensures.tears (c.in_ok-write_at.ensures.written u.modelled_disk) refl refl refl place.place place.settled refl refl

pub returns-in_err-write_at-clause-others : goal.returns-in_err-write_at-clause-others
returns-in_err-write_at-clause-others g c =
    let place = c.requires.place in
    Torn-wider c.args.at (length c.bytes.result.now) c.args.self.now.journal.region.at c.args.self.now.journal.region.length _ _ (omega (arith, place.place)) (omega (arith, place.fits)) c.write_at.ensures.tears.others

pub returns-clause-others : goal.returns-clause-others
returns-clause-others g c =
    let place = c.requires.place in
    Torn-wider c.args.at (length c.bytes.result.now) c.args.self.now.journal.region.at c.args.self.now.journal.region.length _ _ (omega (arith, place.place)) (omega (arith, place.fits)) c.write_at.ensures.tears.others
