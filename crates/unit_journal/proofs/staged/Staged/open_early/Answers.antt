use Rattle.std.proofs.Common.{◌+◌, ◌<◌, ◌^◌, length, arith, refl}
use Rattle.unit_journal.specs.Record.{AreShort}
use Rattle.unit_journal.proofs.Laying.{short_all}
use Rattle.unit_journal.proofs.Staging.{early_gate}
use Rattle.unit_journal.proofs.staged.Staged.open_early.Goals as goal

pub write_early-requires-clause-allowed : goal.write_early-requires-clause-allowed
write_early-requires-clause-allowed g c is d image now torn =
    let may = c.requires.allowed is (omega arith) in
    let short : AreShort c.args.group.now = short_all c.args.group.now (omega arith) in
    may.allowed d image (may.there.images d now)
    (early_gate g.D.Disk.is_modelled (g.D.Disk.life c.args.disk.now) c.args.self.now may.es c.args.group.now may.there (c.if-not-is_ahead.ensures refl) (c.if-not-has_settled.ensures refl)
    c.bytes-size.result.now c.bytes-size.ensures.bytes short (omega arith) d image now torn)
