use Rattle.std.proofs.Common.{length, ◌∙◌, arith}
use Rattle.drda_disk.proofs.Moments.{torn_within}
use Rattle.drda_disk.proofs.Parts.{Torn-wider}
use Rattle.unit_journal.specs.Record.{entries_of}
use Rattle.unit_journal.proofs.Laying.{total_fits, short_all, length-laid, laid_stands}
use Rattle.unit_journal.proofs.journal.Journal.lay.Goals as goal

pub returns-clause-laid : goal.returns-clause-laid
returns-clause-laid g c honest =
    let total = total_fits _ _ _ _ _ (omega arith) c.laid_len-len.ensures c.saturating_add-need.ensures c.if-need-room.false in
    let is = c.deref.ensures.value ∙ c.in_ok-bytes.ensures in
    laid_stands c.args.region (entries_of c.args.records.now) (g.D.Disk.life c.args.disk.now).seen (g.D.Disk.life c.write_at.new.self).seen c.deref.result.now is (omega (arith, total, c.requires.place.some)) c.requires.place.inside
    (short_all (entries_of c.args.records.now) (omega (arith, total, c.requires.place.small))) (c.in_ok-write_at.ensures.written honest)

pub returns-in_err-write_at-clause-within : goal.returns-in_err-write_at-clause-within
returns-in_err-write_at-clause-within g c from m base low high within =
    let total = total_fits _ _ _ _ _ (omega arith) c.laid_len-len.ensures c.saturating_add-need.ensures c.if-need-room.false in
    let size = length-laid c.args.region (entries_of c.args.records.now) (g.D.Disk.life c.args.disk.now).seen (g.D.Disk.life c.write_at.new.self).seen c.deref.result.now (c.deref.ensures.value ∙ c.in_ok-bytes.ensures) (omega (arith, total, c.requires.place.some)) in
    torn_within c.args.region.at (length c.deref.result.now) from m base _ _ c.write_at.ensures.tears within low (omega (arith, total, size, high, c.requires.place.some))

pub returns-in_err-write_at-clause-others : goal.returns-in_err-write_at-clause-others
returns-in_err-write_at-clause-others g c =
    let total = total_fits _ _ _ _ _ (omega arith) c.laid_len-len.ensures c.saturating_add-need.ensures c.if-need-room.false in
    let size = length-laid c.args.region (entries_of c.args.records.now) (g.D.Disk.life c.args.disk.now).seen (g.D.Disk.life c.write_at.new.self).seen c.deref.result.now (c.deref.ensures.value ∙ c.in_ok-bytes.ensures) (omega (arith, total, c.requires.place.some)) in
    Torn-wider c.args.region.at (length c.deref.result.now) c.args.region.at c.args.region.length _ _ (omega arith) (omega (arith, total, size, c.requires.place.some)) c.write_at.ensures.tears.others

pub returns-clause-within : goal.returns-clause-within
returns-clause-within g c from m base low high within =
    let total = total_fits _ _ _ _ _ (omega arith) c.laid_len-len.ensures c.saturating_add-need.ensures c.if-need-room.false in
    let size = length-laid c.args.region (entries_of c.args.records.now) (g.D.Disk.life c.args.disk.now).seen (g.D.Disk.life c.write_at.new.self).seen c.deref.result.now (c.deref.ensures.value ∙ c.in_ok-bytes.ensures) (omega (arith, total, c.requires.place.some)) in
    torn_within c.args.region.at (length c.deref.result.now) from m base _ _ c.write_at.ensures.tears within low (omega (arith, total, size, high, c.requires.place.some))

pub returns-clause-others : goal.returns-clause-others
returns-clause-others g c =
    let total = total_fits _ _ _ _ _ (omega arith) c.laid_len-len.ensures c.saturating_add-need.ensures c.if-need-room.false in
    let size = length-laid c.args.region (entries_of c.args.records.now) (g.D.Disk.life c.args.disk.now).seen (g.D.Disk.life c.write_at.new.self).seen c.deref.result.now (c.deref.ensures.value ∙ c.in_ok-bytes.ensures) (omega (arith, total, c.requires.place.some)) in
    Torn-wider c.args.region.at (length c.deref.result.now) c.args.region.at c.args.region.length _ _ (omega arith) (omega (arith, total, size, c.requires.place.some)) c.write_at.ensures.tears.others
