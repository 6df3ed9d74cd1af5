-- The disk is as it was read.
use Rattle.std.proofs.Common.{IsTrue, OnOk, length, subst, sym}
use Rattle.drda_disk.specs.Disk.{Stays}
use Rattle.half_store.specs.Layout.{is_store_size}
use Rattle.half_store.specs.Opened.{CountsOpen}
use Rattle.journal_recorder.proofs.checkpointing.find_active.Goals as goal

pub returns-clause-size : goal.returns-clause-size
returns-clause-size g c = subst (λ (d : g.row.D.Denot). OnOk c.open-found.result (IsTrue (is_store_size (length (g.D.Disk.life d).seen)))) (sym c.forget.ensures) c.open-found.ensures.size

pub returns-clause-stays : goal.returns-clause-stays
returns-clause-stays g c = subst (λ (d : g.row.D.Denot). Stays (g.D.Disk.life c.args.pager.now) (g.D.Disk.life d)) (sym c.forget.ensures) c.open-found.ensures.stays

pub returns-clause-cause : goal.returns-clause-cause
returns-clause-cause g c = subst (λ (d : g.row.D.Denot). CountsOpen c.open-found.result (g.D.Disk.life c.args.pager.now).faults (g.D.Disk.life d).faults) (sym c.forget.ensures) c.open-found.ensures.cause
