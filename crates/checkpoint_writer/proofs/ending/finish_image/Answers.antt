use Rattle.std.proofs.Common.{rules, ◌+◌, length, sym, subst}
use Rattle.unit_journal.specs.Record.{entries_of, laid}
use Rattle.half_store.specs.Opened.{store_of}
use Rattle.half_store.specs.Writing.{IsWriting}
use Rattle.checkpoint_writer.proofs.Moments.{ended, fit_there, laid_writing, laying, no_switch, switching}
use Rattle.checkpoint_writer.proofs.ending.finish_image.Goals as goal

pub returns-in_err-journal-clause-any_moment : goal.returns-in_err-journal-clause-any_moment
returns-in_err-journal-clause-any_moment g c base is =
    laying base (store_of c.args.active.now) c.args.image g.D.Disk.is_modelled (g.D.Disk.life c.args.disk.now) is c.finish_pages.result c.finish_pages.ensures.begins c.finish_pages.ensures.ends
    (g.D.Disk.life c.lay.new.disk) c.args.first_catalogue c.args.catalogue_pages (entries_of c.args.records.now) c.args.held c.lay.ensures.within

pub returns-in_err-active-clause-any_moment : goal.returns-in_err-active-clause-any_moment
returns-in_err-active-clause-any_moment g c base is =
    switching base (store_of c.args.active.now) c.args.image g.D.Disk.is_modelled (g.D.Disk.life c.args.disk.now) is c.finish_pages.result c.finish_pages.ensures.begins c.finish_pages.ensures.ends
    (g.D.Disk.life c.lay.new.disk) (g.D.Disk.life c.switch.new.disk) c.args.first_catalogue c.args.catalogue_pages (entries_of c.args.records.now) c.args.held c.lay.ensures.within c.lay.ensures.others
    (fit_there c.args.image c.finish_pages.result (length (laid (entries_of c.args.records.now)) + c.args.held) c.finish_pages.ensures.begins c.finish_pages.ensures.ends c.finish_pages.ensures.some c.in_ok-journal.ensures.full)
    (c.in_ok-journal.ensures.laid is.modelled_disk)
    (c.switch.ensures.any_moment base (laid_writing base (store_of c.args.active.now) c.args.image g.D.Disk.is_modelled (g.D.Disk.life c.args.disk.now) is c.finish_pages.result c.finish_pages.ensures.begins c.finish_pages.ensures.ends (g.D.Disk.life c.lay.new.disk) c.lay.ensures.within))

pub returns-in_err-active-clause-refused : goal.returns-in_err-active-clause-refused
returns-in_err-active-clause-refused g c =
    no_switch _ _ c.in_err-active.field-0.0 c.switch.result c.from_residual-in_err-active.result (search rules) (search rules)
    (λ same base is. subst (λ d. IsWriting g.D.Disk.is_modelled (g.D.Disk.life d) base (store_of c.args.active.now) c.args.image) (sym same)
    (laid_writing base (store_of c.args.active.now) c.args.image g.D.Disk.is_modelled (g.D.Disk.life c.args.disk.now) is c.finish_pages.result c.finish_pages.ensures.begins c.finish_pages.ensures.ends (g.D.Disk.life c.lay.new.disk) c.lay.ensures.within))
    c.switch.ensures.refused

pub returns-clause-any_moment : goal.returns-clause-any_moment
returns-clause-any_moment g c base is =
    switching base (store_of c.args.active.now) c.args.image g.D.Disk.is_modelled (g.D.Disk.life c.args.disk.now) is c.finish_pages.result c.finish_pages.ensures.begins c.finish_pages.ensures.ends
    (g.D.Disk.life c.lay.new.disk) (g.D.Disk.life c.switch.new.disk) c.args.first_catalogue c.args.catalogue_pages (entries_of c.args.records.now) c.args.held c.lay.ensures.within c.lay.ensures.others
    (fit_there c.args.image c.finish_pages.result (length (laid (entries_of c.args.records.now)) + c.args.held) c.finish_pages.ensures.begins c.finish_pages.ensures.ends c.finish_pages.ensures.some c.in_ok-journal.ensures.full)
    (c.in_ok-journal.ensures.laid is.modelled_disk)
    (c.switch.ensures.any_moment base (laid_writing base (store_of c.args.active.now) c.args.image g.D.Disk.is_modelled (g.D.Disk.life c.args.disk.now) is c.finish_pages.result c.finish_pages.ensures.begins c.finish_pages.ensures.ends (g.D.Disk.life c.lay.new.disk) c.lay.ensures.within))

pub returns-clause-done : goal.returns-clause-done
returns-clause-done g c base is =
    ended base (store_of c.args.active.now) c.args.image g.D.Disk.is_modelled (g.D.Disk.life c.args.disk.now) is c.finish_pages.result c.finish_pages.ensures.begins c.finish_pages.ensures.ends
    (g.D.Disk.life c.lay.new.disk) (g.D.Disk.life c.switch.new.disk) c.args.first_catalogue c.args.catalogue_pages (entries_of c.args.records.now) c.args.held (record { active = c.in_ok-active.active; journal = c.in_ok-journal.journal })
    c.lay.ensures.others
    (fit_there c.args.image c.finish_pages.result (length (laid (entries_of c.args.records.now)) + c.args.held) c.finish_pages.ensures.begins c.finish_pages.ensures.ends c.finish_pages.ensures.some c.in_ok-journal.ensures.full)
    (c.in_ok-journal.ensures.laid is.modelled_disk) c.in_ok-journal.ensures.begins.region_is c.in_ok-journal.ensures.begins.next
    (c.in_ok-active.ensures.active base (laid_writing base (store_of c.args.active.now) c.args.image g.D.Disk.is_modelled (g.D.Disk.life c.args.disk.now) is c.finish_pages.result c.finish_pages.ensures.begins c.finish_pages.ensures.ends (g.D.Disk.life c.lay.new.disk) c.lay.ensures.within))
    c.in_ok-active.ensures.durable c.switch.ensures.others
