use Rattle.std.proofs.Common.{Err, IsTrue, refl, subst}
use Rattle.std.specs.Borrow.{Bor}
use Rattle.drda_words.specs.Place.{part}
use Rattle.drda_disk.specs.Disk.{Stays}
use Rattle.row_pages.specs.Keeping.{CountsPageFault, TellsDamage}
use Rattle.row_pages.specs.declared.judged.JudgedPage.{JudgedPage}
use Rattle.row_pages.proofs.KeptPages.{counted_on, told_on}
use Rattle.row_pages.proofs.pager.Pager.judged_page.Goals as goal

pub returns-in-Err : goal.returns-in-Err
returns-in-Err g c =
    let life = g.D.Disk.life in
    let new = life c.fetch.new.disk in
    let stays = subst (λ (d : g.row.D.Denot). Stays (life d) new) c.self.view_is c.in-Err.ensures.stays in
    let faults = subst (λ (d : g.row.D.Denot). CountsPageFault {T = Unit {0}} (Err c.in-Err.fault) (life d).faults new.faults) c.self.view_is c.in-Err.ensures.faults in
    let damaged = λ (honest : IsTrue g.D.Disk.is_modelled). subst (λ (d : g.row.D.Denot). TellsDamage {T = Unit {0}} (part (life d).seen c.args.at 8192) (Err c.in-Err.fault)) c.self.view_is (c.in-Err.ensures.damaged honest) in
    ((refl, (λ _. tt), (stays, counted_on (Unit {0}) (Bor JudgedPage) c.in-Err.fault _ _ faults)), record { after = tt; page = λ honest. tt; damaged = λ honest. told_on (Unit {0}) (Bor JudgedPage) _ c.in-Err.fault (damaged honest) })
