use Rattle.std.proofs.Common.{◌≡◌, ℕ, List, ◌++◌, ap, subst}
use Rattle.std.specs.Prelude.{OnOk}
use Rattle.std.specs.Borrow.{Bor}
use Rattle.drda_words.specs.Place.{part}
use Rattle.row_pages.specs.Page.{Page}
use Rattle.store_check.proofs.Judged.{bytes_judged, not_read}
use Rattle.store_check.proofs.Behind.{rows_noted}
use Rattle.store_check.proofs.Standing.{a_page}
use Rattle.store_check.proofs.page.check_page.Goals as goal

pub returns-in-Ok-clause-judged : goal.returns-in-Ok-clause-judged
returns-in-Ok-clause-judged g c honest =
    bytes_judged c.one_page.ensures c.args.schema.now (g.K.RowKeys.key_of c.args.keys.now) c.args.at (part (g.D.Disk.life c.args.pager.now).seen c.args.at 8192) c.in-Ok.page.now c.args.last.now c.judge.new.last c.judge.result (c.in-Ok.ensures.page honest) c.judge.ensures.judged

pub returns-in-Err-clause-judged : goal.returns-in-Err-clause-judged
returns-in-Err-clause-judged g c honest =
    not_read (Bor Page) c.args.schema.now (g.K.RowKeys.key_of c.args.keys.now) c.args.at (part (g.D.Disk.life c.args.pager.now).seen c.args.at 8192) c.args.last.now c.in-Err.fault (c.in-Err.ensures.damaged honest) c.error_at.result c.error_at.ensures

pub returns-in-Ok-clause-noted : goal.returns-in-Ok-clause-noted
returns-in-Ok-clause-noted g c rows honest is =
    let page = c.in-Ok.page.now in
    let same = c.one_page.ensures page (a_page rows) (part (g.D.Disk.life c.args.pager.now).seen c.args.at 8192) (c.in-Ok.ensures.page honest) is in
    subst (λ (l : List (List ℕ)). OnOk c.judge.result (c.judge.new.noted.listed.value ≡ c.args.noted.now.listed.value ++ l)) (ap (λ (p : Page). p.rows) same) c.judge.ensures.noted

pub returns-in-Ok-clause-goes : goal.returns-in-Ok-clause-goes
returns-in-Ok-clause-goes g c =
    rows_noted c.args.schema.now (g.K.RowKeys.key_of c.args.keys.now) c.args.at c.in-Ok.page.now c.args.last.now c.judge.new.last c.args.noted.now.listed.value c.judge.new.noted.listed.value c.judge.result c.judge.ensures.judged c.judge.ensures.noted c.judge.ensures.bytes
