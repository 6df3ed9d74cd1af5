use Rattle.std.proofs.Common.{◌≡◌, inl, inr, List, ℕ, Option, Some, None, sym, ◌∙◌, ap, subst}
use Rattle.std.specs.Prelude.{IfOk}
use Rattle.row_pages.specs.Laying.{rows_over}
use Rattle.key_map.specs.Merging.{row_at}
use Rattle.key_map.specs.Overlay.{changes_of}
use Rattle.table_map.specs.Damage.{LacksPage}
use Rattle.table_map.specs.Judged.{IsKnown, IsRowOf}
use Rattle.table_map.specs.Keyed.{keyed_rows, copied}
use Rattle.table_map.specs.Stored.{Places, IsStored}
use Rattle.table_map.specs.Table.{Table}
use Rattle.table_map.proofs.Damaged.{only_memory, where_too}
use Rattle.table_map.proofs.Knowing.{copied_so, known_so}
use Rattle.table_map.proofs.Told.{told}
use Rattle.table_map.proofs.table.TableMap.get.Goals as goal

pub returns-in-Some-Some-clause-found : goal.returns-in-Some-Some-clause-found
returns-in-Some-Some-clause-found g c pages honest is =
    let base = keyed_rows (g.K.RowKeys.key_of c.args.keys.now) (rows_over pages) in
    let word = rw c.in-Some-Some.field-0-is at c.in-Some-Some.ensures in
    subst (λ (o : Option (List ℕ)). IfOk c.copy_row.result (λ found. copied found.row ≡ o))
    (told c.args.key.now base (changes_of c.args.self.now.overlay) (Some (Some c.in-Some-Some.row.now)) is.order (word ∙ ap (λ (t : Table). row_at c.args.key.now (changes_of t.overlay)) c.self.view_is))
    (rw c.in-Some-Some.field-0-is at c.copy_row.ensures.row)

pub returns-in-Some-None-clause-found : goal.returns-in-Some-None-clause-found
returns-in-Some-None-clause-found g c pages honest is =
    let base = keyed_rows (g.K.RowKeys.key_of c.args.keys.now) (rows_over pages) in
    let word = rw c.in-Some-None.field-0-is at c.in-Some-None.ensures in
    told c.args.key.now base (changes_of c.args.self.now.overlay) (Some None) is.order (word ∙ ap (λ (t : Table). row_at c.args.key.now (changes_of t.overlay)) c.self.view_is)

pub returns-in-None-clause-found : goal.returns-in-None-clause-found
returns-in-None-clause-found g c pages honest is =
    let key_of = g.K.RowKeys.key_of c.args.keys.now in
    let base = keyed_rows key_of (rows_over pages) in
    let stored = subst (λ (p : Places). IsStored key_of p pages (g.D.Disk.life c.args.pager.now).seen) (sym (ap (λ (t : Table). t.places) c.self.view_is)) is in
    subst (λ (o : Option (List ℕ)). IfOk c.row.result (λ found. copied found.row ≡ o))
    (told c.args.key.now base (changes_of c.args.self.now.overlay) None is.order (c.in-None.ensures ∙ ap (λ (t : Table). row_at c.args.key.now (changes_of t.overlay)) c.self.view_is))
    (c.row.ensures.found pages honest stored)

pub returns-in-Some-Some-clause-damaged : goal.returns-in-Some-Some-clause-damaged
returns-in-Some-Some-clause-damaged g c honest = only_memory _ c.copy_row.result c.copy_row.ensures.fault

pub returns-in-None-clause-damaged : goal.returns-in-None-clause-damaged
returns-in-None-clause-damaged g c honest =
    let file = (g.D.Disk.life c.args.pager.now).seen in
    where_too _ _ c.row.result
    (λ lacks. (
      sym (c.in-None.ensures ∙ ap (λ (t : Table). row_at c.args.key.now (changes_of t.overlay)) c.self.view_is),
      subst (λ (p : Places). LacksPage c.args.key.now p file) (ap (λ (t : Table). t.places) c.self.view_is) lacks,
    ))
    (c.row.ensures.damaged honest)

pub returns-in-Some-Some-clause-judged : goal.returns-in-Some-Some-clause-judged
returns-in-Some-Some-clause-judged g c =
    let known : List ℕ → Type 0 = λ row. IsKnown (g.K.RowKeys.key_of c.args.keys.now) c.args.schema.now c.args.key.now (changes_of c.args.self.now.overlay) row in
    let word = rw c.in-Some-Some.field-0-is at c.in-Some-Some.ensures in
    copied_so known c.in-Some-Some.row.now (inl (sym (word ∙ ap (λ (t : Table). row_at c.args.key.now (changes_of t.overlay)) c.self.view_is))) c.copy_row.result (rw c.in-Some-Some.field-0-is at c.copy_row.ensures.row)

pub returns-in-None-clause-judged : goal.returns-in-None-clause-judged
returns-in-None-clause-judged g c =
    let key_of = g.K.RowKeys.key_of c.args.keys.now in
    let changes = changes_of c.args.self.now.overlay in
    known_so (IsRowOf key_of c.args.schema.now c.args.key.now) (IsKnown key_of c.args.schema.now c.args.key.now changes) (λ row is. inr is) c.row.result c.row.ensures.judged
