-- The row of a key stands at its form.
use Rattle.std.proofs.Common.{◌≡◌, ℕ, List, IfOk, Option, ap, subst, ◌∙◌}
use Rattle.key_map.specs.Merging.{row_at}
use Rattle.table_map.specs.Keyed.{copied}
use Rattle.table_map.proofs.Knowing.{KnownSo}
use Rattle.paged_tables.specs.Stored.{IsRowAt, IsStored, Stored, rows_in}
use Rattle.paged_tables.proofs.FormLaws.{found_at, not_found_at}
use Rattle.paged_tables.proofs.Scanned.{known_may}
use Rattle.paged_tables.proofs.Shown.{form_nowhere, form_there}
use Rattle.paged_tables.proofs.stored_table.StoredTable.get.Goals as goal

pub returns-in-Ok-Some-clause-found : goal.returns-in-Ok-Some-clause-found
returns-in-Ok-Some-clause-found g c = λ modelled is.
    let stored : IsStored c.args.self.now = subst (λ (t : Stored). IsStored t) c.self.view_is c.self.invariant in
    subst (λ (o : Option (List ℕ)). IfOk c.row_at.result (λ found. copied found.row ≡ o))
    (ap (λ (f : List ℕ). row_at f (rows_in c.args.self.now)) c.as_slice.ensures.value
    ∙ found_at c.args.self.now.schema c.args.key.now c.in-Ok-Some.form.items (rows_in c.args.self.now)
    (form_there c.deref.result.now c.args.self.now.schema c.args.key.now c.in-Ok-Some.field-0 c.in-Ok-Some.form (c.deref.ensures ∙ ap (λ (t : Stored). t.schema) c.self.view_is) c.in-Ok-Some.field-0-is c.in-Ok-Some.ensures) stored.forms)
    (c.row_at.ensures.found modelled is)

pub returns-in-Ok-None-clause-found : goal.returns-in-Ok-None-clause-found
returns-in-Ok-None-clause-found g c = λ modelled is.
    let stored : IsStored c.args.self.now = subst (λ (t : Stored). IsStored t) c.self.view_is c.self.invariant in
    not_found_at c.args.self.now.schema c.args.key.now (rows_in c.args.self.now)
    (form_nowhere c.deref.result.now c.args.self.now.schema c.args.key.now c.in-Ok-None.field-0 (c.deref.ensures ∙ ap (λ (t : Stored). t.schema) c.self.view_is) c.in-Ok-None.field-0-is c.in-Ok-None.ensures) stored.forms

pub returns-in-Ok-Some-clause-judged : goal.returns-in-Ok-Some-clause-judged
returns-in-Ok-Some-clause-judged g c =
    let schema = c.args.self.now.schema in
    let form = c.in-Ok-Some.form.items in
    let one = form_there c.deref.result.now schema c.args.key.now c.in-Ok-Some.field-0 c.in-Ok-Some.form (c.deref.ensures ∙ ap (λ (t : Stored). t.schema) c.self.view_is) c.in-Ok-Some.field-0-is c.in-Ok-Some.ensures in
    known_may schema c.args.key.now form one c.row_at.result (subst (λ (f : List ℕ). KnownSo (λ row. IsRowAt schema row f) c.row_at.result) c.as_slice.ensures.value c.row_at.ensures.judged)
