-- What is read of a table whose pages stand there.
use Rattle.std.proofs.Common.{◌≡◌, ℕ, List, [], Bool, refl, sym, ap, subst, ◌∙◌}
use Rattle.std.specs.List.Sorted.{IsStrictlySortedBy}
use Rattle.key_map.specs.Merging.{Rows, merged}
use Rattle.key_map.specs.Overlay.{changes_of}
use Rattle.key_map.specs.RowForm.{row_form}
use Rattle.key_map.specs.Slots.{Slots}
use Rattle.key_map.proofs.Merged.{merged_order}
use Rattle.row_pages.specs.Laying.{rows_over}
use Rattle.row_values.specs.Schema.{Schema}
use Rattle.table_map.specs.Keyed.{keyed_rows}
use Rattle.table_map.specs.Stored.{Places, IsStored as StandAt}
use Rattle.paged_tables.specs.Stored.{IsOnPages, IsStored, Stored, laid_anew, rows_in}

-- what holds of the rows behind the pages that stand there holds of the table's
pub read_there : (P : Rows → Type 0) (inside now : Stored) (s : Schema) (file : List ℕ) → inside ≡ now → s ≡ inside.schema → IsOnPages file now
    → ((pages : List (List (List ℕ))) → StandAt (row_form s) inside.places pages file → P (merged (keyed_rows (row_form s) (rows_over pages)) (changes_of inside.changes))) → P (rows_in now)
read_there P inside now s file same schema is given =
    let here : IsOnPages file inside = subst (λ (t : Stored). IsOnPages file t) (sym same) is in
    subst (λ (t : Stored). P (rows_in t)) same
    (subst P
    (ap (λ (k : Schema). merged (keyed_rows (row_form k) (rows_over here.pages)) (changes_of inside.changes)) schema ∙ ap (λ (rows : Rows). merged rows (changes_of inside.changes)) (sym here.rows))
    (given here.pages (subst (λ (k : Schema). StandAt (row_form k) inside.places here.pages file) (sym schema) here.stand)))

-- a table whose rows stand on new pages, with no changes since
module _ (t : Stored) (places : Places) (base : Rows) (changes : Slots) (same : base ≡ rows_in t) (none : changes ≡ []) where
  pub laid_stored : IsStored t → IsStored (record { schema = t.schema; is_created = t.is_created; places = places; base = base; changes = changes })
  laid_stored is =
      subst (λ (rows : Rows). IsStored (record { schema = t.schema; is_created = t.is_created; places = places; base = rows; changes = changes })) (sym same)
      (subst (λ (slots : Slots). IsStored (record { schema = t.schema; is_created = t.is_created; places = places; base = rows_in t; changes = slots })) (sym none)
      (record { order = merged_order t.base (changes_of t.changes) is.order; forms = is.forms; empty = is.empty }))

  pub laid_is : record { schema = t.schema; is_created = t.is_created; places = places; base = base; changes = changes } ≡ laid_anew places t
  laid_is =
      ap (λ (rows : Rows). record { schema = t.schema; is_created = t.is_created; places = places; base = rows; changes = changes }) same
      ∙ ap (λ (slots : Slots). record { schema = t.schema; is_created = t.is_created; places = places; base = rows_in t; changes = slots }) none

-- a table without pages and changes has no rows
pub bare_stored : (schema : Schema) (b : Bool) (places : Places) (base : Rows) (changes : Slots) → base ≡ [] → changes ≡ []
    → IsStored (record { schema = schema; is_created = b; places = places; base = base; changes = changes })
unfolding IsStrictlySortedBy
bare_stored schema b places base changes none no_change =
    subst (λ (rows : Rows). IsStored (record { schema = schema; is_created = b; places = places; base = rows; changes = changes })) (sym none)
    (subst (λ (slots : Slots). IsStored (record { schema = schema; is_created = b; places = places; base = []; changes = slots })) (sym no_change)
    (record { order = tt; forms = tt; empty = λ no. refl }))
