-- A table that is lent, whose pages stand in a file: its rows are those of what it shows.
use Rattle.std.proofs.Common.{◌≡◌, ℕ, true, List, [], ◌∷◌, length, refl, sym, ap, subst, ◌∙◌}
use Rattle.std.specs.List.{AllByRecursion}
use Rattle.std.specs.Map.{values_of}
use Rattle.row_values.specs.Schema.{Schema, is_schema}
use Rattle.key_map.specs.Merging.{Rows, merged}
use Rattle.key_map.specs.Overlay.{changes_of}
use Rattle.key_map.specs.RowForm.{RowsHaveTheirForms, row_form}
use Rattle.row_pages.specs.Laying.{IsShort, laid, rows_over}
use Rattle.table_map.specs.Keyed.{keyed_rows}
use Rattle.table_map.specs.Stored.{Places, IsStored as StandAt}
use Rattle.table_map.specs.Table.{rows_of_table, without_keys}
use Rattle.table_map.specs.Table.{Table as Mapped}
use Rattle.checkpoint_writer.specs.Stored.{HaveKeys}
use Rattle.store_check.specs.Laying.{IsGood}
use Rattle.store_check.specs.Room.{pages_of_table}
use Rattle.store_check.proofs.Placing.{all_short, good_rows}
use Rattle.paged_tables.specs.Lending.{IsLent}
use Rattle.paged_tables.specs.Stored.{IsOnPages, Stored, at_keys, rows_in, table_in}
use Rattle.paged_tables.specs.declared.lending.TableRef.{TableRef}
use Rattle.paged_tables.proofs.Shown.{forms_back}
use Rattle.paged_checkpoints.specs.Laying.{created_entry}

pub bare : (schema : Schema) (rows : Rows) → without_keys rows ≡ values_of (at_keys schema rows)
bare schema [] = refl
bare schema (e ∷ rows) = ap (λ (l : List (List ℕ)). e.1 ∷ l) (bare schema rows)

module _ (law : RowsHaveTheirForms) (file : List ℕ) (e : List ℕ × Stored) (lent : TableRef) (is : IsLent e lent) (sound : is_schema lent.schema.now ≡ true) (stand : IsOnPages file e.1) where
  abbrev key_of : List ℕ → List ℕ
  key_of = row_form lent.schema.now

  abbrev all : Rows
  all = rows_of_table key_of lent.rows.now stand.pages

  pub same_places : lent.rows.now.places ≡ e.1.places
  same_places = ap (λ (t : Mapped). t.places) is.rows

  sound_there : is_schema e.1.schema ≡ true
  sound_there = subst (λ (s : Schema). is_schema s ≡ true) is.schema sound

  pub stands : StandAt key_of lent.rows.now.places stand.pages file
  stands = subst (λ (p : Places). StandAt key_of p stand.pages file) (sym same_places) (subst (λ (s : Schema). StandAt (row_form s) e.1.places stand.pages file) (sym is.schema) stand.stand)

  -- its rows are those of its pages with the changes since
  pub all_are : all ≡ rows_in e.1
  all_are =
      ap (λ (t : Mapped). rows_of_table key_of t stand.pages) is.rows
      ∙ ap (λ (s : Schema). merged (keyed_rows (row_form s) (rows_over stand.pages)) (changes_of e.1.changes)) is.schema
      ∙ ap (λ (rows : Rows). merged rows (changes_of e.1.changes)) (sym stand.rows)

  pub have : HaveKeys key_of all
  have = subst (λ (rows : Rows). HaveKeys key_of rows) (sym all_are) (subst (λ (s : Schema). HaveKeys (row_form s) (rows_in e.1)) (sym is.schema) (forms_back law e.1.schema (rows_in e.1) sound_there is.stored.forms))

  pub bare_all : without_keys all ≡ values_of (table_in e.1).rows
  bare_all = ap without_keys all_are ∙ bare e.1.schema (rows_in e.1)

  pub count : length (laid (without_keys all)) ≡ pages_of_table (table_in e.1)
  count = ap (λ (rows : List (List ℕ)). length (laid rows)) bare_all

  pub short : IsGood (created_entry e) → AllByRecursion IsShort (without_keys all)
  short good = subst (λ (rows : List (List ℕ)). AllByRecursion IsShort rows) (sym bare_all) (all_short e.1.schema (values_of (table_in e.1).rows) (good_rows (created_entry e) good))
