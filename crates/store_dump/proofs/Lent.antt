-- A table that is lent is the one that is stored.
use Rattle.std.proofs.Common.{◌≡◌, ◌∙◌, ℕ, List, ap, ap₂, sym, subst}
use Rattle.key_map.specs.Merging.{Rows, merged}
use Rattle.key_map.specs.Overlay.{changes_of}
use Rattle.key_map.specs.RowForm.{row_form}
use Rattle.paged_tables.specs.Lending.{IsLent}
use Rattle.paged_tables.specs.Stored.{IsOnPages, Stored, rows_in}
use Rattle.paged_tables.specs.declared.lending.TableRef.{TableRef}
use Rattle.row_values.specs.Schema.{Schema}
use Rattle.table_map.specs.Stored.{IsStored}
use Rattle.table_map.specs.Table.{Table, rows_of_table, without_keys}
use Rattle.store_dump.specs.Dump.{rows_text}

module _ (e : List ℕ × Stored) (lent : TableRef) (file : List ℕ) (is : IsLent e lent) (on : IsOnPages file e.1) where
  pub stand_lent : IsStored (row_form lent.schema.now) lent.rows.now.places on.pages file
  stand_lent =
      subst (λ (s : Schema). IsStored (row_form s) lent.rows.now.places on.pages file) (sym is.schema)
      (subst (λ (t : Table). IsStored (row_form e.1.schema) t.places on.pages file) (sym is.rows) on.stand)

  pub rows_lent : rows_of_table (row_form lent.schema.now) lent.rows.now on.pages ≡ rows_in e.1
  rows_lent =
      ap₂ (λ (s : Schema) (t : Table). rows_of_table (row_form s) t on.pages) is.schema is.rows
      ∙ ap (λ (base : Rows). merged base (changes_of e.1.changes)) (sym on.rows)

  pub text_lent : rows_text lent.name.now lent.schema.now 0 (without_keys (rows_of_table (row_form lent.schema.now) lent.rows.now on.pages)) ≡ rows_text e.0 e.1.schema 0 (without_keys (rows_in e.1))
  text_lent =
      ap₂ (λ (n : List ℕ) (s : Schema). rows_text n s 0 (without_keys (rows_of_table (row_form lent.schema.now) lent.rows.now on.pages))) is.name is.schema
      ∙ ap (λ (rows : Rows). rows_text e.0 e.1.schema 0 (without_keys rows)) rows_lent
