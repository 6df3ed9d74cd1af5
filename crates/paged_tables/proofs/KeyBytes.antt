-- Rows that are good have their forms, and keys of bytes.
use Rattle.std.proofs.Common.{◌≡◌, ℕ, List, [], ◌∷◌, true, refl, ◌∙◌}
use Rattle.drda_words.specs.Bytes.{AreBytes}
use Rattle.key_map.proofs.KeyBytes.{key_bytes}
use Rattle.key_map.specs.RowForm.{RowsHaveTheirForms, row_form}
use Rattle.row_values.specs.Schema.{Schema, is_schema}
use Rattle.row_values.specs.Row.{is_row}
use Rattle.row_values.specs.Laws.{RowsHaveKeys, RowsHaveTheirValues}
use Rattle.paged_tables.specs.Laws.{RowsHaveForms}
use Rattle.paged_tables.specs.Stored.{IsRowAt}

-- the form of a row, as the law of forms has it, is that of its key
pub row_formed : RowsHaveTheirValues → RowsHaveKeys → RowsHaveTheirForms → (schema : Schema) (row form : List ℕ) → is_schema schema ≡ true → AreBytes row → is_row schema row ≡ true → form ≡ row_form schema row → IsRowAt schema row form
row_formed values keys forms schema row form good bytes is made =
    record { good = is; key = record { sorted = made ∙ forms schema row good is; good = keys schema row good bytes is; bytes = key_bytes values schema row bytes is } }

pub rows_formed : RowsHaveTheirValues → RowsHaveKeys → RowsHaveTheirForms → RowsHaveForms
rows_formed values keys forms schema [] good bytes all = tt
rows_formed values keys forms schema (row ∷ rows) good bytes all =
    (row_formed values keys forms schema row (row_form schema row) good bytes.0 all.0 refl, rows_formed values keys forms schema rows good bytes.1 all.1)
