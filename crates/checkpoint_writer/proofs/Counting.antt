-- How long the row of a table in a catalogue is, wherever its pages lie.
use Rattle.std.proofs.Common.{◌≡◌, ◌+◌, ℕ, List, ◌∷◌, ◌++◌, length, length-append, ap, arith}
use Rattle.std.specs.Prelude.{nat_le, if◌then◌else◌}
use Rattle.std.specs.Int.{to_be_bytes, w32}
use Rattle.row_values.specs.Bytes.{named, schema_bytes}
use Rattle.row_values.specs.Schema.{Schema}
use Rattle.row_pages.specs.Laying.{Count, count_behind, counted, pages_with}
use Rattle.checkpoint_writer.specs.Catalogue.{Entry, entry_bytes}

bytes_length : (e : Entry) → length (entry_bytes e) ≡ length (named e.name) + (length (schema_bytes e.schema) + 8)
bytes_length e =
    let numbers = to_be_bytes w32 e.first_page ++ to_be_bytes w32 e.pages in
    omega (arith, length-append (named e.name) (schema_bytes e.schema ++ numbers), length-append (schema_bytes e.schema) numbers)

-- only its name and its schema count
pub as_long : (e other : Entry) → e.name ≡ other.name → e.schema ≡ other.schema → length (entry_bytes other) ≡ length (entry_bytes e)
as_long e other name schema =
    omega (arith, bytes_length e, bytes_length other, ap (λ (n : List ℕ). length (named n)) name, ap (λ (s : Schema). length (schema_bytes s)) schema)

-- only the length of a row counts
pub as_many : (count : Count) (row other : List ℕ) (rows : List (List ℕ)) → length row ≡ length other → pages_with count (row ∷ rows) ≡ pages_with count (other ∷ rows)
as_many count row other rows same =
    ap (λ (n : ℕ). counted (count.full + (if nat_le (3 + (count.filled + 2 + n)) 8192 then count_behind (count.filled + 2 + n) rows else 1 + count_behind (2 + n) rows))) same
