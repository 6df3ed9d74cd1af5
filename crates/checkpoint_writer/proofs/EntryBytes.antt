-- Tables in a catalogue, as they are written and read.
use Rattle.std.proofs.Common.{◌≡◌, ℕ, ◌^◌, List, ◌++◌, Some, true, ◌&&◌, ap, ◌∙◌, ltb-true}
use Rattle.std.specs.Prelude.{nat_lt}
use Rattle.std.specs.Option.{option_and_then}
use Rattle.std.specs.Int.{w32, from_be_bytes, to_be_bytes}
use Rattle.std.proofs.lemmas.Nat.{from_be_bytes-to_be_bytes_4}
use Rattle.row_values.specs.Schema.{Schema, is_name, is_schema}
use Rattle.row_values.specs.Bytes.{schema_at, schema_bytes}
use Rattle.row_values.proofs.ByteLaws.{name_back, schema_back}
use Rattle.row_values.proofs.ValueLaws.{first_true, second_true}
use Rattle.checkpoint_writer.specs.Catalogue.{Entry, entry_at, entry_bytes, entry_with, is_entry, numbers_at}

pub entry_back : (e : Entry) → is_entry e ≡ true → entry_at (entry_bytes e) ≡ Some e
unfolding entry_at
entry_back e good =
    let numbers = to_be_bytes w32 e.first_page ++ to_be_bytes w32 e.pages in
    let behind = second_true (is_name e.name) (is_schema e.schema && (nat_lt e.first_page (2 ^ 32) && nat_lt e.pages (2 ^ 32))) good in
    let both = second_true (is_schema e.schema) (nat_lt e.first_page (2 ^ 32) && nat_lt e.pages (2 ^ 32)) behind in
    ap (option_and_then (λ (x : List ℕ × List ℕ). option_and_then (λ (y : Schema × List ℕ). entry_with x.0 y.0 (numbers_at y.1)) (schema_at x.1)))
    (name_back e.name (schema_bytes e.schema ++ numbers) (first_true (is_name e.name) (is_schema e.schema && (nat_lt e.first_page (2 ^ 32) && nat_lt e.pages (2 ^ 32))) good))
    ∙ ap (option_and_then (λ (y : Schema × List ℕ). entry_with e.name y.0 (numbers_at y.1)))
    (schema_back e.schema numbers (first_true (is_schema e.schema) (nat_lt e.first_page (2 ^ 32) && nat_lt e.pages (2 ^ 32)) behind))
    ∙ ap (λ n. entry_with e.name e.schema (Some (n, from_be_bytes w32 (to_be_bytes w32 e.pages))))
    (from_be_bytes-to_be_bytes_4 e.first_page (ltb-true e.first_page (2 ^ 32) (first_true (nat_lt e.first_page (2 ^ 32)) (nat_lt e.pages (2 ^ 32)) both)))
    ∙ ap (λ n. entry_with e.name e.schema (Some (e.first_page, n)))
    (from_be_bytes-to_be_bytes_4 e.pages (ltb-true e.pages (2 ^ 32) (second_true (nat_lt e.first_page (2 ^ 32)) (nat_lt e.pages (2 ^ 32)) both)))
