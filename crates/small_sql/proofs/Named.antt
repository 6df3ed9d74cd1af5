-- A table that is there has a name.
use Rattle.std.proofs.Common.{◌≡◌, ℕ, Bool, true, false, ◌&&◌, List, [], ◌∷◌, Option, Some, None, refl, ap, ◌∙◌, option_map}
use Rattle.std.specs.Prelude.{bytes_eq}
use Rattle.std.specs.List.{list_all}
use Rattle.std.specs.Map.{keys_of, lookup}
use Rattle.std.specs.Ordering.{nat_cmp}
use Rattle.std.specs.Cmp.Lexicographic.{slice_cmp}
use Rattle.drda_words.specs.Order.{rises}
use Rattle.drda_words.proofs.Precedes.{same_bytes}
use Rattle.row_values.specs.Schema.{Schema, is_name}
use Rattle.tables.specs.Tables.{Store, Table, schema_of, table_of}
use Rattle.tables.specs.View.{is_store, is_table}

left_of : (a b : Bool) → (a && b) ≡ true → a ≡ true
left_of true b h = refl
left_of false b h = absurd cc

right_of : (a b : Bool) → (a && b) ≡ true → b ≡ true
right_of true b h = h
right_of false b h = absurd cc

clash : (b : Bool) (o : Option Table) → b ≡ true → b ≡ false → o ≡ None
clash true o holds fails = absurd cc
clash false o holds fails = absurd cc

hit_or : (q name : List ℕ) (t : Table) (rest : Store) (b : Bool) → bytes_eq q name ≡ b → is_name name ≡ true → is_name q ≡ false → lookup (bytes_eq q) rest ≡ None → lookup (bytes_eq q) ((name, t) ∷ rest) ≡ None
hit_or q name t rest true same named bad none = clash (is_name q) (lookup (bytes_eq q) ((name, t) ∷ rest)) (ap is_name (same_bytes q name same) ∙ named) bad
hit_or q name t rest false same named bad none = rw same none

not_there : (s : Store) (q : List ℕ) → list_all (λ (e : List ℕ × Table). is_name e.0 && is_table e.1) s ≡ true → is_name q ≡ false → table_of s q ≡ None
not_there [] q good bad = refl
not_there (e ∷ s) q good bad =
    let first : (is_name e.0 && is_table e.1) ≡ true = left_of (is_name e.0 && is_table e.1) (list_all (λ (e : List ℕ × Table). is_name e.0 && is_table e.1) s) good in
    hit_or q e.0 e.1 s (bytes_eq q e.0) refl (left_of (is_name e.0) (is_table e.1) first) bad
    (not_there s q (right_of (is_name e.0 && is_table e.1) (list_all (λ (e : List ℕ × Table). is_name e.0 && is_table e.1) s) good) bad)

no_schema : (s : Store) (q : List ℕ) → is_store s ≡ true → is_name q ≡ false → schema_of s q ≡ None
no_schema s q good bad = ap (option_map (λ (t : Table). t.schema)) (not_there s q (left_of (list_all (λ (e : List ℕ × Table). is_name e.0 && is_table e.1) s) (rises (slice_cmp nat_cmp) (keys_of s)) good) bad)

none_is_some : (schema : Schema) (o : Option Schema) → o ≡ None → o ≡ Some schema → ⊥
none_is_some schema None none there = absurd cc
none_is_some schema (Some x) none there = absurd cc

-- so under a name that is none nothing is found
pub not_found : (s : Store) (q : List ℕ) (schema : Schema) → is_store s ≡ true → schema_of s q ≡ Some schema → is_name q ≡ false → ⊥
not_found s q schema good there bad = none_is_some schema (schema_of s q) (no_schema s q good bad) there
