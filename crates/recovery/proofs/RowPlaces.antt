-- Changes of the rows of one table.
use Rattle.std.proofs.Common.{◌≡◌, ℕ, List, [], ◌∷◌, true, refl, ap, ◌∙◌, Some, length}
use Rattle.std.specs.Prelude.{nat_le}
use Rattle.std.specs.List.{AllByRecursion}
use Rattle.row_values.specs.Schema.{Schema, is_name}
use Rattle.row_values.specs.Row.{is_row}
use Rattle.row_values.specs.Key.{is_key}
use Rattle.row_values.proofs.ValueLaws.{both_true}
use Rattle.tables.specs.Change.{Change, create, put, remove}
use Rattle.tables.specs.Tables.{Store, apply, schema_of}
use Rattle.tables.specs.Laws.{Put, Removed}
use Rattle.unit_records.specs.Records.{IsChange}
use Rattle.recovery.specs.Durable.{fits_in, has_place, have_places}
use Rattle.recovery.specs.QuestionPlaces.{ArePlaced}
use Rattle.recovery.proofs.Rows.{row_length}

-- the change puts a row of the table, or removes a key of it
abbrev pub OfTable : List ℕ → Schema → Change → Type 0
OfTable name schema (create n new) = ⊥
OfTable name schema (put n row) = (n ≡ name) × (is_row schema row ≡ true)
OfTable name schema (remove n key) = (n ≡ name) × (is_key schema key ≡ true) × (nat_le (length key) 8012 ≡ true)

good_change : (x : Change) (name : List ℕ) (schema : Schema) → is_name name ≡ true → OfTable name schema x → IsChange x
good_change (create n new) name schema named of = absurd of
good_change (put n row) name schema named of = both_true (is_name n) (nat_le (length row) 4000) (ap is_name of.0 ∙ named) (row_length schema row of.1)
good_change (remove n key) name schema named of = both_true (is_name n) (nat_le (length key) 8012) (ap is_name of.0 ∙ named) of.2

good_changes : (xs : List Change) (name : List ℕ) (schema : Schema) → is_name name ≡ true → AllByRecursion (OfTable name schema) xs → AllByRecursion IsChange xs
good_changes [] name schema named all = tt
good_changes (x ∷ xs) name schema named all = (good_change x name schema named all.0, good_changes xs name schema named all.1)

module _ (puts : Put) (removed : Removed) where
  places : (xs : List Change) (name : List ℕ) (schema : Schema) (v : Store) → schema_of v name ≡ Some schema → AllByRecursion (OfTable name schema) xs → have_places xs v ≡ true
  places [] name schema v there all = refl
  places (create n new ∷ xs) name schema v there all = absurd all.0
  places (put n row ∷ xs) name schema v there all =
      both_true (has_place (put n row) v) (have_places xs (apply (put n row) v))
      (ap (fits_in (λ sh. is_row sh row)) (ap (schema_of v) all.0.0 ∙ there) ∙ all.0.1)
      (places xs name schema (apply (put n row) v) ((puts n row v).schemas name ∙ there) all.1)
  places (remove n key ∷ xs) name schema v there all =
      both_true (has_place (remove n key) v) (have_places xs (apply (remove n key) v))
      (ap (fits_in (λ sh. is_key sh key)) (ap (schema_of v) all.0.0 ∙ there) ∙ all.0.1)
      (places xs name schema (apply (remove n key) v) ((removed n key v).schemas name ∙ there) all.1)

  -- each stands behind others that leave the table there
  pub rows_placed : (xs : List Change) (name : List ℕ) (schema : Schema) (v : Store) → is_name name ≡ true → schema_of v name ≡ Some schema → AllByRecursion (OfTable name schema) xs → ArePlaced xs v
  rows_placed xs name schema v named there all = record { places = places xs name schema v there all; good = good_changes xs name schema named all }
