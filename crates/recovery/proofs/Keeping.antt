-- Places depend on tables and not on rows.
use Rattle.std.proofs.Common.{◌≡◌, ℕ, List, [], ◌∷◌, length, Bool, true, false, ◌&&◌, refl, sym, ap, ◌∙◌, Option, Some, None, option_map}
use Rattle.std.specs.Prelude.{bytes_eq, if◌then◌else◌, is_some, nat_lt, not, unwrap_or}
use Rattle.std.specs.Map.{keys_of}
use Rattle.std.proofs.lemmas.List.{length-map}
use Rattle.row_values.specs.Schema.{Schema}
use Rattle.row_values.specs.Row.{is_row}
use Rattle.row_values.specs.Key.{is_key}
use Rattle.row_values.proofs.ValueLaws.{both_true, first_true, second_true}
use Rattle.tables.proofs.Finding.{same_bytes}
use Rattle.tables.specs.Change.{Change, create, put, remove}
use Rattle.tables.specs.Laws.{Created, NamesChange, Put, Removed, with_name}
use Rattle.tables.specs.Tables.{Store, Table, apply, schema_of, table_of}
use Rattle.core_model.specs.Units.{apply_all}
use Rattle.recovery.specs.Durable.{fits_in, has_place, have_places}
use Rattle.recovery.specs.Places.{ChangesKeepTables, KeepsSchemas, PlacesGoOn, RowsKeepPlaces, SameTables, TablesGivePlaces, creates_none}

-- ---- changes behind others

and_then : (a b c : Bool) → (a && (b && c)) ≡ ((a && b) && c)
and_then true b c = refl
and_then false b c = refl

pub places_go_on : PlacesGoOn
places_go_on [] ys s = refl
places_go_on (x ∷ xs) ys s =
    ap (λ (b : Bool). has_place x s && b) (places_go_on xs ys (apply x s)) ∙ and_then (has_place x s) (have_places xs (apply x s)) (have_places ys (apply_all xs (apply x s)))

-- ---- one change

fits_more : (fits : Schema → Bool) (o p : Option Schema) → ((x : Schema) → o ≡ Some x → p ≡ Some x) → fits_in fits o ≡ true → fits_in fits p ≡ true
fits_more fits None p more h = absurd cc
fits_more fits (Some x) p more h = ap (fits_in fits) (more x refl) ∙ h

some_map : (o : Option Table) → is_some (option_map (λ (t : Table). t.schema) o) ≡ is_some o
some_map None = refl
some_map (Some t) = refl

same_count : (s t : Store) → keys_of s ≡ keys_of t → length s ≡ length t
same_count s t same = sym (length-map s (λ e. e.0)) ∙ ap length same ∙ length-map t (λ e. e.0)

same_place : (change : Change) (s t : Store) → SameTables s t → has_place change s ≡ has_place change t
same_place (create name schema) s t same =
    ap (λ (o : Option Schema). not (is_some o) && nat_lt (length s) 1000) (same.schemas name) ∙ ap (λ n. not (is_some (schema_of t name)) && nat_lt n 1000) (same_count s t same.names)
same_place (put name row) s t same = ap (fits_in (λ schema. is_row schema row)) (same.schemas name)
same_place (remove name key) s t same = ap (fits_in (λ schema. is_key schema key)) (same.schemas name)

created_kept : (b : Bool) (o named : Option Schema) (new schema : Schema) → (b ≡ true → named ≡ o) → o ≡ Some schema → (if b then Some (unwrap_or named new) else o) ≡ Some schema
created_kept true o named new schema same h = ap (λ (p : Option Schema). Some (unwrap_or p new)) (same refl ∙ h)
created_kept false o named new schema same h = h

module _ (created : Created) (puts : Put) (removed : Removed) (names : NamesChange) where
  same_after : (change : Change) (s t : Store) → SameTables s t → SameTables (apply change s) (apply change t)
  same_after (create name schema) s t same = record {
    schemas = λ q. (created name schema s).schemas q
        ∙ ap (λ (o : Option Schema). if bytes_eq q name then Some (unwrap_or o schema) else schema_of s q) (same.schemas name)
        ∙ ap (λ (o : Option Schema). if bytes_eq q name then Some (unwrap_or (schema_of t name) schema) else o) (same.schemas q)
        ∙ sym ((created name schema t).schemas q);
    names = names (create name schema) s
        ∙ ap (λ (b : Bool). if b then keys_of s else with_name name (keys_of s)) (sym (some_map (table_of s name)) ∙ ap is_some (same.schemas name) ∙ some_map (table_of t name))
        ∙ ap (λ (l : List (List ℕ)). if is_some (table_of t name) then l else with_name name l) same.names
        ∙ sym (names (create name schema) t);
  }
  same_after (put name row) s t same = record {
    schemas = λ q. (puts name row s).schemas q ∙ same.schemas q ∙ sym ((puts name row t).schemas q);
    names = names (put name row) s ∙ same.names ∙ sym (names (put name row) t);
  }
  same_after (remove name key) s t same = record {
    schemas = λ q. (removed name key s).schemas q ∙ same.schemas q ∙ sym ((removed name key t).schemas q);
    names = names (remove name key) s ∙ same.names ∙ sym (names (remove name key) t);
  }

  pub tables_give_places : TablesGivePlaces
  tables_give_places [] s t same = refl
  tables_give_places (x ∷ xs) s t same =
      ap (λ (b : Bool). b && have_places xs (apply x s)) (same_place x s t same) ∙ ap (λ (b : Bool). has_place x t && b) (tables_give_places xs (apply x s) (apply x t) (same_after x s t same))

  pub rows_keep_places : RowsKeepPlaces
  rows_keep_places [] s t none kept h = refl
  rows_keep_places (create name schema ∷ xs) s t none kept h = absurd cc
  rows_keep_places (put name row ∷ xs) s t none kept h =
      let here = first_true (has_place (put name row) s) (have_places xs (apply (put name row) s)) h in
      let rest = second_true (has_place (put name row) s) (have_places xs (apply (put name row) s)) h in
      both_true (has_place (put name row) t) (have_places xs (apply (put name row) t))
      (fits_more (λ schema. is_row schema row) (schema_of s name) (schema_of t name) (kept name) here)
      (rows_keep_places xs (apply (put name row) s) (apply (put name row) t) none (λ q schema is. (puts name row t).schemas q ∙ kept q schema (sym ((puts name row s).schemas q) ∙ is)) rest)
  rows_keep_places (remove name key ∷ xs) s t none kept h =
      let here = first_true (has_place (remove name key) s) (have_places xs (apply (remove name key) s)) h in
      let rest = second_true (has_place (remove name key) s) (have_places xs (apply (remove name key) s)) h in
      both_true (has_place (remove name key) t) (have_places xs (apply (remove name key) t))
      (fits_more (λ schema. is_key schema key) (schema_of s name) (schema_of t name) (kept name) here)
      (rows_keep_places xs (apply (remove name key) s) (apply (remove name key) t) none (λ q schema is. (removed name key t).schemas q ∙ kept q schema (sym ((removed name key s).schemas q) ∙ is)) rest)

  kept_by : (change : Change) (s : Store) → KeepsSchemas s (apply change s)
  kept_by (create name new) s q schema is =
      (created name new s).schemas q ∙ created_kept (bytes_eq q name) (schema_of s q) (schema_of s name) new schema (λ same. ap (schema_of s) (sym (same_bytes q name same))) is
  kept_by (put name row) s q schema is = (puts name row s).schemas q ∙ is
  kept_by (remove name key) s q schema is = (removed name key s).schemas q ∙ is

  rows_kept : (change : Change) (s : Store) → creates_none (change ∷ []) ≡ true → SameTables s (apply change s)
  rows_kept (create name schema) s none = absurd cc
  rows_kept (put name row) s none = record { schemas = λ q. sym ((puts name row s).schemas q); names = sym (names (put name row) s) }
  rows_kept (remove name key) s none = record { schemas = λ q. sym ((removed name key s).schemas q); names = sym (names (remove name key) s) }

  pub changes_keep_tables : ChangesKeepTables
  changes_keep_tables = record { schemas = kept_by; rows = rows_kept }
