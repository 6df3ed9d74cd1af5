-- What many changes make of a store.
use Rattle.std.proofs.Common.{◌≡◌, ℕ, List, [], ◌∷◌, ◌++◌, Bool, true, false, cond, refl, sym, ap, ◌∙◌, Option, Some}
use Rattle.std.specs.Prelude.{bytes_eq, option_map, unwrap_or}
use Rattle.std.specs.List.{list_all}
use Rattle.row_values.specs.Schema.{Schema}
use Rattle.tables.specs.Change.{Change, create, put, remove, is_change}
use Rattle.tables.specs.Tables.{Store, apply, put_row, remove_row, schema_of, table_of}
use Rattle.tables.specs.Laws.{Created, Put, Removed, StoresAreKept, TableCreated, TablePut, TableRemoved}
use Rattle.tables.specs.View.{is_sound, is_store}
use Rattle.tables.specs.Applied.{apply_all}
use Rattle.unit_changes.specs.UnitTable.{name_of}
use Rattle.unit_changes.specs.Index.{AreOf, IsLeft}
use Rattle.unit_changes.proofs.Steps.{first, second}

-- what tables says of changes
pub record Local : Type 0 where
  pub created : Created
  pub put : Put
  pub removed : Removed
  pub kept : StoresAreKept

pub record Tabled : Type 0 where
  pub created : TableCreated
  pub put : TablePut
  pub removed : TableRemoved

pub all_then : (xs ys : List Change) (s : Store) → apply_all (xs ++ ys) s ≡ apply_all ys (apply_all xs s)
all_then [] ys s = refl
all_then (x ∷ xs) ys s = all_then xs ys (apply x s)

pub sound_of : (c : Change) → is_change c ≡ true → is_sound c ≡ true
sound_of (create name schema) h = h
sound_of (put name row) h = refl
sound_of (remove name key) h = refl

pub stores_kept : StoresAreKept → (cs : List Change) (s : Store) → list_all is_change cs ≡ true → is_store s ≡ true → is_store (apply_all cs s) ≡ true
stores_kept kept [] s good h = h
stores_kept kept (c ∷ cs) s good h =
    stores_kept kept cs (apply c s) (second (is_change c) (list_all is_change cs) good) (kept c s (sound_of c (first (is_change c) (list_all is_change cs) good)) h)

there_still : (b : Bool) (o n : Option Schema) (fresh x : Schema) → o ≡ Some x → (b ≡ true → n ≡ o) → cond b (Some (unwrap_or n fresh)) o ≡ Some x
there_still true o n fresh x is same = ap (λ (m : Option Schema). Some (unwrap_or m fresh)) (same refl ∙ is)
there_still false o n fresh x is same = is

pub schema_stays : Local → ((a b : List ℕ) → bytes_eq a b ≡ true → a ≡ b) → (c : Change) (s : Store) (q : List ℕ) (x : Schema) → schema_of s q ≡ Some x → schema_of (apply c s) q ≡ Some x
schema_stays laws same (create name schema) s q x is =
    (laws.created name schema s).schemas q ∙ there_still (bytes_eq q name) (schema_of s q) (schema_of s name) schema x is (λ h. ap (schema_of s) (sym (same q name h)))
schema_stays laws same (put name row) s q x is = (laws.put name row s).schemas q ∙ is
schema_stays laws same (remove name key) s q x is = (laws.removed name key s).schemas q ∙ is

pub schemas_stay : Local → ((a b : List ℕ) → bytes_eq a b ≡ true → a ≡ b) → (cs : List Change) (s : Store) (q : List ℕ) (x : Schema) → schema_of s q ≡ Some x → schema_of (apply_all cs s) q ≡ Some x
schemas_stay laws same [] s q x is = is
schemas_stay laws same (c ∷ cs) s q x is = schemas_stay laws same cs (apply c s) q x (schema_stays laws same c s q x is)

skip : {A : Type 0} (b : Bool) (x y : A) → b ≡ false → cond b x y ≡ y
skip b x y h = rw h refl

left_one : Tabled → (c : Change) (s : Store) (q : List ℕ) → bytes_eq q (name_of c) ≡ false → table_of (apply c s) q ≡ table_of s q
left_one laws (create name schema) s q apart = laws.created name schema s q ∙ skip (bytes_eq q name) (Some (unwrap_or (table_of s name) (record { schema = schema; rows = [] }))) (table_of s q) apart
left_one laws (put name row) s q apart = laws.put name row s q ∙ skip (bytes_eq q name) (option_map (put_row row) (table_of s q)) (table_of s q) apart
left_one laws (remove name key) s q apart = laws.removed name key s q ∙ skip (bytes_eq q name) (option_map (remove_row key) (table_of s q)) (table_of s q) apart

-- changes of one table leave the others
pub left_alone : Tabled → (name : List ℕ) (cs : List Change) (q : List ℕ) → AreOf name cs → bytes_eq q name ≡ false → IsLeft q cs
left_alone laws name [] q all apart s = refl
left_alone laws name (c ∷ cs) q all apart s =
    left_alone laws name cs q all.1 apart (apply c s) ∙ left_one laws c s q (ap (bytes_eq q) all.0 ∙ apart)
