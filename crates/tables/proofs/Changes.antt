-- What changes make of a store, seen table by table and row by row.
use Rattle.std.proofs.Common.{◌≡◌, ℕ, List, [], Bool, true, false, cond, ◌&&◌, if◌then◌else◌, refl, sym, ap, ◌∙◌, Option, Some, None, option_map}
use Rattle.std.specs.Prelude.{bytes_eq, is_some, unwrap_or}
use Rattle.std.specs.Option.{option_and_then}
use Rattle.std.specs.Map.{lookup, values_of}
use Rattle.std.specs.BTreeMap.{insert_entry}
use Rattle.std.specs.Ordering.{nat_cmp}
use Rattle.std.specs.Cmp.Lexicographic.{nat_list_cmp_total, slice_cmp}
use Rattle.std.proofs.lemmas.Cmp.{tied_itself}
use Rattle.std.proofs.lemmas.Map.Lookups.{exact_bytes}
use Rattle.row_values.specs.Schema.{Schema}
use Rattle.row_values.specs.Row.{is_row}
use Rattle.row_values.specs.Key.{key_cmp, row_key}
use Rattle.tables.specs.Tables.{Creates, Puts, Removes, Store, Table, apply, put_row, remove_row, rows_of, table_of, with_table, is_row_at}
use Rattle.tables.specs.Change.{create, put, remove}
use Rattle.row_values.proofs.KeyOrder.{key_exact, key_itself}
use Rattle.tables.proofs.Finding.{TellsApart, found_changed, found_put, found_taken, either_way, same_bytes}

pub names_apart : TellsApart (slice_cmp nat_cmp)
names_apart = record { exact = exact_bytes; itself = tied_itself nat_list_cmp_total }

pub keys_apart : (schema : Schema) → TellsApart (key_cmp schema)
keys_apart schema = record { exact = key_exact schema; itself = key_itself schema }

-- ---- seen through one table

-- the table of a name after one table has changed
pub table_after : (f : Table → Table) (q n : List ℕ) (s : Store) → table_of (with_table f n s) q ≡ cond (bytes_eq q n) (option_map f (table_of s q)) (table_of s q)
table_after f q n s = found_changed f q n s

schema_kept : (f : Table → Table) → ((t : Table) → (f t).schema ≡ t.schema) → (b : Bool) (o : Option Table) → option_map (λ (t : Table). t.schema) (cond b (option_map f o) o) ≡ option_map (λ (t : Table). t.schema) o
schema_kept f keeps true None = refl
schema_kept f keeps true (Some t) = ap Some (keeps t)
schema_kept f keeps false o = refl

put_schema : (row : List ℕ) (t : Table) (b : Bool) → is_row t.schema row ≡ b → (if b then record { schema = t.schema; rows = insert_entry (key_cmp t.schema) t.rows (row_key t.schema row) row } else t).schema ≡ t.schema
put_schema row t true is = refl
put_schema row t false is = refl

put_keeps : (row : List ℕ) (t : Table) → (put_row row t).schema ≡ t.schema
put_keeps row t = put_schema row t (is_row t.schema row) refl

-- the row of a key after a row was put
put_finds : (row key : List ℕ) (t : Table) (b : Bool) → is_row t.schema row ≡ b
    → lookup (bytes_eq key) (if b then record { schema = t.schema; rows = insert_entry (key_cmp t.schema) t.rows (row_key t.schema row) row } else t).rows ≡ cond (b && bytes_eq key (row_key t.schema row)) (Some row) (lookup (bytes_eq key) t.rows)
put_finds row key t true is = found_put (key_cmp t.schema) (keys_apart t.schema) key (row_key t.schema row) row t.rows
put_finds row key t false is = refl

put_row_at : (row key : List ℕ) (b : Bool) (o named : Option Table) → (b ≡ true → named ≡ o)
    → option_and_then (λ (t : Table). lookup (bytes_eq key) t.rows) (cond b (option_map (put_row row) o) o) ≡ cond (b && is_row_at (option_map (λ (t : Table). t.schema) named) row key) (Some row) (option_and_then (λ (t : Table). lookup (bytes_eq key) t.rows) o)
put_row_at row key false o named same = refl
put_row_at row key true None named same = ap (λ (m : Option Table). cond (is_row_at (option_map (λ (t : Table). t.schema) m) row key) (Some row) None) (sym (same refl))
put_row_at row key true (Some t) named same =
    put_finds row key t (is_row t.schema row) refl ∙ ap (λ (m : Option Table). cond (is_row_at (option_map (λ (u : Table). u.schema) m) row key) (Some row) (lookup (bytes_eq key) t.rows)) (sym (same refl))

take_row_at : (key k : List ℕ) (b : Bool) (o : Option Table)
    → option_and_then (λ (t : Table). lookup (bytes_eq k) t.rows) (cond b (option_map (remove_row key) o) o) ≡ cond (b && bytes_eq k key) None (option_and_then (λ (t : Table). lookup (bytes_eq k) t.rows) o)
take_row_at key k false o = refl
take_row_at key k true None = either_way (bytes_eq k key) None
take_row_at key k true (Some t) = found_taken k key t.rows

rows_apart : (f : Table → Table) (q n : List ℕ) (s : Store) → bytes_eq q n ≡ false → rows_of (with_table f n s) q ≡ rows_of s q
rows_apart f q n s apart =
    ap (λ (o : Option Table). unwrap_or (option_map (λ (t : Table). values_of t.rows) o) []) (table_after f q n s ∙ ap (λ b. cond b (option_map f (table_of s q)) (table_of s q)) apart)

named : (q n : List ℕ) (s : Store) → bytes_eq q n ≡ true → table_of s n ≡ table_of s q
named q n s h = ap (table_of s) (sym (same_bytes q n h))

pub put_puts : (name row : List ℕ) (s : Store) → Puts name row s (apply (put name row) s)
put_puts name row s = record {
  schemas = λ q. ap (option_map (λ (t : Table). t.schema)) (table_after (put_row row) q name s) ∙ schema_kept (put_row row) (put_keeps row) (bytes_eq q name) (table_of s q);
  found = λ q key. ap (option_and_then (λ (t : Table). lookup (bytes_eq key) t.rows)) (table_after (put_row row) q name s) ∙ put_row_at row key (bytes_eq q name) (table_of s q) (table_of s name) (named q name s);
  others = λ q apart. rows_apart (put_row row) q name s apart;
}

pub remove_removes : (name key : List ℕ) (s : Store) → Removes name key s (apply (remove name key) s)
remove_removes name key s = record {
  schemas = λ q. ap (option_map (λ (t : Table). t.schema)) (table_after (remove_row key) q name s) ∙ schema_kept (remove_row key) (λ t. refl) (bytes_eq q name) (table_of s q);
  found = λ q k. ap (option_and_then (λ (t : Table). lookup (bytes_eq k) t.rows)) (table_after (remove_row key) q name s) ∙ take_row_at key k (bytes_eq q name) (table_of s q);
  others = λ q apart. rows_apart (remove_row key) q name s apart;
}

-- ---- creation

abbrev fresh : Schema → Table
fresh schema = record { schema = schema; rows = [] }

table_created : (name : List ℕ) (schema : Schema) (s : Store) (q : List ℕ) → table_of (insert_entry (slice_cmp nat_cmp) s name (fresh schema)) q ≡ cond (bytes_eq q name) (Some (fresh schema)) (table_of s q)
table_created name schema s q = found_put (slice_cmp nat_cmp) names_apart q name (fresh schema) s

new_schema : (schema : Schema) (b : Bool) (o n : Option Table) → n ≡ None → option_map (λ (t : Table). t.schema) (cond b (Some (fresh schema)) o) ≡ cond b (Some (unwrap_or (option_map (λ (t : Table). t.schema) n) schema)) (option_map (λ (t : Table). t.schema) o)
new_schema schema true o n none = ap (λ (m : Option Table). Some (unwrap_or (option_map (λ (t : Table). t.schema) m) schema)) (sym none)
new_schema schema false o n none = refl

new_row : (schema : Schema) (key : List ℕ) (b : Bool) (o n : Option Table) → n ≡ None → (b ≡ true → n ≡ o) → option_and_then (λ (t : Table). lookup (bytes_eq key) t.rows) (cond b (Some (fresh schema)) o) ≡ option_and_then (λ (t : Table). lookup (bytes_eq key) t.rows) o
new_row schema key true o n none same = ap (option_and_then (λ (t : Table). lookup (bytes_eq key) t.rows)) (sym none ∙ same refl)
new_row schema key false o n none same = refl

new_rows : (schema : Schema) (b : Bool) (o n : Option Table) → n ≡ None → (b ≡ true → n ≡ o) → unwrap_or (option_map (λ (t : Table). values_of t.rows) (cond b (Some (fresh schema)) o)) [] ≡ unwrap_or (option_map (λ (t : Table). values_of t.rows) o) []
new_rows schema true o n none same = ap (λ (m : Option Table). unwrap_or (option_map (λ (t : Table). values_of t.rows) m) []) (sym none ∙ same refl)
new_rows schema false o n none same = refl

old_schema : (schema : Schema) (b : Bool) (o n : Option Table) (t : Table) → n ≡ Some t → (b ≡ true → n ≡ o) → option_map (λ (u : Table). u.schema) o ≡ cond b (Some (unwrap_or (option_map (λ (u : Table). u.schema) n) schema)) (option_map (λ (u : Table). u.schema) o)
old_schema schema true o n t is same = ap (option_map (λ (u : Table). u.schema)) (sym (same refl) ∙ is) ∙ ap (λ (m : Option Table). Some (unwrap_or (option_map (λ (u : Table). u.schema) m) schema)) (sym is)
old_schema schema false o n t is same = refl

create_by : (name : List ℕ) (schema : Schema) (s : Store) (o : Option Table) → table_of s name ≡ o → Creates name schema s (if is_some o then s else insert_entry (slice_cmp nat_cmp) s name (fresh schema))
create_by name schema s None is = record {
  schemas = λ q. ap (option_map (λ (t : Table). t.schema)) (table_created name schema s q) ∙ new_schema schema (bytes_eq q name) (table_of s q) (table_of s name) is;
  found = λ q key. ap (option_and_then (λ (t : Table). lookup (bytes_eq key) t.rows)) (table_created name schema s q) ∙ new_row schema key (bytes_eq q name) (table_of s q) (table_of s name) is (named q name s);
  rows = λ q. ap (λ (o : Option Table). unwrap_or (option_map (λ (t : Table). values_of t.rows) o) []) (table_created name schema s q) ∙ new_rows schema (bytes_eq q name) (table_of s q) (table_of s name) is (named q name s);
}
create_by name schema s (Some t) is = record {
  schemas = λ q. old_schema schema (bytes_eq q name) (table_of s q) (table_of s name) t is (named q name s);
  found = λ q key. refl;
  rows = λ q. refl;
}

pub create_creates : (name : List ℕ) (schema : Schema) (s : Store) → Creates name schema s (apply (create name schema) s)
create_creates name schema s = create_by name schema s (table_of s name) refl
