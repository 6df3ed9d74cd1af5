-- What a statement is answered, by what its task comes to over the rows in its scope.
use Rattle.std.proofs.Common.{◌≡◌, ℕ, Bool, true, false, List, [], ◌∷◌, Option, Some, None, refl, sym, ap, ◌∙◌, length, filter, cond}
use Rattle.std.specs.Prelude.{bytes_eq, ◌==◌}
use Rattle.std.specs.Option.{option_to_list}
use Rattle.drda_words.proofs.Precedes.{bytes_eq-refl}
use Rattle.sql_text.specs.declared.tree.Command.{Command}
use Rattle.sql_text.specs.declared.tree.Command.TheVariants as command
use Rattle.sql_text.specs.declared.tree.Definition.{Definition}
use Rattle.sql_text.specs.declared.tree.KeyColumn.{KeyColumn}
use Rattle.row_values.specs.Value.{Value}
use Rattle.row_values.specs.Schema.{Schema}
use Rattle.row_values.specs.Key.{row_key}
use Rattle.tables.specs.Tables.{Store, row_of, rows_of, schema_of}
use Rattle.tables.specs.View.{is_store}
use Rattle.sql_semantics.specs.Create.{defined_schema}
use Rattle.sql_semantics.specs.Frame.{RowsHaveTheirKeys, rows_covered}
use Rattle.sql_semantics.specs.Meaning.{Answer, answer, answered, create_answer, has_key, meaning}
use Rattle.sql_semantics.specs.Scope.{Scope, Names, All, One, table_name}
use Rattle.sql_semantics.specs.Values.{name_of}
use Rattle.small_sql.specs.Keyed.{rows_of_key}
use Rattle.small_sql.specs.Scope.{key_in}

-- ---- of the rows in a scope, those that have its key

none_has : (schema : Schema) (rows : List (List ℕ)) → filter (has_key schema None) rows ≡ []
none_has schema [] = refl
none_has schema (row ∷ rows) = none_has schema rows

kept_by : (b : Bool) (row : List ℕ) → b ≡ true → cond b (row ∷ []) [] ≡ row ∷ []
kept_by true row h = refl
kept_by false row h = absurd cc

found_has : (schema : Schema) (key : List ℕ) (o : Option (List ℕ)) → ((row : List ℕ) → o ≡ Some row → row_key schema row ≡ key) → filter (has_key schema (Some key)) (option_to_list o) ≡ option_to_list o
found_has schema key None has = refl
found_has schema key (Some row) has =
    kept_by (bytes_eq key (row_key schema row)) row (ap (bytes_eq key) (has row refl) ∙ bytes_eq-refl key)

keyed : RowsHaveTheirKeys → (s : Store) (table : List ℕ) (schema : Schema) (w : Scope) → is_store s ≡ true → schema_of s table ≡ Some schema
    → filter (has_key schema (key_in w)) (rows_covered w table s) ≡ rows_of_key (key_in w) table s
keyed keys s table schema Names good there = refl
keyed keys s table schema All good there = none_has schema (rows_of s table)
keyed keys s table schema (One key) good there = found_has schema key (row_of s table key) (λ row is. keys s table key row schema good there is)

-- there are none where the key is free
pub none_keyed : RowsHaveTheirKeys → (s : Store) (table : List ℕ) (schema : Schema) (w : Scope) → is_store s ≡ true → schema_of s table ≡ Some schema
    → (free : Bool) → free ≡ (length (rows_of_key (key_in w) table s) == 0) → (length (filter (has_key schema (key_in w)) (rows_covered w table s)) == 0) ≡ free
none_keyed keys s table schema w good there free frees = ap (λ (rows : List (List ℕ)). length rows == 0) (keyed keys s table schema w good there) ∙ sym frees

-- of a CREATE TABLE whose table is not there, by how many there are
create_is : (params : List Value) (left : ℕ) (s : Store) (t : List ℕ) (definitions : List Definition) (key : List KeyColumn) → schema_of s (name_of t) ≡ None
    → meaning params left (command.Create t definitions key) s ≡ answered (create_answer left (name_of t) (defined_schema definitions key) (length s))
unfolding answer
create_is params left s t definitions key there = ap (λ (o : Option Schema). answer params left (command.Create t definitions key) o (rows_of s (name_of t)) (length s)) there

pub created_is : (params : List Value) (left : ℕ) (s : Store) (table : List ℕ) (c : Command) (t : List ℕ) (definitions : List Definition) (key : List KeyColumn) → c ≡ command.Create t definitions key
    → table ≡ table_name c → schema_of s table ≡ None → (ds : List Definition) → ds ≡ definitions → (ks : List KeyColumn) → ks ≡ key
    → (a : Answer) → a ≡ answered (create_answer left table (defined_schema ds ks) (length s)) → meaning params left c s ≡ a
created_is params left s table c t definitions key is named there ds ds_is ks ks_is a comes =
    let name : table ≡ name_of t = named ∙ ap table_name is in
    ap (λ (c : Command). meaning params left c s) is
    ∙ create_is params left s t definitions key (ap (schema_of s) (sym name) ∙ there)
    ∙ ap (λ (n : List ℕ). answered (create_answer left n (defined_schema definitions key) (length s))) (sym name)
    ∙ ap (λ (l : List Definition). answered (create_answer left table (defined_schema l key) (length s))) (sym ds_is)
    ∙ ap (λ (l : List KeyColumn). answered (create_answer left table (defined_schema ds l) (length s))) (sym ks_is)
    ∙ sym comes
