-- What a statement sees of a store, and that it sees no more.
use Rattle.std.specs.Prelude.{◌≡◌, ◌⊎◌, ℕ, true, List, [], ◌∷◌, length, Option, Some, None}
use Rattle.std.specs.Option.{option_to_list}
use Rattle.std.specs.Map.{keys_of}
use Rattle.sql_text.specs.declared.tree.Command.{Command}
use Rattle.row_values.specs.Value.{Value}
use Rattle.row_values.specs.Schema.{Schema, is_schema}
use Rattle.row_values.specs.Key.{row_key}
use Rattle.tables.specs.Change.{Change, create, put, remove}
use Rattle.tables.specs.Tables.{Store, row_of, rows_of, schema_of, table_of}
use Rattle.tables.specs.View.{is_store}
use Rattle.unit_locks.specs.Claim.{Claim}
use Rattle.unit_locks.specs.declared.access.Access.TheVariants.{Write}
use Rattle.sql_semantics.specs.Scope.{All, Names, One, Scope, claim, claims, scope, star, table_name}
use Rattle.sql_semantics.specs.Meaning.{Answer, Changes, Refused, Rows, answer, meaning}

-- ---- what a scope covers

abbrev pub rows_covered : Scope → List ℕ → Store → List (List ℕ)
rows_covered Names table s = []
rows_covered All table s = rows_of s table
rows_covered (One key) table s = option_to_list (row_of s table key)

abbrev pub tables_covered : Scope → Store → ℕ
tables_covered Names s = length s
tables_covered All s = 0
tables_covered (One key) s = 0

-- the answer, by what the scope covers alone
abbrev pub covered_answer : List Value → ℕ → Command → Store → Answer
covered_answer params left c s =
    let schema = schema_of s (table_name c) in
    answer params left c schema (rows_covered (scope params c schema) (table_name c) s) (tables_covered (scope params c schema) s)

-- the rows outside the scope change no answer
abbrev pub CoveredIsEnough : Type 0
CoveredIsEnough = (params : List Value) (left : ℕ) (c : Command) (s : Store) → is_store s ≡ true → meaning params left c s ≡ covered_answer params left c s

-- the row of a key has that key
abbrev pub RowsHaveTheirKeys : Type 0
RowsHaveTheirKeys = (s : Store) (q key row : List ℕ) (schema : Schema) → is_store s ≡ true → schema_of s q ≡ Some schema → row_of s q key ≡ Some row → row_key schema row ≡ key

-- ---- the frame law

abbrev pub In : {X : Type 0} → X → List X → Type 0
In x [] = ⊥
In x (y ∷ ys) = (x ≡ y) ⊎ In x ys

-- two stores show the same under a claim
abbrev pub Same : Option (List ℕ) → List ℕ → Store → Store → Type 0
Same None table s t = table_of s table ≡ table_of t table
Same (Some key) table s t = (schema_of s table ≡ schema_of t table) × (row_of s table key ≡ row_of t table key)

pub record Covered (c : Claim) (s t : Store) : Type 0 where
  pub rows : Same c.key c.table s t
  -- a claim of `*` covers the names of all tables
  pub names : c.table ≡ star → keys_of s ≡ keys_of t

-- two stores agree on a table's schema or absence, and on what is claimed
pub record Agree (table : List ℕ) (cs : List Claim) (s t : Store) : Type 0 where
  pub schema : schema_of s table ≡ schema_of t table
  pub covered : (c : Claim) → In c cs → Covered c s t

abbrev pub claims_in : List Value → Command → Store → List Claim
claims_in params c s = claims params c (schema_of s (table_name c))

abbrev pub FrameLaw : Type 0
FrameLaw = (params : List Value) (left : ℕ) (c : Command) (s t : Store) → is_store s ≡ true → is_store t ≡ true → Agree (table_name c) (claims_in params c s) s t
    → (claims_in params c s ≡ claims_in params c t) × (meaning params left c s ≡ meaning params left c t)

-- ---- where changes lie

abbrev pub changes_of : Answer → List Change
changes_of (Refused e) = []
changes_of (Changes changes n) = changes
changes_of (Rows l) = []

abbrev pub InWrite : List ℕ → Option (List ℕ) → List Claim → Type 0
InWrite table key cs = In (claim Write table key) cs

-- the key of a row, by the schema of its table
abbrev pub HasKey : Option Schema → List ℕ → List ℕ → Type 0
HasKey None row key = ⊥
HasKey (Some schema) row key = row_key schema row ≡ key

-- the change lies in write claims of these, in a store
abbrev pub Within : Store → Change → List Claim → Type 0
Within s (create table schema) cs = InWrite table None cs × InWrite star None cs × (is_schema schema ≡ true)
Within s (put table row) cs = InWrite table None cs ⊎ ((key : List ℕ) × HasKey (schema_of s table) row key × InWrite table (Some key) cs)
Within s (remove table key) cs = InWrite table None cs ⊎ InWrite table (Some key) cs

abbrev pub Lies : Type 0
Lies = (params : List Value) (left : ℕ) (c : Command) (s : Store) (x : Change) → is_store s ≡ true → In x (changes_of (meaning params left c s)) → Within s x (claims_in params c s)
