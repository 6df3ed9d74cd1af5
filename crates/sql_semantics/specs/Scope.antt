-- What a statement claims.
use Rattle.std.specs.Prelude.{ℕ, Bool, true, false, ◌==◌, if◌then◌else◌, List, [], ◌∷◌, map, Option, Some, None}
use Rattle.std.specs.Option.{option_and_then, option_or}
use Rattle.std.specs.List.{list_all, slice_get}
use Rattle.sql_lex.specs.declared.token.Comparison.TheVariants as op
use Rattle.sql_text.specs.declared.tree.Term.{Term}
use Rattle.sql_text.specs.declared.tree.Term.TheVariants as term
use Rattle.sql_text.specs.declared.tree.Predicate.{Predicate, out-Predicate}
use Rattle.sql_text.specs.declared.tree.Predicate.TheOpen.{Predicate-F}
use Rattle.sql_text.specs.declared.tree.Command.{Command}
use Rattle.sql_text.specs.declared.tree.Command.TheVariants as command
use Rattle.row_values.specs.Value.{Value}
use Rattle.row_values.specs.Column.{Column, fits}
use Rattle.row_values.specs.Schema.{Schema}
use Rattle.unit_locks.specs.Claim.{Claim}
use Rattle.unit_locks.specs.declared.access.Access.{Access}
use Rattle.unit_locks.specs.declared.access.Access.TheVariants.{Read, Write}
use Rattle.sql_semantics.specs.Values.{column_place, literal_value, name_of}
use Rattle.sql_semantics.specs.Keys.{key_of_values}
use Rattle.sql_semantics.specs.Truth.{is_null}
use Rattle.sql_semantics.specs.Insert.{given_key}

-- ---- the key that a predicate fixes

-- a comparison, or a test for NULL
abbrev pub is_plain_part : Predicate-F Predicate → Bool
is_plain_part (Predicate-F.Compare a c b) = true
is_plain_part (Predicate-F.IsNull name negative) = true
is_plain_part _ = false

abbrev pub plain_parts : List Predicate → List Predicate
plain_parts ps = if list_all (λ p. is_plain_part (out-Predicate p)) ps then ps else []

abbrev pub parts_in_all : Predicate-F Predicate → List Predicate
parts_in_all (Predicate-F.All ps) = plain_parts ps
parts_in_all _ = []

abbrev pub parts_in_any : Predicate-F Predicate → List Predicate
parts_in_any (Predicate-F.Any (p ∷ [])) = parts_in_all (out-Predicate p)
parts_in_any _ = []

-- the parts of a conjunction without parentheses, OR and NOT; of any other predicate none
unfoldable pub conjuncts : Predicate → List Predicate
conjuncts p = parts_in_any (out-Predicate p)

-- the value, where it is not NULL and fits the column
abbrev pub fitting : Option Column → Value → Option Value
fitting None v = None
fitting (Some column) v = if is_null v then None else (if fits column v then Some v else None)

abbrev pub is_place : ℕ → Option ℕ → Bool
is_place place None = false
is_place place (Some p) = p == place

-- the value, where the column of this name is the one of this place
abbrev pub fit_at : List Column → ℕ → List ℕ → Value → Option Value
fit_at columns place name v = if is_place place (column_place columns name) then fitting (slice_get columns place) v else None

module _ (params : List Value) (columns : List Column) where
  -- the value that an equation gives to the column of this place
  abbrev pub equated : ℕ → Term → Term → Option Value
  equated place (term.Column n) (term.Value v) = fit_at columns place n (literal_value params v)
  equated place (term.Value v) (term.Column n) = fit_at columns place n (literal_value params v)
  equated place _ _ = None

  abbrev pub fixed_by : ℕ → Predicate-F Predicate → Option Value
  fixed_by place (Predicate-F.Compare a op.Equal b) = equated place a b
  fixed_by place _ = None

  -- the first of the parts that fixes the column of this place
  abbrev pub fixed : ℕ → List Predicate → Option Value
  fixed place [] = None
  fixed place (p ∷ ps) = option_or (fixed_by place (out-Predicate p)) (fixed place ps)

  abbrev pub cons_some : Option Value → Option (List Value) → Option (List Value)
  cons_some (Some v) (Some vs) = Some (v ∷ vs)
  cons_some _ _ = None

  -- the values of these places, where each is fixed
  abbrev pub all_fixed : List ℕ → List Predicate → Option (List Value)
  all_fixed [] ps = Some []
  all_fixed (place ∷ places) ps = cons_some (fixed place ps) (all_fixed places ps)

-- the key, where the predicate fixes each column of it
unfoldable pub fixed_key : List Value → Schema → Predicate → Option (List ℕ)
fixed_key params schema p = option_and_then (key_of_values schema) (all_fixed params schema.columns schema.key (conjuncts p))

-- ---- what a statement works on

pub data Scope : Type 0 where
  -- the names of all tables
  Names : Scope
  -- all rows of its table
  All : Scope
  -- the row of a key
  One : List ℕ → Scope

abbrev pub scope_by : Option (List ℕ) → Scope
scope_by None = All
scope_by (Some key) = One key

abbrev pub filter_key : List Value → Schema → Option Predicate → Option (List ℕ)
filter_key params schema None = None
filter_key params schema (Some p) = fixed_key params schema p

abbrev pub scope_in : List Value → Command → Schema → Scope
scope_in params (command.Create table definitions key) schema = Names
scope_in params (command.Insert table named values) schema = scope_by (given_key schema named (map (literal_value params) values))
scope_in params (command.Update table assignments filter) schema = scope_by (filter_key params schema filter)
scope_in params (command.Delete table filter) schema = scope_by (filter_key params schema filter)
scope_in params (command.Select named table filter) schema = scope_by (filter_key params schema filter)

abbrev pub absent_scope : Command → Scope
absent_scope (command.Create table definitions key) = Names
absent_scope _ = All

-- of a statement, by the schema of its table
unfoldable pub scope : List Value → Command → Option Schema → Scope
scope params c None = absent_scope c
scope params c (Some schema) = scope_in params c schema

abbrev pub table_name : Command → List ℕ
table_name (command.Create table definitions key) = name_of table
table_name (command.Insert table named values) = name_of table
table_name (command.Update table assignments filter) = name_of table
table_name (command.Delete table filter) = name_of table
table_name (command.Select named table filter) = name_of table

-- ---- claims

-- the name that no table has: `*`
abbrev pub star : List ℕ
star = 42 ∷ []

abbrev pub claim : Access → List ℕ → Option (List ℕ) → Claim
claim access table key = record { access = access; table = table; key = key }

-- what makes a table, or not, claims all of it and the names of all tables
abbrev pub scope_claims : Access → List ℕ → Scope → List Claim
scope_claims access table Names = claim Write table None ∷ claim Write star None ∷ []
scope_claims access table All = claim access table None ∷ []
scope_claims access table (One key) = claim access table (Some key) ∷ []

abbrev pub found_access : Command → Access
found_access (command.Select named table filter) = Read
found_access _ = Write

-- a statement that finds its table writes, SELECT apart
abbrev pub statement_access : Command → Option Schema → Access
statement_access c None = Read
statement_access c (Some schema) = found_access c

-- the claims of a statement, by the schema of its table
unfoldable pub claims : List Value → Command → Option Schema → List Claim
claims params c schema = scope_claims (statement_access c schema) (table_name c) (scope params c schema)
