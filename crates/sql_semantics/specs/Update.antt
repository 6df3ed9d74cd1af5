-- What an UPDATE assigns: sums that read each row as it was before the statement.
use Rattle.std.specs.Prelude.{ℕ, ℤ, ◌+ℤ◌, ◌-ℤ◌, nat_eq, slice_set, if◌then◌else◌, List, [], ◌∷◌, ◌++◌, map, Option, Some, None, Ok, Err}
use Rattle.std.specs.List.{list_any, slice_get}
use Rattle.sql_text.specs.declared.tree.Term.{Term}
use Rattle.sql_text.specs.declared.tree.Operation.{Operation}
use Rattle.sql_text.specs.declared.tree.Operation.TheVariants as operation
use Rattle.sql_text.specs.declared.tree.Addend.{Addend}
use Rattle.sql_text.specs.declared.tree.Sum.{Sum}
use Rattle.sql_text.specs.declared.tree.Assignment.{Assignment}
use Rattle.row_values.specs.Value.{Value, null, number}
use Rattle.row_values.specs.Column.{Column, misfit_of}
use Rattle.row_values.specs.Schema.{Schema}
use Rattle.row_values.specs.Row.{values_in}
use Rattle.tables.specs.Change.{Change, put}
use Rattle.sql_semantics.specs.Values.{column_place, is_bigint, term_value}
use Rattle.sql_semantics.specs.Checked.{Checked, and_then, fault_in, fault_or, first_fault, if_none}
use Rattle.sql_semantics.specs.Insert.{new_row}
use Rattle.sql_semantics.specs.Classes.{column_class, same_class, term_class}
use Rattle.core_calls.specs.declared.sql_fault.SqlFault.{SqlFault}
use Rattle.core_calls.specs.declared.sql_fault.SqlFault.TheVariants as fault

-- ---- before any row is read

-- the terms of a sum, from left to right
abbrev pub sum_terms : Sum → List Term
sum_terms s = s.first ∷ map (λ (a : Addend). a.term) s.rest

-- the column of an assignment: it is none of the key, and not assigned before
abbrev pub new_target : List ℕ → List ℕ → Option ℕ → Checked ℕ
new_target key found None = Err fault.ColumnUnknown
new_target key found (Some p) = if list_any (nat_eq p) key then Err fault.Syntax else (if list_any (nat_eq p) found then Err fault.Syntax else Ok p)

-- what is to be a number
abbrev pub number_class : Checked ℕ → Checked ℕ
number_class r = and_then r (same_class 1)

module _ (params : List Value) (cs : List Column) where
  -- one term has the column's class; of several, the column and each term are numbers
  abbrev pub class_fault : Checked ℕ → List Term → Option SqlFault
  class_fault column (t ∷ []) = fault_in (and_then column (λ a. and_then (term_class params cs t) (same_class a)))
  class_fault column ts = first_fault (fault_in (number_class column) ∷ map (λ t. fault_in (number_class (term_class params cs t))) ts)

  -- all names of the sum, and then the classes
  abbrev pub sum_fault : ℕ → Sum → Option SqlFault
  sum_fault place s = first_fault (first_fault (map (λ t. fault_in (term_class params cs t)) (sum_terms s)) ∷ class_fault (column_class (slice_get cs place)) (sum_terms s) ∷ [])

  -- the places of the columns that are assigned, with their sums; found are those before
  abbrev pub targets : List ℕ → List ℕ → List Assignment → Checked (List (ℕ × Sum))
  targets key found [] = Ok []
  targets key found (a ∷ later) =
      and_then (new_target key found (column_place cs a.column)) (λ p. if_none (sum_fault p a.sum) (and_then (targets key (found ++ p ∷ []) later) (λ ts. Ok ((p, a.sum) ∷ ts))))

-- ---- row by row

-- a partial sum lies in BIGINT
abbrev pub bigint : ℤ → Checked Value
bigint n = if is_bigint n then Ok (number n) else Err fault.OutOfRange

-- with NULL it is NULL
abbrev pub summed : Operation → Value → Value → Checked Value
summed operation.Add (number a) (number b) = bigint (a +ℤ b)
summed operation.Subtract (number a) (number b) = bigint (a -ℤ b)
summed o _ _ = Ok null

abbrev pub place_fault : Option Column → Value → Option SqlFault
place_fault None v = Some fault.ColumnUnknown
place_fault (Some c) v = fault_or (misfit_of c v) None

module _ (params : List Value) (cs : List Column) (old : List Value) where
  abbrev pub sum_from : Value → List Addend → Checked Value
  sum_from v [] = Ok v
  sum_from v (a ∷ later) = and_then (summed a.operation v (term_value params cs old a.term)) (λ w. sum_from w later)

  abbrev pub sum_value : Sum → Checked Value
  sum_value s = sum_from (term_value params cs old s.first) s.rest

  -- these values with what is assigned, from left to right, in their places
  abbrev pub set_all : List (ℕ × Sum) → List Value → Checked (List Value)
  set_all [] vs = Ok vs
  set_all (t ∷ ts) vs = and_then (sum_value t.1) (λ v. if_none (place_fault (slice_get cs t.0) v) (set_all ts (slice_set vs t.0 v)))

abbrev pub updated_row : List Value → Schema → List (ℕ × Sum) → List ℕ → Checked (List ℕ)
updated_row params schema ts row = and_then (set_all params schema.columns (values_in schema row) ts (values_in schema row)) (new_row schema)

abbrev pub updated_rows : List Value → List ℕ → Schema → List (ℕ × Sum) → List (List ℕ) → Checked (List Change)
updated_rows params table schema ts [] = Ok []
updated_rows params table schema ts (row ∷ rows) = and_then (updated_row params schema ts row) (λ new. and_then (updated_rows params table schema ts rows) (λ ds. Ok (put table new ∷ ds)))
