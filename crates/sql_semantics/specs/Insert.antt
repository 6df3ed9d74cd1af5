-- The row that an INSERT gives.
use Rattle.std.specs.Prelude.{ℕ, List, [], ◌∷◌, ◌++◌, length, map, nat_eq, nat_le, ◌==◌, if◌then◌else◌, Option, Some, None, Ok, Err, position, unwrap_or}
use Rattle.std.specs.List.{list_any, slice_get}
use Rattle.std.specs.Option.{option_and_then}
use Rattle.sql_text.specs.declared.tree.Columns.{Columns}
use Rattle.sql_text.specs.declared.tree.Columns.TheVariants as columns
use Rattle.row_values.specs.Value.{Value, null}
use Rattle.row_values.specs.Column.{Column, misfit_of}
use Rattle.row_values.specs.Schema.{Schema, picked}
use Rattle.row_values.specs.Row.{all_fit, row_bytes}
use Rattle.sql_semantics.specs.Keys.{key_of_values}
use Rattle.sql_semantics.specs.Checked.{Checked, and_then, fault_or, unless}
use Rattle.sql_semantics.specs.Values.{all_places, column_place}
use Rattle.core_calls.specs.declared.sql_fault.SqlFault.{SqlFault}
use Rattle.core_calls.specs.declared.sql_fault.SqlFault.TheVariants as fault

abbrev pub new_place : List ℕ → Option ℕ → Checked ℕ
new_place found None = Err fault.ColumnUnknown
new_place found (Some p) = if list_any (nat_eq p) found then Err fault.Syntax else Ok p

-- the places of names from left to right: each is a column, and none stands twice
abbrev pub new_places : List Column → List ℕ → List (List ℕ) → Checked (List ℕ)
new_places columns found [] = Ok found
new_places columns found (name ∷ names) = and_then (new_place found (column_place columns name)) (λ p. new_places columns (found ++ p ∷ []) names)

abbrev pub given_places : List Column → Columns → Checked (List ℕ)
given_places cs columns.All = Ok (all_places 0 cs)
given_places cs (columns.Named names) = new_places cs [] names

-- the value that is given for a column; what is not given is NULL
abbrev pub given : List ℕ → List Value → ℕ → Value
given places values i = unwrap_or (option_and_then (slice_get values) (position (λ p. p == i) places)) null

-- a value for each column
abbrev pub row_values : List Column → List Value → List ℕ → List Value
row_values cs values places = map (given places values) (all_places 0 cs)

-- the values of the row, where the names and the number of values pass
unfoldable pub given_row : Schema → Columns → List Value → Checked (List Value)
given_row schema named values =
    and_then (given_places schema.columns named) (λ places. if length places == length values then Ok (row_values schema.columns values places) else Err fault.Syntax)

-- the first value, in the order of the columns, that doesn't fit
abbrev pub first_misfit : List Column → List Value → Option SqlFault
first_misfit (c ∷ cs) (v ∷ vs) = fault_or (misfit_of c v) (first_misfit cs vs)
first_misfit _ _ = None

-- the row of values that fit, of at most 4,000 bytes
abbrev pub new_row : Schema → List Value → Checked (List ℕ)
new_row schema vs = unless (all_fit schema.columns vs) fault.Syntax (unless (nat_le (length (row_bytes schema.columns vs)) 4000) fault.LimitReached (Ok (row_bytes schema.columns vs)))

-- the key of the row, where its values fit
abbrev pub fitting_key : Schema → Checked (List Value) → Option (List ℕ)
fitting_key schema (Ok values) = key_of_values schema (picked values schema.key)
fitting_key schema (Err e) = None

unfoldable pub given_key : Schema → Columns → List Value → Option (List ℕ)
given_key schema named values = fitting_key schema (given_row schema named values)
