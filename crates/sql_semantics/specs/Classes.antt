-- The checks of names and classes: the classes are number, text and bytes, by their places in the
-- order of values.
use Rattle.std.specs.Prelude.{ℕ, ◌||◌, ◌==◌, if◌then◌else◌, List, [], ◌∷◌, ◌++◌, length, nat_le, Option, Some, None, Ok, Err}
use Rattle.std.specs.List.{slice_get}
use Rattle.std.specs.Option.{option_and_then}
use Rattle.sql_text.specs.declared.tree.Columns.{Columns}
use Rattle.sql_text.specs.declared.tree.Columns.TheVariants as columns
use Rattle.sql_text.specs.declared.tree.Term.{Term}
use Rattle.sql_text.specs.declared.tree.Term.TheVariants as term
use Rattle.sql_text.specs.declared.tree.Predicate.{Predicate}
use Rattle.sql_text.specs.declared.tree.Predicate.TheOpen.{Predicate-F}
use Rattle.sql_text.specs.declared.tree.Predicate.TheFolds.{fold-Predicate}
use Rattle.row_values.specs.Value.{Value, class_of}
use Rattle.row_values.specs.Column.{Column}
use Rattle.row_values.specs.declared.column.Kind.{Kind}
use Rattle.row_values.specs.declared.column.Kind.TheVariants.{SmallInt, Integer, BigInt, VarChar, VarBinary}
use Rattle.sql_semantics.specs.Values.{all_places, column_place, literal_value}
use Rattle.sql_semantics.specs.Checked.{Checked, and_then, fault_in, first_fault, unless}
use Rattle.core_calls.specs.declared.sql_fault.SqlFault.{SqlFault}
use Rattle.core_calls.specs.declared.sql_fault.SqlFault.TheVariants as fault

-- the class of the values of a type
abbrev pub kind_class : Kind → ℕ
kind_class SmallInt = 1
kind_class Integer = 1
kind_class BigInt = 1
kind_class VarChar = 2
kind_class VarBinary = 3

abbrev pub column_class : Option Column → Checked ℕ
column_class None = Err fault.ColumnUnknown
column_class (Some c) = Ok (kind_class c.kind)

abbrev pub column_named : List Column → List ℕ → Option Column
column_named cs name = option_and_then (slice_get cs) (column_place cs name)

-- NULL, of class 0, has every class
abbrev pub same_class : ℕ → ℕ → Checked ℕ
same_class a b = if a == b || a == 0 || b == 0 then Ok a else Err fault.TypeMismatch

-- ---- predicates

abbrev pub null_test_fault : List Column → List ℕ → Option SqlFault
null_test_fault cs name = fault_in (column_class (column_named cs name))

module _ (params : List Value) (cs : List Column) where
  abbrev pub term_class : Term → Checked ℕ
  term_class (term.Column name) = column_class (column_named cs name)
  term_class (term.Value v) = Ok (class_of (literal_value params v))

  -- of a comparison both names, then the class
  abbrev pub comparison_fault : Term → Term → Option SqlFault
  comparison_fault a b = fault_in (and_then (term_class a) (λ x. and_then (term_class b) (same_class x)))

  abbrev pub layer_fault : Predicate-F (Option SqlFault) → Option SqlFault
  layer_fault (Predicate-F.Any es) = first_fault es
  layer_fault (Predicate-F.All es) = first_fault es
  layer_fault (Predicate-F.Not e) = e
  layer_fault (Predicate-F.Group e) = e
  layer_fault (Predicate-F.Compare a c b) = comparison_fault a b
  layer_fault (Predicate-F.IsNull name negative) = null_test_fault cs name

  -- the first fault from left to right
  unfoldable pub predicate_fault : Predicate → Option SqlFault
  predicate_fault = fold-Predicate (Option SqlFault) layer_fault

  abbrev pub filter_fault : Option Predicate → Option SqlFault
  filter_fault None = None
  filter_fault (Some p) = predicate_fault p

-- ---- the columns that a SELECT asks for

abbrev pub known_place : Option ℕ → Checked ℕ
known_place None = Err fault.ColumnUnknown
known_place (Some p) = Ok p

-- the places of names from left to right, behind these; a name may stand twice
abbrev pub named_places : List Column → List ℕ → List (List ℕ) → Checked (List ℕ)
named_places cs found [] = Ok found
named_places cs found (name ∷ names) = and_then (known_place (column_place cs name)) (λ p. named_places cs (found ++ p ∷ []) names)

-- their places; of more than 64 names no text is read
abbrev pub selected_places : List Column → Columns → Checked (List ℕ)
selected_places cs columns.All = Ok (all_places 0 cs)
selected_places cs (columns.Named names) = unless (nat_le (length names) 64) fault.LimitReached (named_places cs [] names)
