-- The faults of sums, part by part.
use Rattle.std.specs.Prelude.{Bool, if◌then◌else◌, List, map, Option, Some, None}
use Rattle.sql_text.specs.declared.tree.Term.{Term}
use Rattle.sql_text.specs.declared.tree.Addend.{Addend}
use Rattle.row_values.specs.Value.{Value}
use Rattle.row_values.specs.Column.{Column}
use Rattle.sql_semantics.specs.Checked.{fault_in, first_fault}
use Rattle.sql_semantics.specs.Classes.{term_class}
use Rattle.sql_semantics.specs.Update.{number_class}
use Rattle.core_calls.specs.declared.sql_fault.SqlFault.{SqlFault}
use Rattle.core_calls.specs.declared.sql_fault.SqlFault.TheVariants as fault

abbrev pub addend_terms : List Addend → List Term
addend_terms rest = map (λ (a : Addend). a.term) rest

module _ (params : List Value) (cs : List Column) where
  -- of the names
  abbrev pub names_fault : List Term → Option SqlFault
  names_fault ts = first_fault (map (λ t. fault_in (term_class params cs t)) ts)

  -- of what are to be numbers
  abbrev pub classes_fault : List Term → Option SqlFault
  classes_fault ts = first_fault (map (λ t. fault_in (number_class (term_class params cs t))) ts)

-- by whether the classes are as they are to be
abbrev pub type_fault : Bool → Option SqlFault
type_fault b = if b then None else Some fault.TypeMismatch
