-- What a statement is described by: the columns of its rows, or the types of its parameters.
use Rattle.std.specs.Prelude.{ℕ, ◌++◌, ◌∷◌, List, [], length, map, nat_le, Option, Some, None, Ok, Err}
use Rattle.std.specs.List.{flat_map}
use Rattle.sql_text.specs.declared.tree.Literal.{Literal}
use Rattle.sql_text.specs.declared.tree.Literal.TheVariants as literal
use Rattle.sql_text.specs.declared.tree.Term.{Term}
use Rattle.sql_text.specs.declared.tree.Term.TheVariants as term
use Rattle.sql_text.specs.declared.tree.Sum.{Sum}
use Rattle.sql_text.specs.declared.tree.Assignment.{Assignment}
use Rattle.sql_text.specs.declared.tree.Columns.{Columns}
use Rattle.sql_text.specs.declared.tree.Columns.TheVariants as columns
use Rattle.sql_text.specs.declared.tree.Predicate.{Predicate}
use Rattle.sql_text.specs.declared.tree.Predicate.TheOpen.{Predicate-F}
use Rattle.sql_text.specs.declared.tree.Predicate.TheFolds.{fold-Predicate}
use Rattle.sql_text.specs.declared.tree.Command.{Command}
use Rattle.sql_text.specs.declared.tree.Command.TheVariants as command
use Rattle.row_values.specs.Column.{Column}
use Rattle.row_values.specs.Schema.{Schema, picked}
use Rattle.row_values.specs.declared.column.Kind.TheVariants.{BigInt}
use Rattle.core_calls.specs.declared.call.Side.{Side}
use Rattle.core_calls.specs.declared.call.Side.TheVariants as side
use Rattle.core_calls.specs.declared.described.ParameterType.{ParameterType}
use Rattle.core_calls.specs.declared.sql_fault.SqlFault.TheVariants as fault
use Rattle.core_calls.specs.Answer.{Answer, output, input}
use Rattle.sql_semantics.specs.Checked.{Checked, and_then, if_none, unless}
use Rattle.sql_semantics.specs.Classes.{column_named, filter_fault, selected_places}

-- ---- the columns

-- those that a SELECT asks for; no marker has a value here, and so each has every class
abbrev pub described_columns : Schema → Command → Checked (List Column)
described_columns schema (command.Select named table filter) =
    and_then (selected_places schema.columns named) (λ places. if_none (filter_fault [] schema.columns filter) (Ok (picked schema.columns places)))
described_columns schema (command.Update table assignments filter) = if_none (filter_fault [] schema.columns filter) (Ok [])
described_columns schema (command.Delete table filter) = if_none (filter_fault [] schema.columns filter) (Ok [])
described_columns schema (command.Insert table named values) = Ok []
described_columns schema (command.Create table definitions key) = Ok []

-- ---- the parameters, in the order of the text, which is that of the markers

-- of the column that a parameter is given to or compared with, else BIGINT
abbrev pub type_of : Option Column → ParameterType
type_of None = record { kind = BigInt; limit = 0 }
type_of (Some c) = record { kind = c.kind; limit = c.limit }

abbrev pub literal_types : ParameterType → Literal → List ParameterType
literal_types t (literal.Marker before) = t ∷ []
literal_types t _ = []

abbrev pub term_types : ParameterType → Term → List ParameterType
term_types t (term.Value v) = literal_types t v
term_types t (term.Column name) = []

unfoldable pub sum_types : ParameterType → Sum → List ParameterType
sum_types t s = term_types t s.first ++ flat_map (λ a. term_types t a.term) s.rest

-- given values, by the types that they are given as, in their order
abbrev pub given_types : List ParameterType → List Literal → List ParameterType
given_types ts [] = []
given_types [] (v ∷ vs) = literal_types (type_of None) v ++ given_types [] vs
given_types (t ∷ ts) (v ∷ vs) = literal_types t v ++ given_types ts vs

abbrev pub joined : List (List ParameterType) → List ParameterType
joined [] = []
joined (ts ∷ more) = ts ++ joined more

module _ (cs : List Column) where
  unfoldable pub named_type : List ℕ → ParameterType
  named_type name = type_of (column_named cs name)

  abbrev pub term_type : Term → ParameterType
  term_type (term.Column name) = named_type name
  term_type (term.Value v) = type_of None

  -- of the columns that an INSERT gives
  abbrev pub column_types : Columns → List ParameterType
  column_types columns.All = map (λ c. type_of (Some c)) cs
  column_types (columns.Named names) = map named_type names

  unfoldable pub assignment_types : Assignment → List ParameterType
  assignment_types a = sum_types (named_type a.column) a.sum

  abbrev pub layer_types : Predicate-F (List ParameterType) → List ParameterType
  layer_types (Predicate-F.Any parts) = joined parts
  layer_types (Predicate-F.All parts) = joined parts
  layer_types (Predicate-F.Not part) = part
  layer_types (Predicate-F.Group part) = part
  layer_types (Predicate-F.Compare a c b) = term_types (term_type b) a ++ term_types (term_type a) b
  layer_types (Predicate-F.IsNull name negative) = []

  unfoldable pub predicate_types : Predicate → List ParameterType
  predicate_types = fold-Predicate (List ParameterType) layer_types

  abbrev pub filter_types : Option Predicate → List ParameterType
  filter_types None = []
  filter_types (Some p) = predicate_types p

  abbrev pub parameter_types : Command → List ParameterType
  parameter_types (command.Create table definitions key) = []
  parameter_types (command.Insert table named values) = given_types (column_types named) values
  parameter_types (command.Update table assignments filter) = flat_map assignment_types assignments ++ filter_types filter
  parameter_types (command.Delete table filter) = filter_types filter
  parameter_types (command.Select named table filter) = filter_types filter

-- ---- the answer

-- the types of parameters; of more than 128 markers no text is read
abbrev pub described_input : List ParameterType → Checked Answer
described_input types = unless (nat_le (length types) 128) fault.LimitReached (Ok (input types))

-- the columns are judged for either side
abbrev pub side_of : Side → Schema → Command → List Column → Checked Answer
side_of side.Output schema c cs = Ok (output cs)
side_of side.Input schema c cs = described_input (parameter_types schema.columns c)

abbrev pub described : Side → Command → Option Schema → Checked Answer
described s c None = Err fault.TableUnknown
described s c (Some schema) = and_then (described_columns schema c) (side_of s schema c)
