-- The names and literals of a statement are slices of its text, in the order in which they stand there.
use Rattle.std.specs.Prelude.{ℕ, ◌+◌, ◌≤◌, List, [], ◌∷◌, ◌++◌, length, map, Option, Some, None}
use Rattle.drda_words.specs.Place.{StandsAt}
use Rattle.sql_text.specs.declared.tree.Literal.{Literal}
use Rattle.sql_text.specs.declared.tree.Literal.TheVariants as literal
use Rattle.sql_text.specs.declared.tree.Term.{Term}
use Rattle.sql_text.specs.declared.tree.Term.TheVariants as term
use Rattle.sql_text.specs.declared.tree.Sum.{Sum}
use Rattle.sql_text.specs.declared.tree.Addend.{Addend}
use Rattle.sql_text.specs.declared.tree.Predicate.{Predicate}
use Rattle.sql_text.specs.declared.tree.Predicate.TheOpen.{Predicate-F}
use Rattle.sql_text.specs.declared.tree.Predicate.TheFolds.{fold-Predicate}
use Rattle.sql_text.specs.declared.tree.Definition.{Definition}
use Rattle.sql_text.specs.declared.tree.KeyColumn.{KeyColumn}
use Rattle.sql_text.specs.declared.tree.Assignment.{Assignment}
use Rattle.sql_text.specs.declared.tree.Columns.{Columns}
use Rattle.sql_text.specs.declared.tree.Columns.TheVariants as columns
use Rattle.sql_text.specs.declared.tree.Command.{Command}
use Rattle.sql_text.specs.declared.tree.Command.TheVariants as command
use Rattle.sql_text.specs.declared.tree.Statement.{Statement}

abbrev pub joined : List (List (List ℕ)) → List (List ℕ)
joined [] = []
joined (slices ∷ more) = slices ++ joined more

-- the digits of a number with its '-', what stands between the quotes of a text or of bytes
abbrev pub literal_slices : Literal → List (List ℕ)
literal_slices (literal.Number digits) = digits ∷ []
literal_slices (literal.Text content) = content ∷ []
literal_slices (literal.Bytes content) = content ∷ []
literal_slices _ = []

abbrev pub term_slices : Term → List (List ℕ)
term_slices (term.Column name) = name ∷ []
term_slices (term.Value value) = literal_slices value

abbrev pub addend_slices : Addend → List (List ℕ)
addend_slices addend = term_slices addend.term

abbrev pub sum_slices : Sum → List (List ℕ)
sum_slices sum = term_slices sum.first ++ joined (map addend_slices sum.rest)

abbrev pub layer_slices : Predicate-F (List (List ℕ)) → List (List ℕ)
layer_slices (Predicate-F.Any parts) = joined parts
layer_slices (Predicate-F.All parts) = joined parts
layer_slices (Predicate-F.Not part) = part
layer_slices (Predicate-F.Group part) = part
layer_slices (Predicate-F.Compare a c b) = term_slices a ++ term_slices b
layer_slices (Predicate-F.IsNull name negates) = name ∷ []

unfoldable pub predicate_slices : Predicate → List (List ℕ)
predicate_slices = fold-Predicate (List (List ℕ)) layer_slices

abbrev pub filter_slices : Option Predicate → List (List ℕ)
filter_slices None = []
filter_slices (Some predicate) = predicate_slices predicate

abbrev pub assignment_slices : Assignment → List (List ℕ)
assignment_slices assignment = assignment.column ∷ sum_slices assignment.sum

abbrev pub name_slices : List ℕ → List (List ℕ)
name_slices name = name ∷ []

abbrev pub columns_slices : Columns → List (List ℕ)
columns_slices columns.All = []
columns_slices (columns.Named names) = joined (map name_slices names)

abbrev pub definition_slices : Definition → List (List ℕ)
definition_slices definition = definition.name ∷ []

abbrev pub key_slices : KeyColumn → List (List ℕ)
key_slices column = column.name ∷ []

abbrev pub command_slices : Command → List (List ℕ)
command_slices (command.Create table definitions key) = table ∷ joined (map definition_slices definitions) ++ joined (map key_slices key)
command_slices (command.Insert table listed values) = table ∷ columns_slices listed ++ joined (map literal_slices values)
command_slices (command.Update table assignments filter) = table ∷ joined (map assignment_slices assignments) ++ filter_slices filter
command_slices (command.Delete table filter) = table ∷ filter_slices filter
command_slices (command.Select selected table filter) = columns_slices selected ++ (table ∷ filter_slices filter)

-- all names and literals of a statement
unfoldable pub slices_of : Statement → List (List ℕ)
slices_of statement = command_slices statement.command

-- each stands in the text, and begins where the one before has ended or later, the first of them at this place or later
abbrev pub StandFrom : List ℕ → ℕ → List (List ℕ) → Type 0
StandFrom text from [] = Unit {0}
StandFrom text from (slice ∷ slices) = (at : ℕ) × (from ≤ at) × StandsAt text at slice × StandFrom text (at + length slice) slices
