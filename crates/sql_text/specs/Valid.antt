-- What a parsed statement is, in plain words for those who use it.
use Rattle.std.specs.Prelude.{◌≡◌, ◌≢◌, ◌⊎◌, ◌≤◌, ◌<◌, ℕ, ◌^◌, Bool, List, [], ◌∷◌, length, map, slice_index_or, Option, Some, None}
use Rattle.std.specs.List.{All, Contains}
use Rattle.std.specs.Str.{IsUtf8}
use Rattle.sql_lex.specs.Spelling.{capitals, IsName, AreDigits, ArePairs, doubled}
use Rattle.sql_lex.specs.declared.token.Comparison.{Comparison}
use Rattle.sql_text.specs.Number.{number_of}
use Rattle.sql_text.specs.declared.tree.Literal.{Literal}
use Rattle.sql_text.specs.declared.tree.Literal.TheVariants as literal
use Rattle.sql_text.specs.declared.tree.Term.{Term}
use Rattle.sql_text.specs.declared.tree.Term.TheVariants as term
use Rattle.sql_text.specs.declared.tree.Sum.{Sum}
use Rattle.sql_text.specs.declared.tree.Predicate.{Predicate}
use Rattle.sql_text.specs.declared.tree.Predicate.TheVariants as predicate
use Rattle.sql_text.specs.declared.tree.ColumnType.{ColumnType}
use Rattle.sql_text.specs.declared.tree.ColumnType.TheVariants as column
use Rattle.sql_text.specs.declared.tree.Definition.{Definition}
use Rattle.sql_text.specs.declared.tree.KeyColumn.{KeyColumn}
use Rattle.sql_text.specs.declared.tree.Assignment.{Assignment}
use Rattle.sql_text.specs.declared.tree.Columns.{Columns}
use Rattle.sql_text.specs.declared.tree.Columns.TheVariants as columns
use Rattle.sql_text.specs.declared.tree.Command.{Command}
use Rattle.sql_text.specs.declared.tree.Command.TheVariants as command
use Rattle.sql_text.specs.declared.tree.Statement.{Statement}

-- ---- values

-- digits, or a '-' and digits, that write a number of BIGINT
abbrev pub IsBigInt : List ℕ → Type 0
IsBigInt n = (AreDigits n × (number_of n < 2 ^ 63)) ⊎ ((digits : List ℕ) × (n ≡ 45 ∷ digits) × AreDigits digits × (number_of digits ≤ 2 ^ 63))

-- UTF-8, with each quote twice
abbrev pub IsQuoted : List ℕ → Type 0
IsQuoted text = IsUtf8 text × ((whole : List ℕ) × (text ≡ doubled whole))

-- in a statement of so many markers
module _ (markers : ℕ) where
  abbrev pub IsValidLiteral : Literal → Type 0
  IsValidLiteral (literal.Number n) = IsBigInt n
  IsValidLiteral (literal.Text text) = IsQuoted text
  IsValidLiteral (literal.Bytes text) = ArePairs text
  IsValidLiteral (literal.Marker before) = before < markers
  IsValidLiteral literal.Null = Unit {0}

  abbrev pub IsValidTerm : Term → Type 0
  IsValidTerm (term.Column n) = IsName n
  IsValidTerm (term.Value v) = IsValidLiteral v

  abbrev pub IsValidSum : Sum → Type 0
  IsValidSum s = IsValidTerm s.first × All (λ a. IsValidTerm a.term) s.rest

  pub data IsValidPredicate : Predicate → Type 0 where
    any : (ps : List Predicate) → 1 ≤ length ps → ((k : ℕ) (d : Predicate) → k < length ps → IsValidPredicate (slice_index_or ps k d)) → IsValidPredicate (predicate.Any ps)
    all : (ps : List Predicate) → 1 ≤ length ps → ((k : ℕ) (d : Predicate) → k < length ps → IsValidPredicate (slice_index_or ps k d)) → IsValidPredicate (predicate.All ps)
    negated : {p : Predicate} → IsValidPredicate p → IsValidPredicate (predicate.Not p)
    grouped : {p : Predicate} → IsValidPredicate p → IsValidPredicate (predicate.Group p)
    compared : (a b : Term) (c : Comparison) → IsValidTerm a → IsValidTerm b → IsValidPredicate (predicate.Compare a c b)
    null_test : (n : List ℕ) (negates : Bool) → IsName n → IsValidPredicate (predicate.IsNull n negates)

  abbrev pub IsValidFilter : Option Predicate → Type 0
  IsValidFilter None = Unit {0}
  IsValidFilter (Some p) = IsValidPredicate p

  abbrev pub IsValidAssignment : Assignment → Type 0
  IsValidAssignment a = IsName a.column × IsValidSum a.sum

-- ---- names and tables

abbrev pub AreNames : List (List ℕ) → Type 0
AreNames names = (1 ≤ length names) × All IsName names

-- all, or some names
abbrev pub AreListed : Columns → Type 0
AreListed columns.All = Unit {0}
AreListed (columns.Named names) = AreNames names

-- all, or 1 to 64 names
abbrev pub AreSelected : Columns → Type 0
AreSelected columns.All = Unit {0}
AreSelected (columns.Named names) = AreNames names × (length names ≤ 64)

-- no two of these are equal
abbrev pub AreDifferent : List (List ℕ) → Type 0
AreDifferent [] = Unit {0}
AreDifferent (n ∷ ns) = All (λ k. n ≢ k) ns × AreDifferent ns

-- a length is one of 1 to 2,000
abbrev pub IsValidType : ColumnType → Type 0
IsValidType (column.VarChar n) = (1 ≤ n) × (n ≤ 2000)
IsValidType (column.VarBinary n) = (1 ≤ n) × (n ≤ 2000)
IsValidType _ = Unit {0}

abbrev pub IsValidColumn : Definition → Type 0
IsValidColumn d = IsName d.name × IsValidType d.column_type

-- the names of columns and of a key's columns, as they are compared
abbrev pub column_names : List Definition → List (List ℕ)
column_names ds = map (λ d. capitals d.name) ds

abbrev pub key_names : List KeyColumn → List (List ℕ)
key_names ks = map (λ k. capitals k.name) ks

-- a table to be made
pub record IsValidTable (table : List ℕ) (definitions : List Definition) (key : List KeyColumn) : Type 0 where
  pub name : IsName table
  pub some_columns : 1 ≤ length definitions
  pub at_most_64_columns : length definitions ≤ 64
  pub columns : All IsValidColumn definitions
  pub columns_differ : AreDifferent (column_names definitions)
  pub some_key : 1 ≤ length key
  pub key_of_at_most_4 : length key ≤ 4
  pub key_is_named : All (λ k. IsName k.name) key
  pub key_is_known : All (λ k. Contains (column_names definitions) (capitals k.name)) key
  pub key_differs : AreDifferent (key_names key)

-- ---- statements

abbrev pub IsValidCommand : ℕ → Command → Type 0
IsValidCommand markers (command.Create table definitions key) = IsValidTable table definitions key
IsValidCommand markers (command.Insert table listed values) = IsName table × AreListed listed × (1 ≤ length values) × All (IsValidLiteral markers) values
IsValidCommand markers (command.Update table assignments filter) = IsName table × (1 ≤ length assignments) × All (IsValidAssignment markers) assignments × IsValidFilter markers filter
IsValidCommand markers (command.Delete table filter) = IsName table × IsValidFilter markers filter
IsValidCommand markers (command.Select selected table filter) = IsName table × AreSelected selected × IsValidFilter markers filter

abbrev pub IsValidStatement : Statement → Type 0
IsValidStatement s = (s.markers ≤ 128) × IsValidCommand s.markers s.command
