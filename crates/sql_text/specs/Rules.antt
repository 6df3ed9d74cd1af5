-- The rules of the grammar, as they are read from left to right.
use Rattle.std.specs.Prelude.{ℕ, zero, suc, List, [], ◌∷◌, ◌++◌, Err, Option, Some, None, Bool, true, false, not, if◌then◌else◌}
use Rattle.sql_lex.specs.declared.terminal.Terminal.TheVariants as w
use Rattle.sql_lex.specs.declared.token.Token.{Token}
use Rattle.sql_lex.specs.declared.token.Token.TheVariants as t
use Rattle.sql_lex.specs.Tokens.{Lexeme}
use Rattle.sql_text.specs.Reading.{Parser, ◌>>=◌, ◌>>◌, pure, expect_fixed, take_fixed, name_at, placed_name_at, digits_at, length_at, comparison_at, equal_at, operation_at, start_at, term_start_at, type_word_at, verb_at, end_at}
use Rattle.sql_text.specs.declared.fault.Fault.TheVariants as fault
use Rattle.sql_text.specs.declared.token.ValueStart.{ValueStart}
use Rattle.sql_text.specs.declared.token.ValueStart.TheVariants as start
use Rattle.sql_text.specs.declared.token.TermStart.{TermStart}
use Rattle.sql_text.specs.declared.token.TermStart.TheVariants as begins
use Rattle.sql_text.specs.declared.token.TypeWord.{TypeWord}
use Rattle.sql_text.specs.declared.token.TypeWord.TheVariants as type
use Rattle.sql_text.specs.declared.token.Verb.{Verb}
use Rattle.sql_text.specs.declared.token.Verb.TheVariants as verb
use Rattle.sql_text.specs.declared.tree.Literal.{Literal}
use Rattle.sql_text.specs.declared.tree.Literal.TheVariants as literal
use Rattle.sql_text.specs.declared.tree.Term.{Term}
use Rattle.sql_text.specs.declared.tree.Term.TheVariants as term
use Rattle.sql_text.specs.declared.tree.Operation.{Operation}
use Rattle.sql_text.specs.declared.tree.Addend.{Addend}
use Rattle.sql_text.specs.declared.tree.Sum.{Sum}
use Rattle.sql_text.specs.declared.tree.Predicate.{Predicate}
use Rattle.sql_text.specs.declared.tree.Predicate.TheVariants as predicate
use Rattle.sql_text.specs.declared.draft.DraftType.{DraftType}
use Rattle.sql_text.specs.declared.draft.DraftType.TheVariants as column
use Rattle.sql_text.specs.declared.draft.DraftColumn.{DraftColumn}
use Rattle.sql_text.specs.declared.draft.DraftKey.{DraftKey}
use Rattle.sql_text.specs.declared.tree.Assignment.{Assignment}
use Rattle.sql_text.specs.declared.tree.Columns.{Columns}
use Rattle.sql_text.specs.declared.tree.Columns.TheVariants as columns
use Rattle.sql_text.specs.declared.draft.Draft.{Draft}
use Rattle.sql_text.specs.declared.draft.Draft.TheVariants as draft

-- a list has at most as many items as the longest text has bytes
unfoldable pub longest : ℕ
longest = 32767

-- items until no more of them is to come; the number bounds what is left of the turns
unfoldable pub items_from : {A : Type 0} → Parser A → Parser Bool → ℕ → List A → Parser (List A)
items_from item more zero found = λ ts. Err fault.Deep
items_from item more (suc n) found = do
  x ← item
  goes ← more
  if goes then items_from item more n (found ++ x ∷ []) else pure (found ++ x ∷ [])

unfoldable pub items : {A : Type 0} → Parser A → Parser Bool → Parser (List A)
items item more = items_from item more longest []

-- ---- values and sums

abbrev pub value_by : ValueStart → Parser Literal
value_by (start.Whole v) = pure v
value_by (start.Negative n) = do
  digits_at
  pure (literal.Number n)

unfoldable pub value_at : Parser Literal
value_at = start_at >>= value_by

abbrev pub term_by : TermStart → Parser Term
term_by (begins.Column n) = pure (term.Column n)
term_by (begins.Value s) = do
  v ← value_by s
  pure (term.Value v)

-- a column where a name comes next, and else a value
unfoldable pub term_at : Parser Term
term_at = term_start_at >>= term_by

abbrev pub addend : Operation → Term → Addend
addend o a = record { operation = o; term = a }

abbrev pub sum : Term → List Addend → Sum
sum a rest = record { first = a; rest = rest }

-- a further term, where one is to come, and then the rest
abbrev pub addends_by : (List Addend → Parser (List Addend)) → List Addend → Option Operation → Parser (List Addend)
addends_by go found None = pure found
addends_by go found (Some o) = do
  a ← term_at
  go (found ++ addend o a ∷ [])

-- the number bounds what is left of the turns
unfoldable pub addends_from : ℕ → List Addend → Parser (List Addend)
addends_from zero found = λ ts. Err fault.Deep
addends_from (suc n) found = operation_at >>= addends_by (addends_from n) found

unfoldable pub addends_at : Parser (List Addend)
addends_at = addends_from longest []

unfoldable pub sum_at : Parser Sum
sum_at = do
  first ← term_at
  rest ← addends_at
  pure (sum first rest)

-- ---- predicates

pub data Opening : Type 0 where
  Negates : Opening
  Opens : Opening
  Names : List ℕ → Opening
  Else : Opening

abbrev pub opening_of : Token → Opening
opening_of (t.Fixed w.Not) = Negates
opening_of (t.Fixed w.Open) = Opens
opening_of (t.Name n) = Names n
opening_of _ = Else

-- after the first term
unfoldable pub compared : Term → Parser Predicate
compared a = do
  c ← comparison_at
  b ← term_at
  pure (predicate.Compare a c b)

unfoldable pub null_test : List ℕ → Parser Predicate
null_test name = do
  negated ← take_fixed w.Not
  expect_fixed w.Null
  pure (predicate.IsNull name negated)

unfoldable pub named : List ℕ → Parser Predicate
named name = do
  is ← take_fixed w.Is
  if is then null_test name else compared (term.Column name)

unfoldable pub comparison : Parser Predicate
comparison = do
  v ← value_at
  compared (term.Value v)

-- with this for the parts
module _ (neg : Parser Predicate) where
  unfoldable pub all_at : Parser Predicate
  all_at = do
    parts ← items neg (take_fixed w.And)
    pure (predicate.All parts)

  unfoldable pub any_at : Parser Predicate
  any_at = do
    parts ← items all_at (take_fixed w.Or)
    pure (predicate.Any parts)

  unfoldable pub group : Parser Predicate
  group = do
    x ← any_at
    expect_fixed w.Close
    pure (predicate.Group x)

  unfoldable pub negation : Parser Predicate
  negation = do
    x ← neg
    pure (predicate.Not x)

  -- by what a predicate begins with
  abbrev pub level_by : Opening → Lexeme → Parser Predicate
  level_by Negates l = negation
  level_by Opens l = group
  level_by (Names n) l = named n
  level_by Else l = λ ts. comparison (l ∷ ts)

  unfoldable pub level : Parser Predicate
  level [] = comparison []
  level (l ∷ ts) = level_by (opening_of l.1) l ts

-- nested no deeper than the number
unfoldable pub neg_at : ℕ → Parser Predicate
neg_at zero = λ ts. Err fault.Deep
neg_at (suc depth) = level (neg_at depth)

-- parentheses and NOTs are nested at most 64 deep
unfoldable pub predicate_at : Parser Predicate
predicate_at = any_at (neg_at 65)

-- ---- lists

unfoldable pub names_at : Parser (List (List ℕ))
names_at = items name_at (take_fixed w.Comma)

unfoldable pub values_at : Parser (List Literal)
values_at = items value_at (take_fixed w.Comma)

abbrev pub key_column : List ℕ × ℕ → DraftKey
key_column n = record { name = n.0; left = n.1 }

unfoldable pub key_column_at : Parser DraftKey
key_column_at = do
  n ← placed_name_at
  pure (key_column n)

unfoldable pub key_at : Parser (List DraftKey)
key_at = items key_column_at (take_fixed w.Comma)

abbrev pub assignment : List ℕ → Sum → Assignment
assignment n s = record { column = n; sum = s }

unfoldable pub assignment_at : Parser Assignment
assignment_at = do
  n ← name_at
  equal_at
  s ← sum_at
  pure (assignment n s)

unfoldable pub assignments_at : Parser (List Assignment)
assignments_at = items assignment_at (take_fixed w.Comma)

-- ---- columns

unfoldable pub length_within : Parser (ℕ × ℕ)
length_within = do
  expect_fixed w.Open
  n ← length_at
  expect_fixed w.Close
  pure n

abbrev pub type_by : TypeWord → Parser DraftType
type_by (type.Whole c) = pure c
type_by type.OfText = do
  n ← length_within
  pure (column.VarChar n.0 n.1)
type_by type.OfBytes = do
  n ← length_within
  pure (column.VarBinary n.0 n.1)

unfoldable pub type_at : Parser DraftType
type_at = type_word_at >>= type_by

unfoldable pub nullable_at : Parser Bool
nullable_at = do
  bars ← take_fixed w.Not
  if bars then (do expect_fixed w.Null; pure false) else pure true

abbrev pub definition : List ℕ × ℕ → DraftType → Bool → DraftColumn
definition n c nullable = record { name = n.0; left = n.1; column_type = c; nullable = nullable }

unfoldable pub definition_at : Parser DraftColumn
definition_at = do
  n ← placed_name_at
  c ← type_at
  nullable ← nullable_at
  pure (definition n c nullable)

-- whether a further column comes behind the comma, and not PRIMARY
unfoldable pub another : Parser Bool
another = do
  expect_fixed w.Comma
  primary ← take_fixed w.Primary
  pure (not primary)

unfoldable pub definitions_at : Parser (List DraftColumn)
definitions_at = items definition_at another

-- ---- statements

unfoldable pub listed_at : Parser Columns
listed_at = do
  opens ← take_fixed w.Open
  if opens then (do names ← names_at; expect_fixed w.Close; pure (columns.Named names)) else pure columns.All

unfoldable pub selected_at : Parser Columns
selected_at = do
  all ← take_fixed w.Star
  if all then pure columns.All else (do names ← names_at; pure (columns.Named names))

unfoldable pub filter_at : Parser (Option Predicate)
filter_at = do
  filters ← take_fixed w.Where
  if filters then (do p ← predicate_at; pure (Some p)) else pure None

unfoldable pub create_at : Parser Draft
create_at = do
  expect_fixed w.Table
  table ← name_at
  expect_fixed w.Open
  definitions ← definitions_at
  expect_fixed w.Key
  expect_fixed w.Open
  key ← key_at
  expect_fixed w.Close
  expect_fixed w.Close
  pure (draft.Create table definitions key)

unfoldable pub insert_at : Parser Draft
insert_at = do
  expect_fixed w.Into
  table ← name_at
  listed ← listed_at
  expect_fixed w.Values
  expect_fixed w.Open
  values ← values_at
  expect_fixed w.Close
  pure (draft.Insert table listed values)

unfoldable pub update_at : Parser Draft
update_at = do
  table ← name_at
  expect_fixed w.Set
  assignments ← assignments_at
  filter ← filter_at
  pure (draft.Update table assignments filter)

unfoldable pub delete_at : Parser Draft
delete_at = do
  expect_fixed w.From
  table ← name_at
  filter ← filter_at
  pure (draft.Delete table filter)

unfoldable pub select_at : Parser Draft
select_at = do
  selected ← selected_at
  expect_fixed w.From
  table ← name_at
  filter ← filter_at
  pure (draft.Select selected table filter)

abbrev pub command_by : Verb → Parser Draft
command_by verb.Create = create_at
command_by verb.Insert = insert_at
command_by verb.Update = update_at
command_by verb.Delete = delete_at
command_by verb.Select = select_at

unfoldable pub command_at : Parser Draft
command_at = do
  v ← verb_at
  x ← command_by v
  end_at
  pure x
