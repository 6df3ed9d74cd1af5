-- How a statement is read from its tokens, from left to right.
use Rattle.std.specs.Prelude.{◌≡◌, ℕ, List, [], ◌∷◌, Result, Ok, Err, Option, Some, None, Bool, true, false, if◌then◌else◌, IfOk}
use Rattle.sql_lex.specs.declared.terminal.Terminal.{Terminal}
use Rattle.sql_lex.specs.declared.terminal.Terminal.TheVariants as w
use Rattle.sql_lex.specs.declared.token.Comparison.{Comparison}
use Rattle.sql_lex.specs.declared.token.Comparison.TheVariants as is
use Rattle.sql_lex.specs.declared.token.Token.{Token}
use Rattle.sql_lex.specs.declared.token.Token.TheVariants as t
use Rattle.sql_lex.specs.Terminal.{is_same}
use Rattle.sql_lex.specs.Markers.{markers_of}
use Rattle.sql_lex.specs.Tokens.{Lexeme, tokens_ahead}
use Rattle.sql_text.specs.Number.{is_bigint, is_negative_bigint, length_of}
use Rattle.sql_text.specs.declared.fault.Fault.{Fault}
use Rattle.sql_text.specs.declared.fault.Fault.TheVariants as fault
use Rattle.sql_text.specs.declared.token.ValueStart.{ValueStart}
use Rattle.sql_text.specs.declared.token.ValueStart.TheVariants as start
use Rattle.sql_text.specs.declared.token.TermStart.{TermStart}
use Rattle.sql_text.specs.declared.token.TermStart.TheVariants as begins
use Rattle.sql_text.specs.declared.token.TypeWord.{TypeWord}
use Rattle.sql_text.specs.declared.token.TypeWord.TheVariants as type
use Rattle.sql_text.specs.declared.token.Verb.{Verb}
use Rattle.sql_text.specs.declared.token.Verb.TheVariants as verb
use Rattle.sql_text.specs.declared.tree.Literal.TheVariants as literal
use Rattle.sql_text.specs.declared.tree.Operation.{Operation}
use Rattle.sql_text.specs.declared.tree.Operation.TheVariants as operation
use Rattle.sql_text.specs.declared.draft.DraftType.TheVariants as column

abbrev pub Parsed : Type 0 → Type 0
Parsed A = Result (A × List Lexeme) Fault

abbrev pub Parser : Type 0 → Type 0
Parser A = List Lexeme → Parsed A

abbrev pub and_then : {A B : Type 0} → Parsed A → (A → Parser B) → Parsed B
and_then (Ok x) f = f x.0 x.1
and_then (Err e) f = Err e

infixl 10 ◌>>=◌
abbrev pub ◌>>=◌ : {A B : Type 0} → Parser A → (A → Parser B) → Parser B
p >>= f = λ ts. and_then (p ts) f

infixl 10 ◌>>◌
abbrev pub ◌>>◌ : {A B : Type 0} → Parser A → Parser B → Parser B
p >> q = p >>= (λ _. q)

abbrev pub pure : {A : Type 0} → A → Parser A
pure a = λ ts. Ok (a, ts)

-- how many bytes there are from the next token on
abbrev pub place : List Lexeme → ℕ
place [] = 0
place (l ∷ ts) = l.0

-- no rule goes on with what is left
abbrev pub refuse : {A : Type 0} → Parser A
refuse = λ ts. Err (fault.Unexpected (place ts))

-- ---- single tokens

-- the next token, and its place
abbrev pub next_at : Parser (Token × ℕ)
next_at [] = refuse []
next_at (l ∷ ts) = Ok ((l.1, l.0), ts)

abbrev pub taken : {A : Type 0} → Option A → ℕ → Parser A
taken (Some a) left ts = Ok (a, ts)
taken None left ts = Err (fault.Unexpected left)

-- the token, where it is of a kind
abbrev pub expect : {A : Type 0} → (Token → Option A) → Parser A
expect f = next_at >>= (λ x. taken (f x.0) x.1)

abbrev pub taken_at : {A : Type 0} → Option A → ℕ → Parser (A × ℕ)
taken_at (Some a) left ts = Ok ((a, left), ts)
taken_at None left ts = Err (fault.Unexpected left)

-- the token and its place, where it is of a kind
abbrev pub expect_placed : {A : Type 0} → (Token → Option A) → Parser (A × ℕ)
expect_placed f = next_at >>= (λ x. taken_at (f x.0) x.1)

abbrev pub tried : {A : Type 0} → Option A → Lexeme → List Lexeme → Parsed (Option A)
tried (Some a) l ts = Ok (Some a, ts)
tried None l ts = Ok (None, l ∷ ts)

-- a token of a kind, which is then taken, or nothing
abbrev pub attempt : {A : Type 0} → (Token → Option A) → Parser (Option A)
attempt f [] = Ok (None, [])
attempt f (l ∷ ts) = tried (f l.1) l ts

-- whether a token of a kind comes next, which is then taken
abbrev pub take_if : (Token → Bool) → Parser Bool
take_if f [] = Ok (false, [])
take_if f (l ∷ ts) = if f l.1 then Ok (true, ts) else Ok (false, l ∷ ts)

abbrev pub is_fixed : Terminal → Token → Bool
is_fixed w (t.Fixed v) = is_same v w
is_fixed w _ = false

abbrev pub as_fixed : Terminal → Token → Option (Unit {0})
as_fixed w (t.Fixed v) = if is_same v w then Some tt else None
as_fixed w _ = None

abbrev pub as_name : Token → Option (List ℕ)
as_name (t.Name n) = Some n
as_name _ = None

abbrev pub as_digits : Token → Option (List ℕ)
as_digits (t.Number n) = Some n
as_digits _ = None

abbrev pub as_length : Token → Option ℕ
as_length (t.Number n) = Some (length_of n)
as_length _ = None

abbrev pub as_comparison : Token → Option Comparison
as_comparison (t.Compare c) = Some c
as_comparison _ = None

abbrev pub as_equal : Token → Option (Unit {0})
as_equal (t.Compare is.Equal) = Some tt
as_equal _ = None

abbrev pub as_operation : Token → Option Operation
as_operation (t.Fixed w.Plus) = Some operation.Add
as_operation (t.Minus n) = Some operation.Subtract
as_operation _ = None

-- what a value begins with: itself, or a '-' with the number that it makes of the digits behind it
abbrev pub as_start : Token → Option ValueStart
as_start (t.Number n) = if is_bigint n then Some (start.Whole (literal.Number n)) else None
as_start (t.Minus (Some n)) = if is_negative_bigint n then Some (start.Negative n) else None
as_start (t.Text text) = Some (start.Whole (literal.Text text))
as_start (t.Bytes text) = Some (start.Whole (literal.Bytes text))
as_start (t.Marker n) = Some (start.Whole (literal.Marker n))
as_start (t.Fixed w.Null) = Some (start.Whole literal.Null)
as_start _ = None

abbrev pub as_value_term : Option ValueStart → Option TermStart
as_value_term (Some s) = Some (begins.Value s)
as_value_term None = None

-- what a term begins with: a name, or what a value does
abbrev pub as_term : Token → Option TermStart
as_term (t.Name n) = Some (begins.Column n)
as_term tok = as_value_term (as_start tok)

abbrev pub as_type : Token → Option TypeWord
as_type (t.Fixed w.SmallInt) = Some (type.Whole column.SmallInt)
as_type (t.Fixed w.Integer) = Some (type.Whole column.Integer)
as_type (t.Fixed w.Int) = Some (type.Whole column.Integer)
as_type (t.Fixed w.BigInt) = Some (type.Whole column.BigInt)
as_type (t.Fixed w.VarChar) = Some type.OfText
as_type (t.Fixed w.VarBinary) = Some type.OfBytes
as_type _ = None

abbrev pub as_verb : Token → Option Verb
as_verb (t.Fixed w.Create) = Some verb.Create
as_verb (t.Fixed w.Insert) = Some verb.Insert
as_verb (t.Fixed w.Update) = Some verb.Update
as_verb (t.Fixed w.Delete) = Some verb.Delete
as_verb (t.Fixed w.Select) = Some verb.Select
as_verb _ = None

unfoldable pub expect_fixed : Terminal → Parser (Unit {0})
expect_fixed w = expect (as_fixed w)

unfoldable pub take_fixed : Terminal → Parser Bool
take_fixed w = take_if (is_fixed w)

unfoldable pub name_at : Parser (List ℕ)
name_at = expect as_name

unfoldable pub placed_name_at : Parser (List ℕ × ℕ)
placed_name_at = expect_placed as_name

unfoldable pub digits_at : Parser (List ℕ)
digits_at = expect as_digits

unfoldable pub length_at : Parser (ℕ × ℕ)
length_at = expect_placed as_length

unfoldable pub comparison_at : Parser Comparison
comparison_at = expect as_comparison

unfoldable pub equal_at : Parser (Unit {0})
equal_at = expect as_equal

unfoldable pub operation_at : Parser (Option Operation)
operation_at = attempt as_operation

unfoldable pub start_at : Parser ValueStart
start_at = expect as_start

unfoldable pub term_start_at : Parser TermStart
term_start_at = expect as_term

unfoldable pub type_word_at : Parser TypeWord
type_word_at = expect as_type

unfoldable pub verb_at : Parser Verb
verb_at = expect as_verb

unfoldable pub end_at : Parser (Unit {0})
end_at [] = Ok (tt, [])
end_at (l ∷ ts) = refuse (l ∷ ts)

-- ---- what a function of the parser returns

-- what was read is what reading gives, unless memory ran out
abbrev pub Yields : {A : Type 0} → Parsed A → Result (A × (ℕ × List ℕ)) Fault → Type 0
Yields outcome (Ok x) = outcome ≡ Ok (x.0, tokens_ahead x.1)
Yields outcome (Err fault.Memory) = Unit {0}
Yields outcome (Err e) = outcome ≡ Err e

-- the same where nothing is to be kept but the place
abbrev pub Passes : Parsed (Unit {0}) → Result (ℕ × List ℕ) Fault → Type 0
Passes outcome (Ok x) = outcome ≡ Ok (tt, tokens_ahead x)
Passes outcome (Err fault.Memory) = Unit {0}
Passes outcome (Err e) = outcome ≡ Err e

-- the same where this was read before
abbrev pub Follows : {A : Type 0} → A → Parsed (Unit {0}) → Result (A × (ℕ × List ℕ)) Fault → Type 0
Follows found outcome (Ok x) = (outcome ≡ Ok (tt, tokens_ahead x.1)) × (x.0 ≡ found)
Follows found outcome (Err fault.Memory) = Unit {0}
Follows found outcome (Err e) = outcome ≡ Err e

-- no marker of the text is lost or made: those before the place and those to come are as many as before
abbrev pub Keeps : {A : Type 0} → ℕ × List ℕ → Result (A × (ℕ × List ℕ)) Fault → Type 0
Keeps cursor result = IfOk result (λ x. markers_of x.1 ≡ markers_of cursor)
