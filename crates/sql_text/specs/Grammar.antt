-- The grammar: which tokens a statement is.
--
--   create = CREATE TABLE name ( def {, def} , PRIMARY KEY ( name {, name} ) )
--   def    = name type [NOT NULL]
--   type   = SMALLINT | INTEGER | INT | BIGINT | VARCHAR ( digits ) | VARBINARY ( digits )
--   insert = INSERT INTO name [( name {, name} )] VALUES ( value {, value} )
--   update = UPDATE name SET name = sum {, name = sum} [WHERE pred]
--   delete = DELETE FROM name [WHERE pred]
--   select = SELECT (* | name {, name}) FROM name [WHERE pred]
--   sum    = term {(+ | -) term}        term = name | value
--   value  = number | text | bytes | ? | NULL
--   pred   = conj {OR conj}    conj = neg {AND neg}    neg = NOT neg | prim
--   prim   = ( pred ) | term (= | <> | < | <= | > | >=) term | name IS [NOT] NULL
use Rattle.std.specs.Prelude.{◌≡◌, ◌⊎◌, ℕ, zero, suc, List, [], ◌∷◌, Option, Some, None, Bool, true, false}
use Rattle.sql_lex.specs.declared.terminal.Terminal.{Terminal}
use Rattle.sql_lex.specs.declared.terminal.Terminal.TheVariants as w
use Rattle.sql_lex.specs.declared.token.Comparison.{Comparison}
use Rattle.sql_lex.specs.declared.token.Comparison.TheVariants as is
use Rattle.sql_lex.specs.declared.token.Token.{Token}
use Rattle.sql_lex.specs.declared.token.Token.TheVariants as t
use Rattle.sql_lex.specs.Tokens.{Lexeme}
use Rattle.sql_text.specs.Number.{is_bigint, is_negative_bigint, length_of}
use Rattle.sql_text.specs.declared.tree.Literal.{Literal}
use Rattle.sql_text.specs.declared.tree.Literal.TheVariants as literal
use Rattle.sql_text.specs.declared.tree.Term.{Term}
use Rattle.sql_text.specs.declared.tree.Term.TheVariants as term
use Rattle.sql_text.specs.declared.tree.Operation.{Operation}
use Rattle.sql_text.specs.declared.tree.Operation.TheVariants as operation
use Rattle.sql_text.specs.declared.tree.Addend.{Addend}
use Rattle.sql_text.specs.declared.tree.Sum.{Sum}
use Rattle.sql_text.specs.declared.tree.Predicate.{Predicate}
use Rattle.sql_text.specs.declared.tree.Predicate.TheVariants as predicate
use Rattle.sql_text.specs.declared.draft.DraftType.{DraftType}
use Rattle.sql_text.specs.declared.draft.DraftType.TheVariants as column
use Rattle.sql_text.specs.declared.draft.DraftColumn.{DraftColumn}
use Rattle.sql_text.specs.declared.draft.DraftKey.{DraftKey}
use Rattle.sql_text.specs.declared.tree.Assignment.{Assignment}
use Rattle.sql_text.specs.declared.tree.Columns.{Columns}
use Rattle.sql_text.specs.declared.tree.Columns.TheVariants as columns
use Rattle.sql_text.specs.declared.draft.Draft.{Draft}
use Rattle.sql_text.specs.declared.draft.Draft.TheVariants as draft

-- a statement's tree
abbrev pub Tree : Type 0
Tree = Draft

-- what stands between two places of a list of tokens: the tokens from the one, and those from the other
abbrev pub Span : Type 1
Span = List Lexeme → List Lexeme → Type 0

-- the one, and then the other
infixr 10 ◌⨾◌
abbrev pub ◌⨾◌ : (List Lexeme → List Lexeme → Type 0) → (List Lexeme → List Lexeme → Type 0) → List Lexeme → List Lexeme → Type 0
(R ⨾ S) ts rest = (mid : List Lexeme) × R ts mid × S mid rest

abbrev pub Nothing : List Lexeme → List Lexeme → Type 0
Nothing ts rest = ts ≡ rest

-- this token, at this place
abbrev pub At : ℕ → Token → List Lexeme → List Lexeme → Type 0
At left tok ts rest = ts ≡ (left, tok) ∷ rest

-- this token
abbrev pub Is : Token → List Lexeme → List Lexeme → Type 0
Is tok ts rest = (left : ℕ) × At left tok ts rest

abbrev pub The : Terminal → List Lexeme → List Lexeme → Type 0
The w = Is (t.Fixed w)

-- one or more, with something between
abbrev pub IsList : {A : Type 0} → (A → List Lexeme → List Lexeme → Type 0) → (List Lexeme → List Lexeme → Type 0) → List A → List Lexeme → List Lexeme → Type 0
IsList R Between [] = λ ts rest. ⊥
IsList R Between (x ∷ []) = R x
IsList R Between (x ∷ y ∷ ys) = R x ⨾ (Between ⨾ IsList R Between (y ∷ ys))

abbrev pub IsName : List ℕ → List Lexeme → List Lexeme → Type 0
IsName n = Is (t.Name n)

-- ---- values and sums

-- digits, or a '-' with digits directly behind it
abbrev pub IsNumber : List ℕ → List Lexeme → List Lexeme → Type 0
IsNumber n ts rest =
    (Is (t.Number n) ts rest × (is_bigint n ≡ true))
    ⊎ ((digits : List ℕ) × (Is (t.Minus (Some n)) ⨾ Is (t.Number digits)) ts rest × (is_negative_bigint n ≡ true))

abbrev pub IsValue : Literal → List Lexeme → List Lexeme → Type 0
IsValue (literal.Number n) = IsNumber n
IsValue (literal.Text text) = Is (t.Text text)
IsValue (literal.Bytes text) = Is (t.Bytes text)
IsValue (literal.Marker n) = Is (t.Marker n)
IsValue literal.Null = The w.Null

abbrev pub IsTerm : Term → List Lexeme → List Lexeme → Type 0
IsTerm (term.Column n) = IsName n
IsTerm (term.Value v) = IsValue v

abbrev pub IsOperation : Operation → List Lexeme → List Lexeme → Type 0
IsOperation operation.Add = The w.Plus
IsOperation operation.Subtract = λ ts rest. (n : Option (List ℕ)) × Is (t.Minus n) ts rest

abbrev pub AreAddends : List Addend → List Lexeme → List Lexeme → Type 0
AreAddends [] = Nothing
AreAddends (a ∷ rest) = IsOperation a.operation ⨾ (IsTerm a.term ⨾ AreAddends rest)

abbrev pub IsSum : Sum → List Lexeme → List Lexeme → Type 0
IsSum s = IsTerm s.first ⨾ AreAddends s.rest

-- ---- predicates

-- with this for the parts
module _ (R : Predicate → List Lexeme → List Lexeme → Type 0) where
  abbrev pub IsAll : Predicate → List Lexeme → List Lexeme → Type 0
  IsAll p ts rest = (ps : List Predicate) × (p ≡ predicate.All ps) × IsList R (The w.And) ps ts rest

  abbrev pub IsAny : Predicate → List Lexeme → List Lexeme → Type 0
  IsAny p ts rest = (ps : List Predicate) × (p ≡ predicate.Any ps) × IsList IsAll (The w.Or) ps ts rest

  pub data IsPrimary : Predicate → List Lexeme → List Lexeme → Type 0 where
    negated : {p : Predicate} {ts rest : List Lexeme} → (The w.Not ⨾ R p) ts rest → IsPrimary (predicate.Not p) ts rest
    grouped : {p : Predicate} {ts rest : List Lexeme} → (The w.Open ⨾ (IsAny p ⨾ The w.Close)) ts rest → IsPrimary (predicate.Group p) ts rest
    compared : {a b : Term} {c : Comparison} {ts rest : List Lexeme} → (IsTerm a ⨾ (Is (t.Compare c) ⨾ IsTerm b)) ts rest → IsPrimary (predicate.Compare a c b) ts rest
    null : {n : List ℕ} {ts rest : List Lexeme} → (IsName n ⨾ (The w.Is ⨾ The w.Null)) ts rest → IsPrimary (predicate.IsNull n false) ts rest
    not_null : {n : List ℕ} {ts rest : List Lexeme} → (IsName n ⨾ (The w.Is ⨾ (The w.Not ⨾ The w.Null))) ts rest → IsPrimary (predicate.IsNull n true) ts rest

-- nested less deep than the number: each '(' and each NOT of a predicate is one deeper
abbrev pub IsNested : ℕ → Predicate → List Lexeme → List Lexeme → Type 0
IsNested zero p = λ ts rest. ⊥
IsNested (suc depth) p = λ ts rest. IsPrimary (IsNested depth) p ts rest

-- nested at most 64 deep
abbrev pub IsPredicate : Predicate → List Lexeme → List Lexeme → Type 0
IsPredicate = IsAny (IsNested 65)

-- ---- columns

-- a length and its place; 2,001 stands for each that is greater
abbrev pub IsLength : ℕ → ℕ → List Lexeme → List Lexeme → Type 0
IsLength n left ts rest = (digits : List ℕ) × At left (t.Number digits) ts rest × (n ≡ length_of digits)

abbrev pub IsType : DraftType → List Lexeme → List Lexeme → Type 0
IsType column.SmallInt = The w.SmallInt
IsType column.Integer = λ ts rest. The w.Integer ts rest ⊎ The w.Int ts rest
IsType column.BigInt = The w.BigInt
IsType (column.VarChar n left) = The w.VarChar ⨾ (The w.Open ⨾ (IsLength n left ⨾ The w.Close))
IsType (column.VarBinary n left) = The w.VarBinary ⨾ (The w.Open ⨾ (IsLength n left ⨾ The w.Close))

abbrev pub IsNullable : Bool → List Lexeme → List Lexeme → Type 0
IsNullable true = Nothing
IsNullable false = The w.Not ⨾ The w.Null

abbrev pub IsDefinition : DraftColumn → List Lexeme → List Lexeme → Type 0
IsDefinition d = At d.left (t.Name d.name) ⨾ (IsType d.column_type ⨾ IsNullable d.nullable)

abbrev pub IsKeyColumn : DraftKey → List Lexeme → List Lexeme → Type 0
IsKeyColumn k = At k.left (t.Name k.name)

-- ---- statements

abbrev pub IsAssignment : Assignment → List Lexeme → List Lexeme → Type 0
IsAssignment a = IsName a.column ⨾ (Is (t.Compare is.Equal) ⨾ IsSum a.sum)

abbrev pub AreNames : List (List ℕ) → List Lexeme → List Lexeme → Type 0
AreNames = IsList IsName (The w.Comma)

-- the columns that an INSERT gives
abbrev pub AreListed : Columns → List Lexeme → List Lexeme → Type 0
AreListed columns.All = Nothing
AreListed (columns.Named names) = The w.Open ⨾ (AreNames names ⨾ The w.Close)

-- the columns that a SELECT asks for
abbrev pub AreSelected : Columns → List Lexeme → List Lexeme → Type 0
AreSelected columns.All = The w.Star
AreSelected (columns.Named names) = AreNames names

-- with predicates nested less deep than the number
module _ (depth : ℕ) where
  abbrev pub IsFilterUnder : Option Predicate → List Lexeme → List Lexeme → Type 0
  IsFilterUnder None = Nothing
  IsFilterUnder (Some p) = The w.Where ⨾ IsAny (IsNested depth) p

  abbrev pub IsCommandUnder : Draft → List Lexeme → List Lexeme → Type 0
  IsCommandUnder (draft.Create table definitions key) =
      The w.Create ⨾ (The w.Table ⨾ (IsName table ⨾ (The w.Open
      ⨾ (IsList IsDefinition (The w.Comma) definitions
      ⨾ (The w.Comma ⨾ (The w.Primary ⨾ (The w.Key ⨾ (The w.Open ⨾ (IsList IsKeyColumn (The w.Comma) key ⨾ (The w.Close ⨾ The w.Close))))))))))
  IsCommandUnder (draft.Insert table listed values) =
      The w.Insert ⨾ (The w.Into ⨾ (IsName table ⨾ (AreListed listed
      ⨾ (The w.Values ⨾ (The w.Open ⨾ (IsList IsValue (The w.Comma) values ⨾ The w.Close))))))
  IsCommandUnder (draft.Update table assignments filter) =
      The w.Update ⨾ (IsName table ⨾ (The w.Set ⨾ (IsList IsAssignment (The w.Comma) assignments ⨾ IsFilterUnder filter)))
  IsCommandUnder (draft.Delete table filter) = The w.Delete ⨾ (The w.From ⨾ (IsName table ⨾ IsFilterUnder filter))
  IsCommandUnder (draft.Select selected table filter) =
      The w.Select ⨾ (AreSelected selected ⨾ (The w.From ⨾ (IsName table ⨾ IsFilterUnder filter)))

abbrev pub IsFilter : Option Predicate → List Lexeme → List Lexeme → Type 0
IsFilter = IsFilterUnder 65

-- with predicates nested at most 64 deep
abbrev pub IsCommand : Draft → List Lexeme → List Lexeme → Type 0
IsCommand = IsCommandUnder 65

-- the tokens are this statement, and no more
abbrev pub IsStatement : Draft → List Lexeme → Type 0
IsStatement c ts = IsCommand c ts []
