-- Columns are written as definitions.
use Rattle.std.proofs.Common.{◌≡◌, ℕ, ◌≤◌, ◌<◌, Bool, true, false, ◌&&◌, List, [], ◌∷◌, ◌++◌, length, Option, None, Ok, refl, ap, arith}
use Rattle.std.specs.Prelude.{nat_le, nat_lt, ◌==◌, codes}
use Rattle.std.specs.Fmt.{decimal}
use Rattle.std.specs.List.{list_all}
use Rattle.std.proofs.lemmas.Bool.Decides.{nat_tests}
use Rattle.sql_lex.specs.Tokens.{Lexeme}
use Rattle.sql_lex.specs.declared.terminal.Terminal.TheVariants as w
use Rattle.sql_lex.specs.declared.token.Token.TheVariants as t
use Rattle.sql_text.specs.Checks.{is_too_long, empty_at}
use Rattle.sql_text.specs.Grammar.{◌⨾◌, The, Is, IsNullable, IsKeyColumn, IsLength}
use Rattle.sql_text.specs.Plain as plain
use Rattle.sql_text.specs.Reading.{Parser, as_type}
use Rattle.sql_text.specs.Reading.{take_fixed, type_word_at}
use Rattle.sql_text.specs.Rules.{length_within, type_at, nullable_at, definition, definition_at}
use Rattle.sql_text.proofs.Only.{again, the_again, may_again, placed_name_again, length_again, Lacks, is_length}
use Rattle.sql_text.specs.declared.tree.Definition.{Definition}
use Rattle.row_values.specs.declared.column.Kind.{Kind}
use Rattle.row_values.specs.declared.column.Kind.TheVariants.{SmallInt, Integer, BigInt, VarChar, VarBinary}
use Rattle.row_values.specs.Column.{Column}
use Rattle.row_values.specs.Schema.{is_column, is_limit, is_name}
use Rattle.sql_spelling.specs.Text.{length_text, type_text, null_text, column_text}
use Rattle.sql_spelling.specs.Meant.{IsFree, AreFree, type_of, definition_of, key_column_of}
use Rattle.sql_spelling.proofs.Lists.{One, EachWrites}
use Rattle.sql_spelling.proofs.Names.{name_written}
use Rattle.sql_spelling.proofs.Numbers.{length_written}
use Rattle.sql_spelling.proofs.Writing.{Writes, Parts, nothing, blank, next, opened, close, bars, null_word, small_int, integer, big_int, var_char, var_binary}

both : (a b : Bool) → (a && b) ≡ true → (a ≡ true) × (b ≡ true)
both true b e = (refl, e)
both false b e = absurd (cc)

-- a reader finds something of which this holds, and the tokens behind it
abbrev pub Gives : {D : Type 0} → Parser D → (D → Type 0) → List Lexeme → List Lexeme → Type 0
Gives {D} p P ts rest = (d : D) × (p ts ≡ Ok (d, rest)) × P d × (length rest < length ts)

-- ---- types

in_length : (n : ℕ) → (nat_lt 0 n && nat_le n 2000) ≡ true → (n ≤ 2000) × (nat_lt 2000 n ≡ false) × ((n == 0) ≡ false)
in_length n e = (grind (arith, nat_tests), grind (arith, nat_tests), grind (arith, nat_tests))

-- a length in parentheses
abbrev Length : ℕ → List Lexeme → List Lexeme → Type 0
Length n = The w.Open ⨾ ((λ ts rest. (left : ℕ) × IsLength n left ts rest) ⨾ The w.Close)

length_in : (n : ℕ) → n ≤ 2000 → Writes (Length n) (length_text n)
length_in n small = opened (next (decimal n) (41 ∷ []) (length_written n small) (λ rest e. refl) close)

within_again : (n left : ℕ) (ts a b rest : List Lexeme) → The w.Open ts a → IsLength n left a b → The w.Close b rest → length_within ts ≡ Ok ((n, left), rest)
unfolding length_within
within_again n left ts a b rest o l c = rw (the_again w.Open ts a o, length_again (n, left) a b l, the_again w.Close b rest c) refl

shorter : (n left : ℕ) (ts a b rest : List Lexeme) → The w.Open ts a → IsLength n left a b → The w.Close b rest → length rest < length ts
shorter n left ts a b rest o (digits, at, same) c = omega (arith, is_length _ ts a o, is_length _ a b (left, at), is_length _ b rest c)

-- a type that is read stands for this one, and its length is one
abbrev pub TypeRead : Kind → ℕ → List Lexeme → List Lexeme → Type 0
TypeRead kind n = Gives type_at (λ d. (plain.column_type d ≡ type_of kind n) × (is_too_long d ≡ false) × (empty_at d ≡ None))

small_int_read : (ts rest : List Lexeme) (n : ℕ) → The w.SmallInt ts rest → TypeRead SmallInt n ts rest
unfolding type_at type_word_at
small_int_read ts rest n is = rw (again as_type (t.Fixed w.SmallInt) _ ts rest refl is) (_, refl, (refl, refl, refl), is_length _ ts rest is)

integer_read : (ts rest : List Lexeme) (n : ℕ) → The w.Integer ts rest → TypeRead Integer n ts rest
unfolding type_at type_word_at
integer_read ts rest n is = rw (again as_type (t.Fixed w.Integer) _ ts rest refl is) (_, refl, (refl, refl, refl), is_length _ ts rest is)

big_int_read : (ts rest : List Lexeme) (n : ℕ) → The w.BigInt ts rest → TypeRead BigInt n ts rest
unfolding type_at type_word_at
big_int_read ts rest n is = rw (again as_type (t.Fixed w.BigInt) _ ts rest refl is) (_, refl, (refl, refl, refl), is_length _ ts rest is)

var_char_read : (n : ℕ) (ts rest : List Lexeme) → (nat_lt 0 n && nat_le n 2000) ≡ true → (The w.VarChar ⨾ Length n) ts rest → TypeRead VarChar n ts rest
unfolding type_at type_word_at
var_char_read n ts rest e (a, word, (b, brace, (c, (left, is), shut))) =
    let k = in_length n e in
    rw (again as_type (t.Fixed w.VarChar) _ ts a refl word, within_again n left a b c rest brace is shut)
    (_, refl, (refl, k.1, rw k.2 refl), omega (arith, is_length _ ts a word, shorter n left a b c rest brace is shut))

var_binary_read : (n : ℕ) (ts rest : List Lexeme) → (nat_lt 0 n && nat_le n 2000) ≡ true → (The w.VarBinary ⨾ Length n) ts rest → TypeRead VarBinary n ts rest
unfolding type_at type_word_at
var_binary_read n ts rest e (a, word, (b, brace, (c, (left, is), shut))) =
    let k = in_length n e in
    rw (again as_type (t.Fixed w.VarBinary) _ ts a refl word, within_again n left a b c rest brace is shut)
    (_, refl, (refl, k.1, rw k.2 refl), omega (arith, is_length _ ts a word, shorter n left a b c rest brace is shut))

-- what is of the one rule is of the other
become : {R S : List Lexeme → List Lexeme → Type 0} {a : List ℕ} → ((ts rest : List Lexeme) → R ts rest → S ts rest) → Writes R a → Writes S a
become told x = record { reads = λ rest e. told _ _ (x.reads rest e); marks = x.marks }

type_written : (kind : Kind) (n : ℕ) → is_limit kind n ≡ true → Writes (TypeRead kind n) (type_text kind n)
type_written SmallInt n e = become (λ ts rest is. small_int_read ts rest n is) small_int
type_written Integer n e = become (λ ts rest is. integer_read ts rest n is) integer
type_written BigInt n e = become (λ ts rest is. big_int_read ts rest n is) big_int
type_written VarChar n e = become (λ ts rest is. var_char_read n ts rest e is) (next (codes "VARCHAR") (length_text n) var_char (λ rest f. refl) (length_in n (in_length n e).0))
type_written VarBinary n e = become (λ ts rest is. var_binary_read n ts rest e is) (next (codes "VARBINARY") (length_text n) var_binary (λ rest f. refl) (length_in n (in_length n e).0))

-- ---- whether NULL is taken

nullable_written : (b : Bool) → Writes (IsNullable b) (null_text b)
nullable_written true = nothing
nullable_written false = blank (next (codes "NOT") (codes " NULL") bars (λ rest e. refl) (blank null_word))

nullable_parts : (b : Bool) → Parts (null_text b)
nullable_parts true = λ rest e. e
nullable_parts false = λ rest e. refl

nullable_again : (b : Bool) (ts rest : List Lexeme) → Lacks w.Not rest → IsNullable b ts rest → nullable_at ts ≡ Ok (b, rest)
unfolding nullable_at
nullable_again true ts rest stops same = let here : take_fixed w.Not ts ≡ Ok (false, rest) = rw same stops in rw here refl
nullable_again false ts rest stops (mid, n, u) = rw (may_again w.Not ts mid n, the_again w.Null mid rest u) refl

nullable_within : (b : Bool) (ts rest : List Lexeme) → IsNullable b ts rest → length rest ≤ length ts
nullable_within true ts rest same = let e : length ts ≡ length rest = ap length same in omega arith
nullable_within false ts rest (mid, n, u) = omega (arith, is_length _ ts mid n, is_length _ mid rest u)

-- ---- columns

-- where no NOT follows, a reader finds this and the tokens behind it, of which the first is a name
abbrev pub Reads : {D : Type 0} → Parser D → D → List Lexeme → List Lexeme → Type 0
Reads p d ts rest = (Lacks w.Not rest → p ts ≡ Ok (d, rest)) × ((name : List ℕ) × (mid : List Lexeme) × Is (t.Name name) ts mid) × (length rest < length ts)

-- it defines this column, and its length is one
abbrev pub Defines : {D : Type 0} → (D → Definition) → (D → Bool) → (D → Option ℕ) → D → Column → Type 0
Defines definition is_long empty d c = (definition d ≡ definition_of c) × (is_long d ≡ false) × (empty d ≡ None)

abbrev pub ColumnRead : Column → List Lexeme → List Lexeme → Type 0
ColumnRead = One (Reads definition_at) (Defines plain.definition (λ d. is_too_long d.column_type) (λ d. empty_at d.column_type))

column_read : (c : Column) (ts rest : List Lexeme) → (Is (t.Name c.name) ⨾ (TypeRead c.kind c.limit ⨾ IsNullable c.is_nullable)) ts rest → ColumnRead c ts rest
unfolding definition_at
column_read c ts rest (a, (left, name), (b, (d, reads, (same, short, some), less), takes)) = (
  definition (c.name, left) d c.is_nullable,
  (ap (λ u. record { name = c.name; column_type = u; nullable = c.is_nullable }) same, short, some),
  (
    (λ stops. rw (placed_name_again (c.name, left) ts a name, reads, nullable_again c.is_nullable b rest stops takes) refl),
    (c.name, a, (left, name)),
    omega (arith, is_length _ ts a (left, name), nullable_within c.is_nullable b rest takes),
  ),
)

pub column_written : (c : Column) → is_column c ≡ true → IsFree c.name → Writes (ColumnRead c) (column_text c)
column_written c is free =
    let k = both (is_name c.name) (is_limit c.kind c.limit) is in
    become (column_read c) (next c.name (32 ∷ (type_text c.kind c.limit ++ null_text c.is_nullable)) (name_written c.name k.0 free) (λ rest e. refl)
    (blank (next (type_text c.kind c.limit) (null_text c.is_nullable) (type_written c.kind c.limit k.1) (nullable_parts c.is_nullable) (nullable_written c.is_nullable))))

abbrev pub KeyRead : Column → List Lexeme → List Lexeme → Type 0
KeyRead = One IsKeyColumn (λ d c. plain.key_column d ≡ key_column_of c)

key_read : (c : Column) (ts rest : List Lexeme) → Is (t.Name c.name) ts rest → KeyRead c ts rest
key_read c ts rest (left, name) = (record { name = c.name; left = left }, refl, name)

pub key_written : (c : Column) → is_name c.name ≡ true → IsFree c.name → Writes (KeyRead c) c.name
key_written c is free = become (key_read c) (name_written c.name is free)

pub columns_written : (cs : List Column) → list_all is_column cs ≡ true → AreFree cs → EachWrites ColumnRead column_text cs
columns_written [] is free = tt
columns_written (c ∷ cs) is (first, rest) =
    let k = both (is_column c) (list_all is_column cs) is in
    (column_written c k.0 first, columns_written cs k.1 rest)

pub keys_written : (cs : List Column) → list_all is_column cs ≡ true → AreFree cs → EachWrites KeyRead (λ c. c.name) cs
keys_written [] is free = tt
keys_written (c ∷ cs) is (first, rest) =
    let k = both (is_column c) (list_all is_column cs) is in
    (key_written c (both (is_name c.name) (is_limit c.kind c.limit) k.0).0 first, keys_written cs k.1 rest)
