-- Which tokens are of a kind.
use Rattle.std.proofs.Common.{◌≡◌, ℕ, Bool, true, false, cond, List, ◌∷◌, refl, ap, Option, Some, None}
use Rattle.std.proofs.lemmas.Bool.{false≢true}
use Rattle.sql_lex.specs.declared.terminal.Terminal.{Terminal}
use Rattle.sql_lex.specs.declared.terminal.Terminal.TheVariants as w
use Rattle.sql_lex.specs.declared.token.Comparison.{Comparison}
use Rattle.sql_lex.specs.declared.token.Comparison.TheVariants as is
use Rattle.sql_lex.specs.declared.token.Token.{Token}
use Rattle.sql_lex.specs.declared.token.Token.TheVariants as t
use Rattle.sql_lex.specs.Terminal.{is_same}
use Rattle.sql_lex.specs.Tokens.{Lexeme}
use Rattle.sql_lex.proofs.Terminals.{same_is}
use Rattle.sql_text.specs.Number.{length_of}
use Rattle.sql_text.specs.declared.tree.Operation.{Operation}
use Rattle.sql_text.specs.declared.tree.Operation.TheVariants as operation
use Rattle.sql_text.specs.Reading.{is_fixed, as_fixed, as_name, as_digits, as_length, as_comparison, as_equal, as_operation}
use Rattle.sql_text.specs.Grammar.{IsOperation}

abbrev some_if : Bool → Option (Unit {0})
some_if b = cond b (Some tt) None

by_same : (w v : Terminal) (b : Bool) (u : Unit {0}) → is_same v w ≡ b → some_if b ≡ Some u → v ≡ w
by_same w v true u s e = same_is v w s
by_same w v false u s e = absurd (cc)

pub fixed_is : (w : Terminal) (tok : Token) (u : Unit {0}) → as_fixed w tok ≡ Some u → tok ≡ t.Fixed w
fixed_is w (t.Fixed v) u e = ap t.Fixed (by_same w v (is_same v w) u refl e)
fixed_is w _ u e = absurd (cc)

pub eaten_is : (w : Terminal) (tok : Token) → is_fixed w tok ≡ true → tok ≡ t.Fixed w
eaten_is w (t.Fixed v) e = ap t.Fixed (same_is v w e)
eaten_is w _ e = absurd (false≢true e)

pub name_is : (tok : Token) (n : List ℕ) → as_name tok ≡ Some n → tok ≡ t.Name n
name_is (t.Name m) n e = let s : m ≡ n = cc in ap t.Name s
name_is _ n e = absurd (cc)

pub digits_is : (tok : Token) (n : List ℕ) → as_digits tok ≡ Some n → tok ≡ t.Number n
digits_is (t.Number m) n e = let s : m ≡ n = cc in ap t.Number s
digits_is _ n e = absurd (cc)

pub length_is : (tok : Token) (n : ℕ) → as_length tok ≡ Some n → (digits : List ℕ) × (tok ≡ t.Number digits) × (n ≡ length_of digits)
length_is (t.Number m) n e = let s : n ≡ length_of m = cc in (m, refl, s)
length_is _ n e = absurd (cc)

pub comparison_is : (tok : Token) (c : Comparison) → as_comparison tok ≡ Some c → tok ≡ t.Compare c
comparison_is (t.Compare m) c e = let s : m ≡ c = cc in ap t.Compare s
comparison_is _ c e = absurd (cc)

pub equal_is : (tok : Token) (u : Unit {0}) → as_equal tok ≡ Some u → tok ≡ t.Compare is.Equal
equal_is (t.Compare is.Equal) u e = refl
equal_is _ u e = absurd (cc)

pub operation_is : (l : Lexeme) (o : Operation) (ts rest : List Lexeme) → as_operation l.1 ≡ Some o → ts ≡ l ∷ rest → IsOperation o ts rest
operation_is (k, t.Fixed w.Plus) operation.Add ts rest e s = (k, s)
operation_is (k, t.Minus n) operation.Subtract ts rest e s = (n, (k, s))
operation_is (k, _) _ ts rest e s = absurd (cc)
