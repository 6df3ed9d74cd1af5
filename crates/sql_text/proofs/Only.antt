-- What is in the grammar is read: single tokens and lists.
use Rattle.std.proofs.Common.{◌≡◌, ℕ, zero, suc, ◌+◌, ◌≤◌, ◌<◌, Bool, true, false, List, [], ◌∷◌, ◌++◌, length, refl, sym, ap, ◌∙◌, arith, Ok, Option, Some, None, append_assoc}
use Rattle.sql_lex.specs.declared.terminal.Terminal.{Terminal}
use Rattle.sql_lex.specs.declared.token.Comparison.{Comparison}
use Rattle.sql_lex.specs.declared.token.Comparison.TheVariants as is
use Rattle.sql_lex.specs.declared.token.Token.{Token}
use Rattle.sql_lex.specs.declared.token.Token.TheVariants as t
use Rattle.sql_lex.specs.Tokens.{Lexeme}
use Rattle.sql_lex.proofs.Terminals.{same_again}
use Rattle.sql_text.specs.declared.tree.Operation.{Operation}
use Rattle.sql_text.specs.declared.tree.Operation.TheVariants as operation
use Rattle.sql_text.specs.Reading.{Parser, expect, is_fixed, as_fixed, as_name, as_digits, as_comparison, as_equal, as_operation, expect_fixed, take_fixed, name_at, placed_name_at, digits_at, length_at, comparison_at, equal_at, operation_at}
use Rattle.sql_text.specs.Rules.{longest, items_from, items}
use Rattle.sql_text.specs.Grammar.{At, Is, The, IsList, IsName, IsOperation, IsLength}

-- ---- tokens

pub again : {A : Type 0} (f : Token → Option A) (tok : Token) (a : A) (ts rest : List Lexeme) → f tok ≡ Some a → Is tok ts rest → expect f ts ≡ Ok (a, rest)
again f tok a ts rest e (k, same) = rw (same, e) refl

as_fixed_is : (w : Terminal) → as_fixed w (t.Fixed w) ≡ Some tt
as_fixed_is w = rw (same_again w) refl

pub the_again : (w : Terminal) (ts rest : List Lexeme) → The w ts rest → expect_fixed w ts ≡ Ok (tt, rest)
unfolding expect_fixed
the_again w ts rest is = again (as_fixed w) (t.Fixed w) tt ts rest (as_fixed_is w) is

pub may_again : (w : Terminal) (ts rest : List Lexeme) → The w ts rest → take_fixed w ts ≡ Ok (true, rest)
unfolding take_fixed
may_again w ts rest (k, same) = rw (same, same_again w) refl

pub name_again : (n : List ℕ) (ts rest : List Lexeme) → IsName n ts rest → name_at ts ≡ Ok (n, rest)
unfolding name_at
name_again n ts rest is = again as_name (t.Name n) n ts rest refl is

pub placed_name_again : (n : List ℕ × ℕ) (ts rest : List Lexeme) → At n.1 (t.Name n.0) ts rest → placed_name_at ts ≡ Ok (n, rest)
unfolding placed_name_at
placed_name_again n ts rest same = rw same refl

pub digits_again : (n : List ℕ) (ts rest : List Lexeme) → Is (t.Number n) ts rest → digits_at ts ≡ Ok (n, rest)
unfolding digits_at
digits_again n ts rest is = again as_digits (t.Number n) n ts rest refl is

pub length_again : (n : ℕ × ℕ) (ts rest : List Lexeme) → IsLength n.0 n.1 ts rest → length_at ts ≡ Ok (n, rest)
unfolding length_at
length_again n ts rest (digits, same, is) = rw same (ap (λ k. Ok ((k, n.1), rest)) (sym is))

pub comparison_again : (c : Comparison) (ts rest : List Lexeme) → Is (t.Compare c) ts rest → comparison_at ts ≡ Ok (c, rest)
unfolding comparison_at
comparison_again c ts rest is = again as_comparison (t.Compare c) c ts rest refl is

pub equal_again : (ts rest : List Lexeme) → Is (t.Compare is.Equal) ts rest → equal_at ts ≡ Ok (tt, rest)
unfolding equal_at
equal_again ts rest e = again as_equal (t.Compare is.Equal) tt ts rest refl e

pub operation_again : (o : Operation) (ts rest : List Lexeme) → IsOperation o ts rest → operation_at ts ≡ Ok (Some o, rest)
unfolding operation_at
operation_again operation.Add ts rest (k, same) = rw same refl
operation_again operation.Subtract ts rest (n, (k, same)) = rw same refl

-- ---- what a token is not

-- no such word comes next
abbrev pub Lacks : Terminal → List Lexeme → Type 0
Lacks w ts = take_fixed w ts ≡ Ok (false, ts)

-- no sign of a sum comes next
abbrev pub NoSign : List Lexeme → Type 0
NoSign ts = operation_at ts ≡ Ok (None, ts)

pub lacks_nil : (w : Terminal) → Lacks w []
unfolding take_fixed
lacks_nil w = refl

pub no_sign_nil : NoSign []
unfolding operation_at
no_sign_nil = refl

pub lacks : (w : Terminal) (tok : Token) (ts rest : List Lexeme) → is_fixed w tok ≡ false → Is tok ts rest → Lacks w ts
unfolding take_fixed
lacks w tok ts rest e (k, same) = rw (same, e) refl

pub no_sign : (tok : Token) (ts rest : List Lexeme) → as_operation tok ≡ None → Is tok ts rest → NoSign ts
unfolding operation_at
no_sign tok ts rest e (k, same) = rw (same, e) refl

-- ---- lengths

pub is_length : (tok : Token) (ts rest : List Lexeme) → Is tok ts rest → length rest < length ts
is_length tok ts rest (k, same) = let e : length ts ≡ suc (length rest) = ap length same in omega arith

pub at_length : (k : ℕ) (tok : Token) (ts rest : List Lexeme) → At k tok ts rest → length rest < length ts
at_length k tok ts rest same = let e : length ts ≡ suc (length rest) = ap length same in omega arith

module _ {A : Type 0} (R : A → List Lexeme → List Lexeme → Type 0) (Between : List Lexeme → List Lexeme → Type 0)
    (shorter : (x : A) (ts rest : List Lexeme) → R x ts rest → length rest < length ts)
    (shorter' : (ts rest : List Lexeme) → Between ts rest → length rest < length ts) where
  pub list_length : (xs : List A) (ts rest : List Lexeme) → IsList R Between xs ts rest → length xs + length rest ≤ length ts
  list_length [] ts rest m = absurd m
  list_length (x ∷ []) ts rest r = omega (arith, shorter x ts rest r)
  list_length (x ∷ y ∷ ys) ts rest (mid, r, (after, b, m)) = omega (arith, shorter x ts mid r, shorter' mid after b, list_length (y ∷ ys) after rest m)

  list_some : (xs : List A) (ts rest : List Lexeme) → IsList R Between xs ts rest → 0 < length xs
  list_some [] ts rest m = absurd m
  list_some (x ∷ xs) ts rest m = omega arith

  pub list_shorter : (xs : List A) (ts rest : List Lexeme) → IsList R Between xs ts rest → length rest < length ts
  list_shorter xs ts rest m = omega (arith, list_length xs ts rest m, list_some xs ts rest m)

-- ---- lists

module _ {A : Type 0} (item : Parser A) (more : Parser Bool) (R : A → List Lexeme → List Lexeme → Type 0) (Between : List Lexeme → List Lexeme → Type 0) (Follows : List Lexeme → Type 0)
    (shorter : (x : A) (ts rest : List Lexeme) → R x ts rest → length rest < length ts)
    (shorter' : (ts rest : List Lexeme) → Between ts rest → length rest < length ts)
    (only : (x : A) (ts rest : List Lexeme) → length ts ≤ longest → Follows rest → R x ts rest → item ts ≡ Ok (x, rest))
    (goes : (x : A) (ts mid rest : List Lexeme) → Between ts mid → R x mid rest → more ts ≡ Ok (true, mid))
    (behind : (ts rest : List Lexeme) → Between ts rest → Follows ts) where
  list_goes : (xs : List A) (ts mid rest : List Lexeme) → Between ts mid → IsList R Between xs mid rest → more ts ≡ Ok (true, mid)
  list_goes [] ts mid rest b m = absurd m
  list_goes (x ∷ []) ts mid rest b r = goes x ts mid rest b r
  list_goes (x ∷ y ∷ ys) ts mid rest b (after, r, m) = goes x ts mid after b r

  pub items_from_only : (n : ℕ) (found xs : List A) (ts rest end : List Lexeme) → length ts ≤ longest → length xs ≤ n → Follows rest → more rest ≡ Ok (false, end) → IsList R Between xs ts rest
      → items_from item more n found ts ≡ Ok (found ++ xs, end)
  unfolding items_from
  items_from_only n found [] ts rest end fits few follows stops m = absurd m
  items_from_only zero found (x ∷ xs) ts rest end fits few follows stops m = absurd (omega arith)
  items_from_only (suc n) found (x ∷ []) ts rest end fits few follows stops r = rw (only x ts rest fits follows r, stops) refl
  items_from_only (suc n) found (x ∷ y ∷ ys) ts rest end fits few follows stops (mid, r, (after, b, m)) =
      let room : length after ≤ longest = omega (arith, shorter x ts mid r, shorter' mid after b) in
      let fewer : length (y ∷ ys) ≤ n = omega arith in
      let here = only x ts mid fits (behind mid after b) r in
      let on = list_goes (y ∷ ys) mid after rest b m in
      rw (here, on)
      (items_from_only n (found ++ x ∷ []) (y ∷ ys) after rest end room fewer follows stops m ∙ ap (λ (all : List A). Ok (all, end)) (append_assoc found (x ∷ []) (y ∷ ys)))

  pub items_only : (xs : List A) (ts rest end : List Lexeme) → length ts ≤ longest → Follows rest → more rest ≡ Ok (false, end) → IsList R Between xs ts rest → items item more ts ≡ Ok (xs, end)
  unfolding items
  items_only xs ts rest end fits follows stops m =
      let few : length xs ≤ longest = omega (arith, list_length R Between shorter shorter' xs ts rest m) in
      items_from_only longest [] xs ts rest end fits few follows stops m

-- a list with this word between its items
module _ {A : Type 0} (item : Parser A) (w : Terminal) (R : A → List Lexeme → List Lexeme → Type 0) (Follows : List Lexeme → Type 0)
    (shorter : (x : A) (ts rest : List Lexeme) → R x ts rest → length rest < length ts)
    (only : (x : A) (ts rest : List Lexeme) → length ts ≤ longest → Follows rest → R x ts rest → item ts ≡ Ok (x, rest))
    (behind : (ts rest : List Lexeme) → The w ts rest → Follows ts) where
  pub list_only : (xs : List A) (ts rest : List Lexeme) → length ts ≤ longest → Follows rest → Lacks w rest → IsList R (The w) xs ts rest → items item (take_fixed w) ts ≡ Ok (xs, rest)
  list_only xs ts rest fits follows stops m =
      items_only item (take_fixed w) R (The w) Follows shorter (is_length (t.Fixed w)) only (λ x us mid after b r. may_again w us mid b) behind xs ts rest rest fits follows stops m
