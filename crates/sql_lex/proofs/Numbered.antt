-- Markers are numbered in the order of the text.
use Rattle.std.proofs.Common.{◌≡◌, ℕ, zero, suc, ◌+◌, ◌-◌, Bool, true, false, cond, List, [], ◌∷◌, refl, sym, ap, ◌∙◌, arith, length}
use Rattle.sql_lex.proofs.Ahead.{ahead-all}
use Rattle.sql_lex.proofs.Cases.{cut_token}
use Rattle.sql_lex.specs.Markers.{markers_in, markers_of, HasNumber, AreNumbered}
use Rattle.sql_lex.specs.Tokens.{Lexeme, token, tokens, tokens_from, tokens_ahead, is_blank, counted}
use Rattle.sql_lex.specs.declared.token.Token.{Token}
use Rattle.sql_lex.specs.declared.token.Token.TheVariants as t

-- a marker counts as one
pub counts_one : (tok : Token) (m left : ℕ) (ts : List Lexeme) → counted tok m + markers_in ts ≡ m + markers_in ((left, tok) ∷ ts)
counts_one (t.Marker k) m left ts = omega arith
counts_one _ m left ts = omega arith

pub counts_on : (cursor rest : ℕ × List ℕ) (tok : Token) (left : ℕ) → tokens_ahead cursor ≡ (left, tok) ∷ tokens_ahead rest → rest.0 ≡ counted tok cursor.0 → markers_of rest ≡ markers_of cursor
unfolding markers_of
counts_on cursor rest tok left ahead n =
    ap (λ k. k + markers_in (tokens_ahead rest)) n ∙ counts_one tok cursor.0 left (tokens_ahead rest) ∙ ap (λ ts. cursor.0 + markers_in ts) (sym ahead)

numbered : (m : ℕ) (z : List ℕ) → HasNumber m (token m z).0
numbered m z = cut_token (HasNumber m) m z (record {
  unknown = tt;
  word = λ _ v _. tt;
  name = λ _ _ _. tt;
  bytes = λ _ n _ _. tt;
  number = λ _. tt;
  text = λ _ n _. tt;
  minus_alone = λ _ _. tt;
  minus_digits = λ _ _. tt;
  marker = λ _. refl;
  less_equal = λ _ _. tt;
  not_equal = λ _ _. tt;
  less = λ _ _ _. tt;
  greater_equal = λ _ _. tt;
  greater = λ _ _. tt;
  equal = λ _. tt;
  open_sign = λ _. tt;
  close_sign = λ _. tt;
  comma = λ _. tt;
  star = λ _. tt;
  plus = λ _. tt;
})

by_blank : (n : ℕ) (w : Bool) (l : Lexeme) (xs ys : List Lexeme) → AreNumbered n xs → HasNumber n l.1 → AreNumbered (counted l.1 n) ys → AreNumbered n (cond w xs (l ∷ ys))
by_blank n true l xs ys h i j = h
by_blank n false l xs ys h i j = (i, j)

numbered_from : (left m : ℕ) (z : List ℕ) → AreNumbered m (tokens_from left m z)
numbered_from left m [] = tt
numbered_from (suc left) m (b ∷ z) = numbered_from left m z
numbered_from zero m (b ∷ z) =
    let x = token m (b ∷ z) in
    by_blank m (is_blank b) (length (b ∷ z), x.0) (tokens_from 0 m z) (tokens_from (x.1 - 1) (counted x.0 m) z) (numbered_from 0 m z) (numbered m (b ∷ z)) (numbered_from (x.1 - 1) (counted x.0 m) z)

pub all_numbered : (text : List ℕ) → AreNumbered 0 (tokens text)
unfolding tokens
all_numbered text = numbered_from 0 0 text

-- the beginning of a text has all markers to come, and its end has them behind it
pub all_markers : (text : List ℕ) → markers_of (0, text) ≡ markers_in (tokens text)
unfolding markers_of
all_markers text = omega (arith, ap markers_in (ahead-all text))

pub markers_at_end : (cursor : ℕ × List ℕ) → tokens_ahead cursor ≡ [] → markers_of cursor ≡ cursor.0
unfolding markers_of
markers_at_end cursor e = omega (arith, ap markers_in e)
