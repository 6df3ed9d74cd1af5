-- What is ahead in a text.
use Rattle.std.proofs.Common.{◌≡◌, ℕ, zero, suc, ◌-◌, ◌≤◌, ◌<◌, true, false, cond, List, [], ◌∷◌, drop, length, refl, ap, arith, slice_index, sym, Bool, lit≤}
use Rattle.sql_lex.specs.Tokens.{token, tokens_from, tokens, tokens_ahead, is_blank, counted, Lexeme}
use Rattle.sql_lex.specs.declared.token.Token.{Token}

from-drop : (n m : ℕ) (z : List ℕ) → tokens_from n m z ≡ tokens_from 0 m (drop n z)
from-drop zero m z = refl
from-drop (suc n) m [] = refl
from-drop (suc n) m (b ∷ z) = from-drop n m z

drop-cons : (n b : ℕ) (z : List ℕ) → 1 ≤ n → drop (n - 1) z ≡ drop n (b ∷ z)
drop-cons zero b z h = absurd (omega arith)
drop-cons (suc n) b z h = let e : suc n - 1 ≡ n = omega arith in ap (λ k. drop k z) e

ahead-blank : (m b : ℕ) (z : List ℕ) → is_blank b ≡ true → tokens_ahead (m, b ∷ z) ≡ tokens_ahead (m, z)
unfolding tokens_ahead
ahead-blank m b z h = ap (λ t. cond t (tokens_from 0 m z) ((length (b ∷ z), (token m (b ∷ z)).0) ∷ tokens_from ((token m (b ∷ z)).1 - 1) (counted (token m (b ∷ z)).0 m) z)) h

ahead-nil : (m : ℕ) → tokens_ahead (m, []) ≡ []
unfolding tokens_ahead
ahead-nil m = refl

pub ahead-next : (m : ℕ) (z : List ℕ) → is_blank (slice_index z 0) ≡ false → 0 < length z → 1 ≤ (token m z).1
    → tokens_ahead (m, z) ≡ (length z, (token m z).0) ∷ tokens_ahead (counted (token m z).0 m, drop (token m z).1 z)
unfolding tokens_ahead
ahead-next m [] h some moves = absurd (omega arith)
ahead-next m (b ∷ z) h some moves = rw (h, from-drop ((token m (b ∷ z)).1 - 1) (counted (token m (b ∷ z)).0 m) z, drop-cons (token m (b ∷ z)).1 b z moves)

pub ahead-goes : (m : ℕ) (z : List ℕ) → 0 < length z → is_blank (slice_index z 0) ≡ true → tokens_ahead (m, drop 1 z) ≡ tokens_ahead (m, z)
ahead-goes m [] some h = absurd (omega arith)
ahead-goes m (b ∷ z) some h = sym (ahead-blank m b z h)

pub ahead-none : (m : ℕ) (z : List ℕ) → length z ≡ 0 → tokens_ahead (m, z) ≡ []
ahead-none m [] h = ahead-nil m
ahead-none m (b ∷ z) h = absurd (omega arith)

by_blank : (w : Bool) (l : ℕ × Token) (a b : List Lexeme) (n : ℕ) → length a ≤ n → length b ≤ n → length (cond w a (l ∷ b)) ≤ suc n
by_blank true l a b n h k = omega arith
by_blank false l a b n h k = omega arith

from-length : (n m : ℕ) (z : List ℕ) → length (tokens_from n m z) ≤ length z
from-length n m [] = lit≤ tt
from-length (suc n) m (b ∷ z) = omega (arith, from-length n m z)
from-length zero m (b ∷ z) =
    let t = token m (b ∷ z) in
    by_blank (is_blank b) (length (b ∷ z), t.0) (tokens_from 0 m z) (tokens_from (t.1 - 1) (counted t.0 m) z) (length z) (from-length 0 m z) (from-length (t.1 - 1) (counted t.0 m) z)

-- no more tokens than bytes
pub tokens-length : (z : List ℕ) → length (tokens z) ≤ length z
unfolding tokens
tokens-length z = from-length 0 0 z

pub ahead-all : (z : List ℕ) → tokens_ahead (0, z) ≡ tokens z
unfolding tokens tokens_ahead
ahead-all z = refl
