-- The tokens of a text lie one behind the other.
use Rattle.std.proofs.Common.{◌≡◌, ℕ, zero, suc, ◌+◌, ◌-◌, ◌≤◌, Bool, true, false, cond, List, [], ◌∷◌, length, take, drop, Option, Some, None, slice_index, refl, ap, arith, position, find, lit≤}
use Rattle.std.specs.Prelude.{◌==◌, nat_le}
use Rattle.std.specs.Char.{is_ascii_digit, is_ascii_alphabetic}
use Rattle.std.specs.List.{prefix_len}
use Rattle.std.proofs.lemmas.Bool.Decides.{nat_tests}
use Rattle.std.proofs.lemmas.List.Folds.{length-prefix_len}
use Rattle.sql_lex.specs.Stands.{AreApart, LieApart, StandsIn, ahead_of, reach, reach_over}
use Rattle.sql_lex.specs.Terminal.{words}
use Rattle.sql_lex.specs.Tokens.{Lexeme, token, tokens, tokens_from, is_blank, goes_on, named, name_by, is_spelled, closing, quoted_by, is_pairs, hexadecimal_by, lettered, minus, sign, counted}
use Rattle.sql_lex.specs.declared.terminal.Terminal.{Terminal}
use Rattle.sql_lex.specs.declared.terminal.Terminal.TheVariants as w
use Rattle.sql_lex.specs.declared.token.Comparison.TheVariants as is
use Rattle.sql_lex.specs.declared.token.Token.{Token}
use Rattle.sql_lex.specs.declared.token.Token.TheVariants as t
use Rattle.sql_lex.proofs.Cases.{cut_token}
use Rattle.sql_lex.proofs.Parts.{here, take_short}

at_most : (n : ℕ) (z : List ℕ) → length (take n z) ≤ n
at_most zero [] = lit≤ tt
at_most zero (b ∷ z) = lit≤ tt
at_most (suc n) [] = omega arith
at_most (suc n) (b ∷ z) = omega (arith, at_most n z)

-- ---- what is ahead of a place is not behind it

by_blank : (v : Bool) (j : ℕ) (l : Lexeme) (xs ys : List Lexeme) (n : ℕ) → ahead_of (drop j xs) ≤ n → ahead_of (drop j (l ∷ ys)) ≤ n → ahead_of (drop j (cond v xs (l ∷ ys))) ≤ n
by_blank true j l xs ys n h k = h
by_blank false j l xs ys n h k = k

drop_nil : (j : ℕ) → ahead_of (drop j []) ≤ 0
drop_nil zero = lit≤ tt
drop_nil (suc j) = lit≤ tt

ahead_within : (k j m : ℕ) (z : List ℕ) → ahead_of (drop j (tokens_from k m z)) ≤ length z - k
ahead_within k j m [] = omega (arith, drop_nil j)
ahead_within (suc k) j m (b ∷ z) = omega (arith, ahead_within k j m z)
ahead_within zero zero m (b ∷ z) =
    let x = token m (b ∷ z) in
    by_blank (is_blank b) 0 (length (b ∷ z), x.0) (tokens_from 0 m z) (tokens_from (x.1 - 1) (counted x.0 m) z) (length (b ∷ z) - 0)
    (omega (arith, ahead_within 0 0 m z)) (omega arith)
ahead_within zero (suc j) m (b ∷ z) =
    let x = token m (b ∷ z) in
    by_blank (is_blank b) (suc j) (length (b ∷ z), x.0) (tokens_from 0 m z) (tokens_from (x.1 - 1) (counted x.0 m) z) (length (b ∷ z) - 0)
    (omega (arith, ahead_within 0 (suc j) m z)) (omega (arith, ahead_within (x.1 - 1) j (counted x.0 m) z))

-- ---- a token takes its part

R : Token × ℕ → Type 0
R x = reach x.0 ≤ x.1

by_test : (b : Bool) (x y : Token × ℕ) → R x → R y → R (cond b x y)
by_test true x y h k = h
by_test false x y h k = k

by_token : (b : Bool) (x y : Token) (n : ℕ) → reach x ≤ n → reach y ≤ n → reach (cond b x y) ≤ n
by_token true x y n h k = h
by_token false x y n h k = k

by_word : (n : ℕ) (z : List ℕ) (o : Option Terminal) → reach (name_by (take n z) o) ≤ n
by_word n z (Some word) = omega arith
by_word n z None = by_token (nat_le (length (take n z)) 30) (t.Name (take n z)) t.Unknown n (at_most n z) (omega arith)

named_takes : (n : ℕ) (z : List ℕ) → reach (named (take n z)) ≤ n
unfolding named
named_takes n z = by_word n z (find (is_spelled (take n z)) words)

hexadecimal_takes : (z : List ℕ) (o : Option ℕ) → R (hexadecimal_by z o)
unfolding R
hexadecimal_takes z None = lit≤ tt
hexadecimal_takes z (Some n) = by_test (is_pairs (take n z)) (t.Bytes (take n z), n + 3) (t.Unknown, 1) (omega (arith, at_most n z)) (lit≤ tt)

quoted_takes : (z : List ℕ) (o : Option ℕ) → R (quoted_by z o)
unfolding R
quoted_takes z None = lit≤ tt
quoted_takes z (Some n) = omega (arith, at_most n z)

lettered_takes : (z : List ℕ) → R (lettered z)
unfolding R lettered
lettered_takes z =
    by_test _ (hexadecimal_by (drop 2 z) (position (λ b. b == 39) (drop 2 z))) (named (take (prefix_len goes_on z) z), prefix_len goes_on z)
    (hexadecimal_takes (drop 2 z) (position (λ b. b == 39) (drop 2 z))) (named_takes (prefix_len goes_on z) z)

minus_takes : (z : List ℕ) → reach (minus z) ≤ 1
minus_takes z = by_token (prefix_len is_ascii_digit (drop 1 z) == 0) (t.Minus None) (t.Minus (Some (take (prefix_len is_ascii_digit (drop 1 z) + 1) z))) 1 (lit≤ tt) (lit≤ tt)

sign_takes : (b next : ℕ) → R (sign b next)
unfolding R sign
sign_takes b next =
    by_test (b == 60) _ _ (by_test (next == 61) _ _ (lit≤ tt) (by_test (next == 62) _ _ (lit≤ tt) (lit≤ tt)))
    (by_test (b == 62) _ _ (by_test (next == 61) _ _ (lit≤ tt) (lit≤ tt))
    (by_test (b == 61) _ _ (lit≤ tt) (by_test (b == 40) _ _ (lit≤ tt) (by_test (b == 41) _ _ (lit≤ tt) (by_test (b == 44) _ _ (lit≤ tt) (by_test (b == 42) _ _ (lit≤ tt) (by_test (b == 43) _ _ (lit≤ tt) (lit≤ tt))))))))

token_takes : (m : ℕ) (z : List ℕ) → R (token m z)
unfolding R token
token_takes m z =
    by_test (is_ascii_alphabetic (slice_index z 0)) _ _ (lettered_takes z)
    (by_test (is_ascii_digit (slice_index z 0)) _ _ (at_most (prefix_len is_ascii_digit z) z)
    (by_test (slice_index z 0 == 39) _ _ (quoted_takes (drop 1 z) (closing false 0 (drop 1 z)))
    (by_test (slice_index z 0 == 45) _ _ (minus_takes z)
    (by_test (slice_index z 0 == 63) _ _ (lit≤ tt) (sign_takes (slice_index z 0) (slice_index z 1))))))

-- and the text has it
within : (text : List ℕ) (tok : Token) → StandsIn text (length text - length text) tok → reach tok ≤ length text
within text (t.Name bytes) h = omega (arith, h.0)
within text (t.Number bytes) h = omega (arith, h.0)
within text (t.Text bytes) h = omega (arith, h.0)
within text (t.Bytes bytes) h = omega (arith, h.0)
within text (t.Minus o) h = omega arith
within text (t.Fixed v) h = omega arith
within text (t.Compare c) h = omega arith
within text (t.Marker n) h = omega arith
within text t.Unknown h = omega arith

next_behind : (m b : ℕ) (z : List ℕ) → ahead_of (tokens_from ((token m (b ∷ z)).1 - 1) (counted (token m (b ∷ z)).0 m) z) + reach (token m (b ∷ z)).0 ≤ length (b ∷ z)
unfolding R
next_behind m b z =
    let x = token m (b ∷ z) in
    let ahead = ahead_within (x.1 - 1) 0 (counted x.0 m) z in
    let takes = token_takes m (b ∷ z) in
    let has = within (b ∷ z) x.0 (here (b ∷ z) (b ∷ z) (0, refl, omega arith) (omega arith) m) in
    omega (arith, ahead, takes, has)

-- ---- a '-', and the digits behind it

digit_token : (m b : ℕ) (z : List ℕ) → is_ascii_digit b ≡ true → (token m (b ∷ z)).1 ≡ prefix_len is_ascii_digit (b ∷ z)
unfolding token
digit_token m b z h = let a : is_ascii_alphabetic b ≡ false = grind (arith, nat_tests) in rw (a, h) refl

minus_token : (m b : ℕ) (z : List ℕ) → (b == 45) ≡ true → (token m (b ∷ z)).1 ≡ 1
unfolding token
minus_token m b z h = let a : is_ascii_alphabetic b ≡ false = grind (arith, nat_tests) in let d : is_ascii_digit b ≡ false = grind (arith, nat_tests) in let q : (b == 39) ≡ false = grind (arith, nat_tests) in rw (a, d, q, h) refl

no_blank : (b : ℕ) → is_ascii_digit b ≡ true → is_blank b ≡ false
no_blank b h = grind (arith, nat_tests)

first_digit : (b : ℕ) (z : List ℕ) (v : Bool) → is_ascii_digit b ≡ v → (cond v (1 + prefix_len is_ascii_digit z) 0 == 0) ≡ false → is_ascii_digit b ≡ true
first_digit b z true e h = e
first_digit b z false e h = absurd cc

over_digits : (c : ℕ) (y : List ℕ) → (prefix_len is_ascii_digit y == 0) ≡ false → ahead_of (drop 1 (tokens_from 0 c y)) + (prefix_len is_ascii_digit y + 1) ≤ suc (length y)
over_digits c [] h = absurd cc
over_digits c (b ∷ y) h =
    let d = first_digit b y (is_ascii_digit b) refl h in
    let x = token c (b ∷ y) in
    let ahead = ahead_within (x.1 - 1) 0 (counted x.0 c) y in
    let takes = digit_token c b y d in
    let short = take_short (prefix_len is_ascii_digit (b ∷ y)) (b ∷ y) in
    let count = length-prefix_len is_ascii_digit (b ∷ y) in
    rw (no_blank b d) (omega (arith, ahead, takes, short, count))

module _ (m b : ℕ) (y : List ℕ) where
  -- what is ahead behind the next token, if this one is so
  S : Token → Type 0
  S tok = (c : ℕ) → ahead_of (drop 1 (tokens_from ((token m (b ∷ y)).1 - 1) c y)) + reach_over tok ≤ suc (length y)

  any : (tok : Token) → reach_over tok ≡ 0 → S tok
  unfolding S
  any tok none = λ c. let ahead = ahead_within ((token m (b ∷ y)).1 - 1) 1 c y in omega (arith, ahead, none)

  number : (b == 45) ≡ true → (prefix_len is_ascii_digit y == 0) ≡ false → S (t.Minus (Some (take (prefix_len is_ascii_digit y + 1) (b ∷ y))))
  unfolding S
  number e some = λ c.
      let one : (token m (b ∷ y)).1 - 1 ≡ 0 = let takes = minus_token m b y e in omega (arith, takes) in
      let over = over_digits c y some in
      let long = at_most (prefix_len is_ascii_digit y + 1) (b ∷ y) in
      let ahead : ahead_of (drop 1 (tokens_from ((token m (b ∷ y)).1 - 1) c y)) ≡ ahead_of (drop 1 (tokens_from 0 c y)) = ap (λ k. ahead_of (drop 1 (tokens_from k c y))) one in
      omega (arith, over, long, ahead)

  over_cut : S (token m (b ∷ y)).0
  over_cut = cut_token S m (b ∷ y) (record {
    unknown = any t.Unknown refl;
    word = λ e v f. any (t.Fixed v) refl;
    name = λ e f g. any (t.Name _) refl;
    bytes = λ e n f g. any (t.Bytes _) refl;
    number = λ e. any (t.Number _) refl;
    text = λ e n f. any (t.Text _) refl;
    minus_alone = λ e f. any (t.Minus None) refl;
    minus_digits = number;
    marker = λ e. any (t.Marker m) refl;
    less_equal = λ e f. any (t.Compare is.LessEqual) refl;
    not_equal = λ e f. any (t.Compare is.NotEqual) refl;
    less = λ e f g. any (t.Compare is.Less) refl;
    greater_equal = λ e f. any (t.Compare is.GreaterEqual) refl;
    greater = λ e f. any (t.Compare is.Greater) refl;
    equal = λ e. any (t.Compare is.Equal) refl;
    open_sign = λ e. any (t.Fixed w.Open) refl;
    close_sign = λ e. any (t.Fixed w.Close) refl;
    comma = λ e. any (t.Fixed w.Comma) refl;
    star = λ e. any (t.Fixed w.Star) refl;
    plus = λ e. any (t.Fixed w.Plus) refl;
  })

  over_behind : ahead_of (drop 1 (tokens_from ((token m (b ∷ y)).1 - 1) (counted (token m (b ∷ y)).0 m) y)) + reach_over (token m (b ∷ y)).0 ≤ suc (length y)
  unfolding S
  over_behind = over_cut (counted (token m (b ∷ y)).0 m)

by_gap : (v : Bool) (l : Lexeme) (xs ys : List Lexeme) → AreApart xs → ahead_of ys + reach l.1 ≤ l.0 → ahead_of (drop 1 ys) + reach_over l.1 ≤ l.0 → AreApart ys → AreApart (cond v xs (l ∷ ys))
by_gap true l xs ys h i j k = h
by_gap false l xs ys h i j k = (i, j, k)

apart_from : (left m : ℕ) (z : List ℕ) → AreApart (tokens_from left m z)
apart_from left m [] = tt
apart_from (suc left) m (b ∷ z) = apart_from left m z
apart_from zero m (b ∷ z) =
    let x = token m (b ∷ z) in
    by_gap (is_blank b) (length (b ∷ z), x.0) (tokens_from 0 m z) (tokens_from (x.1 - 1) (counted x.0 m) z)
    (apart_from 0 m z) (next_behind m b z) (over_behind m b z) (apart_from (x.1 - 1) (counted x.0 m) z)

pub all_apart : (text : List ℕ) → LieApart text (tokens text)
unfolding tokens
all_apart text = (omega (arith, ahead_within 0 0 0 text), apart_from 0 0 text)
