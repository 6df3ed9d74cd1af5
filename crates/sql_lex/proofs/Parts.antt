-- Each part that a token has is a slice of the text.
use Rattle.std.proofs.Common.{◌≡◌, ℕ, zero, suc, ◌+◌, ◌-◌, ◌≤◌, ◌<◌, Bool, true, false, cond, ◌&&◌, List, [], ◌∷◌, length, take, drop, Option, Some, None, slice_index, refl, sym, ap, ◌∙◌, subst, arith, position, find, length-drop, lit≤}
use Rattle.std.specs.Prelude.{◌==◌, nat_le}
use Rattle.std.specs.Char.{is_ascii_digit, is_ascii_alphabetic, eq_ignore_ascii_case}
use Rattle.std.specs.List.{prefix_len}
use Rattle.std.proofs.lemmas.Bool.Decides.{nat_tests}
use Rattle.drda_words.specs.Place.{StandsAt}
use Rattle.sql_lex.specs.Stands.{StandsIn, Stands, AllStand}
use Rattle.sql_lex.specs.Terminal.{words}
use Rattle.sql_lex.specs.Tokens.{Lexeme, token, tokens, tokens_from, is_blank, goes_on, named, name_by, is_spelled, closing, quoted_by, is_pairs, hexadecimal_by, lettered, minus, sign, counted}
use Rattle.sql_lex.specs.declared.terminal.Terminal.{Terminal}
use Rattle.sql_lex.specs.declared.token.Token.{Token}
use Rattle.sql_lex.specs.declared.token.Token.TheVariants as t

take_own : (n : ℕ) (z : List ℕ) → take (length (take n z)) z ≡ take n z
take_own zero z = take_zero z
  where
    take_zero : (z : List ℕ) → take 0 z ≡ take 0 z
    take_zero z = refl
take_own (suc n) [] = refl
take_own (suc n) (b ∷ z) = ap (λ u. b ∷ u) (take_own n z)

pub take_short : (n : ℕ) (z : List ℕ) → length (take n z) ≤ length z
take_short zero z = zero_le z
  where
    zero_le : (z : List ℕ) → length (take 0 z) ≤ length z
    zero_le [] = lit≤ tt
    zero_le (b ∷ z) = omega arith
take_short (suc n) [] = lit≤ tt
take_short (suc n) (b ∷ z) = omega (arith, take_short n z)

drop_none : (n : ℕ) (z : List ℕ) → z ≡ [] → drop n z ≡ []
drop_none zero [] e = refl
drop_none (suc n) [] e = refl
drop_none n (b ∷ z) e = absurd (cc)

drop_twice : (k j : ℕ) (z : List ℕ) → drop j (drop k z) ≡ drop (k + j) z
drop_twice zero j z = let e : j ≡ zero + j = omega arith in ap (λ n. drop n z) e
drop_twice (suc k) j [] = drop_none j [] refl ∙ sym (drop_none (suc k + j) [] refl)
drop_twice (suc k) j (b ∷ z) = let e : suc (k + j) ≡ suc k + j = omega arith in drop_twice k j z ∙ ap (λ n. drop n (b ∷ z)) e

-- these bytes are the text from a place on
abbrev pub Rests : List ℕ → List ℕ → Type 0
Rests text z = (k : ℕ) × (z ≡ drop k text) × (k + length z ≡ length text)

part_stands : (text z : List ℕ) (j n : ℕ) → Rests text z → j ≤ length z → StandsAt text (length text - length z + j) (take n (drop j z))
part_stands text z j n (k, same, len) in_z =
    let at : length text - length z + j ≡ k + j = omega arith in
    let w : drop j z ≡ drop (k + j) text = ap (λ u. drop j u) same ∙ drop_twice k j text in
    let short : length (take n (drop j z)) ≤ length (drop j z) = take_short n (drop j z) in
    let left : length (drop j z) ≡ length z - j = length-drop j z in
    (omega arith, ap (λ p. take (length (take n (drop j z))) (drop p text)) at ∙ ap (λ u. take (length (take n (drop j z))) u) (sym w) ∙ take_own n (drop j z))

module _ (text z : List ℕ) (rests : Rests text z) (some : 0 < length z) where
  S : Token → Type 0
  S tok = StandsIn text (length text - length z) tok

  whole : (n : ℕ) → StandsAt text (length text - length z) (take n z)
  whole n =
      let e : length text - length z + 0 ≡ length text - length z = omega arith in
      let P : ℕ → Type 0 = λ at. StandsAt text at (take n z) in
      subst P e (part_stands text z 0 n rests (omega arith))

  by_test : (b : Bool) (x y : Token × ℕ) → (b ≡ true → S x.0) → (b ≡ false → S y.0) → S (cond b x y).0
  by_test true x y h k = h refl
  by_test false x y h k = k refl

  by_token : (b : Bool) (x y : Token) → S x → S y → S (cond b x y)
  by_token true x y h k = h
  by_token false x y h k = k

  by_word : (n : ℕ) (o : Option Terminal) → S (name_by (take n z) o)
  unfolding S
  by_word n (Some word) = tt
  by_word n None = by_token (nat_le (length (take n z)) 30) (t.Name (take n z)) t.Unknown (whole n) tt

  named_stands : (n : ℕ) → S (named (take n z))
  unfolding named
  named_stands n = by_word n (find (is_spelled (take n z)) words)

  pairs_stand : (o : Option ℕ) → 2 ≤ length z → S (hexadecimal_by (drop 2 z) o).0
  unfolding S
  pairs_stand None long = tt
  pairs_stand (Some n) long = by_test (is_pairs (take n (drop 2 z))) (t.Bytes (take n (drop 2 z)), n + 3) (t.Unknown, 1) (λ _. part_stands text z 2 n rests long) (λ _. tt)

  quoted_stands : (o : Option ℕ) → S (quoted_by (drop 1 z) o).0
  unfolding S
  quoted_stands None = tt
  quoted_stands (Some n) = part_stands text z 1 n rests (omega arith)

  minus_stands : S (minus z)
  unfolding S
  minus_stands = by_token (prefix_len is_ascii_digit (drop 1 z) == 0) (t.Minus None) (t.Minus (Some (take (prefix_len is_ascii_digit (drop 1 z) + 1) z))) tt (whole (prefix_len is_ascii_digit (drop 1 z) + 1))

  by_pair : (b : Bool) (x y : Token × ℕ) → S x.0 → S y.0 → S (cond b x y).0
  by_pair true x y h k = h
  by_pair false x y h k = k

  sign_stands : (b next : ℕ) → S (sign b next).0
  unfolding S sign
  sign_stands b next =
      by_pair (b == 60) _ _ (by_pair (next == 61) _ _ tt (by_pair (next == 62) _ _ tt tt))
      (by_pair (b == 62) _ _ (by_pair (next == 61) _ _ tt tt)
      (by_pair (b == 61) _ _ tt (by_pair (b == 40) _ _ tt (by_pair (b == 41) _ _ tt (by_pair (b == 44) _ _ tt (by_pair (b == 42) _ _ tt (by_pair (b == 43) _ _ tt tt)))))))

  long : (slice_index z 1 == 39 && eq_ignore_ascii_case (slice_index z 0) 88) ≡ true → 2 ≤ length z
  long e = longer z e
    where
      longer : (y : List ℕ) → (slice_index y 1 == 39 && eq_ignore_ascii_case (slice_index y 0) 88) ≡ true → 2 ≤ length y
      longer [] e = absurd (grind (arith, nat_tests))
      longer (a ∷ []) e = absurd (grind (arith, nat_tests))
      longer (a ∷ b ∷ y) e = omega arith

  lettered_stands : S (lettered z).0
  unfolding lettered
  lettered_stands =
      by_test (slice_index z 1 == 39 && eq_ignore_ascii_case (slice_index z 0) 88)
      (hexadecimal_by (drop 2 z) (position (λ b. b == 39) (drop 2 z))) (named (take (prefix_len goes_on z) z), prefix_len goes_on z)
      (λ e. pairs_stand (position (λ b. b == 39) (drop 2 z)) (long e)) (λ _. named_stands (prefix_len goes_on z))

  token_stands : (m : ℕ) → S (token m z).0
  unfolding S token
  token_stands m =
      by_pair (is_ascii_alphabetic (slice_index z 0)) _ _ lettered_stands
      (by_pair (is_ascii_digit (slice_index z 0)) _ _ (whole (prefix_len is_ascii_digit z))
      (by_pair (slice_index z 0 == 39) _ _ (quoted_stands (closing false 0 (drop 1 z)))
      (by_pair (slice_index z 0 == 45) _ _ minus_stands
      (by_pair (slice_index z 0 == 63) _ _ tt (sign_stands (slice_index z 0) (slice_index z 1))))))

  pub here : (m : ℕ) → Stands text (length z, (token m z).0)
  unfolding S
  here m = token_stands m

pub tail_rests : (text : List ℕ) (b : ℕ) (z : List ℕ) → Rests text (b ∷ z) → Rests text z
tail_rests text b z (k, same, len) = (k + 1, ap (λ u. drop 1 u) same ∙ drop_twice k 1 text, omega arith)

by_blank : (text : List ℕ) (w : Bool) (l : Lexeme) (xs ys : List Lexeme) → AllStand text xs → Stands text l → AllStand text ys → AllStand text (cond w xs (l ∷ ys))
by_blank text true l xs ys h i j = h
by_blank text false l xs ys h i j = (i, j)

stand_from : (text : List ℕ) (left m : ℕ) (z : List ℕ) → Rests text z → AllStand text (tokens_from left m z)
stand_from text left m [] r = tt
stand_from text (suc left) m (b ∷ z) r = stand_from text left m z (tail_rests text b z r)
stand_from text zero m (b ∷ z) r =
    let t = token m (b ∷ z) in
    by_blank text (is_blank b) (length (b ∷ z), t.0) (tokens_from 0 m z) (tokens_from (t.1 - 1) (counted t.0 m) z)
    (stand_from text 0 m z (tail_rests text b z r)) (here text (b ∷ z) r (omega arith) m) (stand_from text (t.1 - 1) (counted t.0 m) z (tail_rests text b z r))

pub all_stand : (text : List ℕ) → AllStand text (tokens text)
unfolding tokens
all_stand text = stand_from text 0 0 text (0, refl, omega arith)
