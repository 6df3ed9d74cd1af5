-- What holds of the token at the front of a text, by the ways in which it is cut.
use Rattle.std.proofs.Common.{◌≡◌, ℕ, ◌+◌, Bool, true, false, cond, ◌&&◌, List, length, take, drop, Option, Some, None, slice_index, refl, position, find}
use Rattle.std.specs.Prelude.{◌==◌, nat_le}
use Rattle.std.specs.Char.{is_ascii_digit, is_ascii_alphabetic, eq_ignore_ascii_case}
use Rattle.std.specs.List.{prefix_len}
use Rattle.sql_lex.specs.Terminal.{words}
use Rattle.sql_lex.specs.Tokens.{token, goes_on, named, name_by, is_spelled, closing, quoted_by, is_pairs, hexadecimal_by, lettered, minus, sign}
use Rattle.sql_lex.specs.declared.terminal.Terminal.{Terminal}
use Rattle.sql_lex.specs.declared.terminal.Terminal.TheVariants as w
use Rattle.sql_lex.specs.declared.token.Comparison.TheVariants as is
use Rattle.sql_lex.specs.declared.token.Token.{Token}
use Rattle.sql_lex.specs.declared.token.Token.TheVariants as t

-- the token at the front is cut so, and S holds of it
pub record Cut (S : Token → Type 0) (m : ℕ) (z : List ℕ) : Type 0 where
  pub unknown : S t.Unknown
  pub word : is_ascii_alphabetic (slice_index z 0) ≡ true → (v : Terminal) → find (is_spelled (take (prefix_len goes_on z) z)) words ≡ Some v → S (t.Fixed v)
  pub name : is_ascii_alphabetic (slice_index z 0) ≡ true → find (is_spelled (take (prefix_len goes_on z) z)) words ≡ None → nat_le (length (take (prefix_len goes_on z) z)) 30 ≡ true → S (t.Name (take (prefix_len goes_on z) z))
  pub bytes : (slice_index z 1 == 39 && eq_ignore_ascii_case (slice_index z 0) 88) ≡ true → (n : ℕ) → position (λ b. b == 39) (drop 2 z) ≡ Some n → is_pairs (take n (drop 2 z)) ≡ true → S (t.Bytes (take n (drop 2 z)))
  pub number : is_ascii_digit (slice_index z 0) ≡ true → S (t.Number (take (prefix_len is_ascii_digit z) z))
  pub text : (slice_index z 0 == 39) ≡ true → (n : ℕ) → closing false 0 (drop 1 z) ≡ Some n → S (t.Text (take n (drop 1 z)))
  pub minus_alone : (slice_index z 0 == 45) ≡ true → (prefix_len is_ascii_digit (drop 1 z) == 0) ≡ true → S (t.Minus None)
  pub minus_digits : (slice_index z 0 == 45) ≡ true → (prefix_len is_ascii_digit (drop 1 z) == 0) ≡ false → S (t.Minus (Some (take (prefix_len is_ascii_digit (drop 1 z) + 1) z)))
  pub marker : (slice_index z 0 == 63) ≡ true → S (t.Marker m)
  pub less_equal : (slice_index z 0 == 60) ≡ true → (slice_index z 1 == 61) ≡ true → S (t.Compare is.LessEqual)
  pub not_equal : (slice_index z 0 == 60) ≡ true → (slice_index z 1 == 62) ≡ true → S (t.Compare is.NotEqual)
  pub less : (slice_index z 0 == 60) ≡ true → (slice_index z 1 == 61) ≡ false → (slice_index z 1 == 62) ≡ false → S (t.Compare is.Less)
  pub greater_equal : (slice_index z 0 == 62) ≡ true → (slice_index z 1 == 61) ≡ true → S (t.Compare is.GreaterEqual)
  pub greater : (slice_index z 0 == 62) ≡ true → (slice_index z 1 == 61) ≡ false → S (t.Compare is.Greater)
  pub equal : (slice_index z 0 == 61) ≡ true → S (t.Compare is.Equal)
  pub open_sign : (slice_index z 0 == 40) ≡ true → S (t.Fixed w.Open)
  pub close_sign : (slice_index z 0 == 41) ≡ true → S (t.Fixed w.Close)
  pub comma : (slice_index z 0 == 44) ≡ true → S (t.Fixed w.Comma)
  pub star : (slice_index z 0 == 42) ≡ true → S (t.Fixed w.Star)
  pub plus : (slice_index z 0 == 43) ≡ true → S (t.Fixed w.Plus)

module _ (S : Token → Type 0) where
  by_test : (b : Bool) (x y : Token × ℕ) → (b ≡ true → S x.0) → (b ≡ false → S y.0) → S (cond b x y).0
  by_test true x y h k = h refl
  by_test false x y h k = k refl

  by_token : (b : Bool) (x y : Token) → (b ≡ true → S x) → (b ≡ false → S y) → S (cond b x y)
  by_token true x y h k = h refl
  by_token false x y h k = k refl

  by_word : (y : List ℕ) (given o : Option Terminal) → given ≡ o → S t.Unknown → ((v : Terminal) → given ≡ Some v → S (t.Fixed v)) → (given ≡ None → nat_le (length y) 30 ≡ true → S (t.Name y)) → S (name_by y o)
  by_word y given (Some v) e unknown word name = word v e
  by_word y given None e unknown word name = by_token (nat_le (length y) 30) (t.Name y) t.Unknown (name e) (λ _. unknown)

  by_close : (y : List ℕ) (given o : Option ℕ) → given ≡ o → S t.Unknown → ((n : ℕ) → given ≡ Some n → S (t.Text (take n y))) → S (quoted_by y o).0
  by_close y given None e unknown text = unknown
  by_close y given (Some n) e unknown text = text n e

  by_quote : (y : List ℕ) (given o : Option ℕ) → given ≡ o → S t.Unknown → ((n : ℕ) → given ≡ Some n → is_pairs (take n y) ≡ true → S (t.Bytes (take n y))) → S (hexadecimal_by y o).0
  by_quote y given None e unknown bytes = unknown
  by_quote y given (Some n) e unknown bytes = by_test (is_pairs (take n y)) (t.Bytes (take n y), n + 3) (t.Unknown, 1) (bytes n e) (λ _. unknown)

module _ (S : Token → Type 0) (m : ℕ) (z : List ℕ) (cut : Cut S m z) where
  cut_named : is_ascii_alphabetic (slice_index z 0) ≡ true → S (named (take (prefix_len goes_on z) z))
  unfolding named
  cut_named letter = by_word S (take (prefix_len goes_on z) z) (find (is_spelled (take (prefix_len goes_on z) z)) words) (find (is_spelled (take (prefix_len goes_on z) z)) words) refl cut.unknown (cut.word letter) (cut.name letter)

  cut_lettered : is_ascii_alphabetic (slice_index z 0) ≡ true → S (lettered z).0
  unfolding lettered
  cut_lettered letter =
      by_test S (slice_index z 1 == 39 && eq_ignore_ascii_case (slice_index z 0) 88)
      (hexadecimal_by (drop 2 z) (position (λ b. b == 39) (drop 2 z))) (named (take (prefix_len goes_on z) z), prefix_len goes_on z)
      (λ e. by_quote S (drop 2 z) (position (λ b. b == 39) (drop 2 z)) (position (λ b. b == 39) (drop 2 z)) refl cut.unknown (cut.bytes e)) (λ _. cut_named letter)

  cut_minus : (slice_index z 0 == 45) ≡ true → S (minus z)
  cut_minus e =
      by_token S (prefix_len is_ascii_digit (drop 1 z) == 0) (t.Minus None) (t.Minus (Some (take (prefix_len is_ascii_digit (drop 1 z) + 1) z))) (cut.minus_alone e) (cut.minus_digits e)

  cut_sign : S (sign (slice_index z 0) (slice_index z 1)).0
  unfolding sign
  cut_sign =
      by_test S (slice_index z 0 == 60) _ _
      (λ e. by_test S (slice_index z 1 == 61) _ _ (cut.less_equal e) (λ f. by_test S (slice_index z 1 == 62) _ _ (cut.not_equal e) (cut.less e f)))
      (λ _. by_test S (slice_index z 0 == 62) _ _
      (λ e. by_test S (slice_index z 1 == 61) _ _ (cut.greater_equal e) (cut.greater e))
      (λ _. by_test S (slice_index z 0 == 61) _ _ cut.equal
      (λ _. by_test S (slice_index z 0 == 40) _ _ cut.open_sign
      (λ _. by_test S (slice_index z 0 == 41) _ _ cut.close_sign
      (λ _. by_test S (slice_index z 0 == 44) _ _ cut.comma
      (λ _. by_test S (slice_index z 0 == 42) _ _ cut.star
      (λ _. by_test S (slice_index z 0 == 43) _ _ cut.plus (λ _. cut.unknown))))))))

  pub cut_token : S (token m z).0
  unfolding token
  cut_token =
      by_test S (is_ascii_alphabetic (slice_index z 0)) _ _ cut_lettered
      (λ _. by_test S (is_ascii_digit (slice_index z 0)) _ _ cut.number
      (λ _. by_test S (slice_index z 0 == 39) _ _ (λ e. by_close S (drop 1 z) (closing false 0 (drop 1 z)) (closing false 0 (drop 1 z)) refl cut.unknown (cut.text e))
      (λ _. by_test S (slice_index z 0 == 45) _ _ cut_minus
      (λ _. by_test S (slice_index z 0 == 63) _ _ cut.marker (λ _. cut_sign)))))
