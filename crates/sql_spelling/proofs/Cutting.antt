-- The tokens of a text that begins with the spelling of one.
use Rattle.std.proofs.Common.{◌≡◌, ℕ, suc, ◌+◌, ◌-◌, ◌<◌, ◌%◌, Bool, true, false, cond, not, ◌&&◌, ◌||◌, List, [], ◌∷◌, ◌++◌, length, take, Some, slice_index, refl, ap, ◌∙◌, arith, position, append_assoc, length-append}
use Rattle.std.specs.Prelude.{◌==◌, nat_lt}
use Rattle.std.specs.Char.{is_ascii_digit, is_ascii_alphabetic, is_ascii_hexdigit}
use Rattle.std.specs.List.{prefix_len, list_all}
use Rattle.std.proofs.lemmas.Bool.Decides.{nat_tests}
use Rattle.sql_lex.specs.Spelling.{doubled}
use Rattle.sql_lex.specs.Tokens.{Lexeme, token, tokens_from, is_blank, goes_on, named, lettered, sign, closing, counted}
use Rattle.sql_lex.specs.declared.terminal.Terminal.TheVariants as w
use Rattle.sql_lex.specs.declared.token.Token.{Token}
use Rattle.sql_lex.specs.declared.token.Token.TheVariants as t

-- ---- what may stand behind a token

-- the tokens of a text, with no marker before it
abbrev pub lexed : List ℕ → List Lexeme
lexed z = tokens_from 0 0 z

-- a blank, a parenthesis or a comma, or the text's end
abbrev pub is_end : ℕ → Bool
is_end b = b == 0 || b == 32 || b == 40 || b == 41 || b == 44

-- no token goes on into this text
abbrev pub Ends : List ℕ → Type 0
Ends rest = is_end (slice_index rest 0) ≡ true

end_word : (b : ℕ) → is_end b ≡ true → goes_on b ≡ false
end_word b e = grind (arith, nat_tests)

end_digits : (b : ℕ) → is_end b ≡ true → is_ascii_digit b ≡ false
end_digits b e = grind (arith, nat_tests)

end_quote : (b : ℕ) → is_end b ≡ true → (b == 39) ≡ false
end_quote b e = grind (arith, nat_tests)

-- ---- tokens cut from the front

skipped : (z rest : List ℕ) → tokens_from (length z) 0 (z ++ rest) ≡ tokens_from 0 0 rest
skipped [] rest = refl
skipped (b ∷ z) rest = skipped z rest

-- a token of these bytes stands in front
pub cut : (b : ℕ) (z rest : List ℕ) (tok : Token) → is_blank b ≡ false → counted tok 0 ≡ 0 → token 0 (b ∷ (z ++ rest)) ≡ (tok, length (b ∷ z)) → lexed (b ∷ (z ++ rest)) ≡ (length (b ∷ (z ++ rest)), tok) ∷ lexed rest
cut b z rest tok blank few e =
    let n : suc (length z) - 1 ≡ length z = omega arith in
    rw (blank, e, few, n, skipped z rest) refl

module _ (p : ℕ → Bool) where
  prefix_by : (b : ℕ) (z rest : List ℕ) (v : Bool) → p b ≡ v → (v && list_all p z) ≡ true → (list_all p z ≡ true → prefix_len p (z ++ rest) ≡ length z) → cond v (1 + prefix_len p (z ++ rest)) 0 ≡ suc (length z)
  prefix_by b z rest true e all ih = let same = ih all in omega arith
  prefix_by b z rest false e all ih = absurd (cc)

  pub prefix_whole : (z rest : List ℕ) → list_all p z ≡ true → p (slice_index rest 0) ≡ false → prefix_len p (z ++ rest) ≡ length z
  prefix_whole [] [] all stop = refl
  prefix_whole [] (c ∷ rest) all stop = rw stop refl
  prefix_whole (b ∷ z) rest all stop = prefix_by b z rest (p b) refl all (λ more. prefix_whole z rest more stop)

pub take_front : (z rest : List ℕ) → take (length z) (z ++ rest) ≡ z
take_front [] [] = refl
take_front [] (b ∷ rest) = refl
take_front (b ∷ z) rest = ap (λ u. b ∷ u) (take_front z rest)

-- ---- signs

pub open_cut : (rest : List ℕ) → lexed (40 ∷ rest) ≡ (length (40 ∷ rest), t.Fixed w.Open) ∷ lexed rest
unfolding token sign
open_cut rest = refl

pub close_cut : (rest : List ℕ) → lexed (41 ∷ rest) ≡ (length (41 ∷ rest), t.Fixed w.Close) ∷ lexed rest
unfolding token sign
close_cut rest = refl

pub comma_cut : (rest : List ℕ) → lexed (44 ∷ rest) ≡ (length (44 ∷ rest), t.Fixed w.Comma) ∷ lexed rest
unfolding token sign
comma_cut rest = refl

-- ---- words and names

both : (a b : Bool) → (a && b) ≡ true → (a ≡ true) × (b ≡ true)
both true b e = (refl, e)
both false b e = absurd (cc)

on_quote : (b : ℕ) → goes_on b ≡ true → (b == 39) ≡ false
on_quote b e = grind (arith, nat_tests)

letter_on : (b : ℕ) → is_ascii_alphabetic b ≡ true → goes_on b ≡ true
letter_on b e = grind (arith, nat_tests)

letter_blank : (b : ℕ) → is_ascii_alphabetic b ≡ true → is_blank b ≡ false
letter_blank b e = grind (arith, nat_tests)

-- no quote stands directly behind the first letter
second : (b : ℕ) (z rest : List ℕ) → list_all goes_on z ≡ true → Ends rest → (slice_index (b ∷ (z ++ rest)) 1 == 39) ≡ false
second b [] [] all ends = refl
second b [] (c ∷ rest) all ends = end_quote c ends
second b (c ∷ z) rest all ends = on_quote c (both (goes_on c) (list_all goes_on z) all).0

word_token : (b : ℕ) (z rest : List ℕ) → is_ascii_alphabetic b ≡ true → list_all goes_on z ≡ true → Ends rest → token 0 (b ∷ (z ++ rest)) ≡ (named (b ∷ z), length (b ∷ z))
unfolding token lettered
word_token b z rest letter all ends =
    let whole : list_all goes_on (b ∷ z) ≡ true = rw (letter_on b letter) all in
    let n : prefix_len goes_on (b ∷ (z ++ rest)) ≡ length (b ∷ z) = prefix_whole goes_on (b ∷ z) rest whole (end_word (slice_index rest 0) ends) in
    rw (letter, second b z rest all ends, n, take_front (b ∷ z) rest) refl

pub word_cut : (b : ℕ) (z rest : List ℕ) (tok : Token) → is_ascii_alphabetic b ≡ true → list_all goes_on z ≡ true → named (b ∷ z) ≡ tok → counted tok 0 ≡ 0 → Ends rest → lexed (b ∷ (z ++ rest)) ≡ (length (b ∷ (z ++ rest)), tok) ∷ lexed rest
word_cut b z rest tok letter all same few ends = cut b z rest tok (letter_blank b letter) few (word_token b z rest letter all ends ∙ ap (λ u. (u, length (b ∷ z))) same)

-- ---- numbers

digit_blank : (b : ℕ) → is_ascii_digit b ≡ true → is_blank b ≡ false
digit_blank b e = grind (arith, nat_tests)

digit_letter : (b : ℕ) → is_ascii_digit b ≡ true → is_ascii_alphabetic b ≡ false
digit_letter b e = grind (arith, nat_tests)

digits_token : (b : ℕ) (z rest : List ℕ) → list_all is_ascii_digit (b ∷ z) ≡ true → Ends rest → token 0 (b ∷ (z ++ rest)) ≡ (t.Number (b ∷ z), length (b ∷ z))
unfolding token
digits_token b z rest all ends =
    let d = (both (is_ascii_digit b) (list_all is_ascii_digit z) all).0 in
    let n : prefix_len is_ascii_digit (b ∷ (z ++ rest)) ≡ length (b ∷ z) = prefix_whole is_ascii_digit (b ∷ z) rest all (end_digits (slice_index rest 0) ends) in
    rw (digit_letter b d, n, d, take_front (b ∷ z) rest) refl

pub digits_cut : (z rest : List ℕ) → 0 < length z → list_all is_ascii_digit z ≡ true → Ends rest → lexed (z ++ rest) ≡ (length (z ++ rest), t.Number z) ∷ lexed rest
digits_cut [] rest some all ends = absurd (omega arith)
digits_cut (b ∷ z) rest some all ends = cut b z rest (t.Number (b ∷ z)) (digit_blank b (both (is_ascii_digit b) (list_all is_ascii_digit z) all).0) refl (digits_token b z rest all ends)

some_digits : (n : ℕ) → (suc n == 0) ≡ false
some_digits n = grind (arith, nat_tests)

minus_token : (b : ℕ) (z rest : List ℕ) → list_all is_ascii_digit (b ∷ z) ≡ true → Ends rest → token 0 (45 ∷ b ∷ (z ++ rest)) ≡ (t.Minus (Some (45 ∷ b ∷ z)), 1)
unfolding token
minus_token b z rest all ends =
    let n : prefix_len is_ascii_digit (b ∷ (z ++ rest)) ≡ suc (length z) = prefix_whole is_ascii_digit (b ∷ z) rest all (end_digits (slice_index rest 0) ends) in
    let m : suc (length z) + 1 ≡ suc (suc (length z)) = omega arith in
    rw (n, some_digits (length z), m, take_front z rest) refl

pub minus_cut : (z rest : List ℕ) → 0 < length z → list_all is_ascii_digit z ≡ true → Ends rest → lexed (45 ∷ (z ++ rest)) ≡ (length (45 ∷ (z ++ rest)), t.Minus (Some (45 ∷ z))) ∷ lexed (z ++ rest)
minus_cut [] rest some all ends = absurd (omega arith)
minus_cut (b ∷ z) rest some all ends = cut 45 [] (b ∷ (z ++ rest)) (t.Minus (Some (45 ∷ b ∷ z))) refl refl (minus_token b z rest all ends)

-- ---- texts

closes_by : (b at : ℕ) (z rest : List ℕ) (v : Bool) → (b == 39) ≡ v → closing false at (cond v (39 ∷ 39 ∷ doubled z) (b ∷ doubled z) ++ 39 ∷ rest) ≡ cond v (closing false (at + 1 + 1) (doubled z ++ 39 ∷ rest)) (closing false (at + 1) (doubled z ++ 39 ∷ rest))
closes_by b at z rest true e = refl
closes_by b at z rest false e = rw e refl

closes : (z rest : List ℕ) (at : ℕ) → (slice_index rest 0 == 39) ≡ false → closing false at (doubled z ++ 39 ∷ rest) ≡ Some (at + length (doubled z))
closes [] rest at e = let same : at + 0 ≡ at = omega arith in rw (e, same) refl
closes (b ∷ z) rest at e = closes_by b at z rest (b == 39) refl ∙ on (b == 39) (closes z rest (at + 1 + 1) e) (closes z rest (at + 1) e)
  where
    on : (v : Bool) → closing false (at + 1 + 1) (doubled z ++ 39 ∷ rest) ≡ Some (at + 1 + 1 + length (doubled z)) → closing false (at + 1) (doubled z ++ 39 ∷ rest) ≡ Some (at + 1 + length (doubled z))
        → cond v (closing false (at + 1 + 1) (doubled z ++ 39 ∷ rest)) (closing false (at + 1) (doubled z ++ 39 ∷ rest)) ≡ Some (at + length (cond v (39 ∷ 39 ∷ doubled z) (b ∷ doubled z)))
    on true two one = let same : at + 1 + 1 + length (doubled z) ≡ at + suc (suc (length (doubled z))) = omega arith in two ∙ ap (λ n. Some n) same
    on false two one = let same : at + 1 + length (doubled z) ≡ at + suc (length (doubled z)) = omega arith in one ∙ ap (λ n. Some n) same

text_token : (z rest : List ℕ) → Ends rest → token 0 (39 ∷ (doubled z ++ 39 ∷ rest)) ≡ (t.Text (doubled z), length (doubled z) + 2)
unfolding token
text_token z rest ends =
    let e : closing false 0 (doubled z ++ 39 ∷ rest) ≡ Some (0 + length (doubled z)) = closes z rest 0 (end_quote (slice_index rest 0) ends) in
    let n : 0 + length (doubled z) ≡ length (doubled z) = omega arith in
    rw (e, n, take_front (doubled z) (39 ∷ rest)) refl

pub text_cut : (z rest : List ℕ) → Ends rest → lexed (39 ∷ ((doubled z ++ 39 ∷ []) ++ rest)) ≡ (length (39 ∷ ((doubled z ++ 39 ∷ []) ++ rest)), t.Text (doubled z)) ∷ lexed rest
text_cut z rest ends =
    let n : length (doubled z) + 2 ≡ length (39 ∷ (doubled z ++ 39 ∷ [])) = omega (arith, length-append (doubled z) (39 ∷ [])) in
    let same : (doubled z ++ 39 ∷ []) ++ rest ≡ doubled z ++ 39 ∷ rest = append_assoc (doubled z) (39 ∷ []) rest in
    cut 39 (doubled z ++ 39 ∷ []) rest (t.Text (doubled z)) refl refl (ap (λ u. token 0 (39 ∷ u)) same ∙ text_token z rest ends ∙ ap (λ k. (t.Text (doubled z), k)) n)

-- ---- bytes

hex_quote : (b : ℕ) → is_ascii_hexdigit b ≡ true → not (b == 39) ≡ true
hex_quote b e = grind (arith, nat_tests)

no_quotes : (z : List ℕ) → list_all is_ascii_hexdigit z ≡ true → list_all (λ b. not (b == 39)) z ≡ true
no_quotes [] all = refl
no_quotes (b ∷ z) all =
    let k = both (is_ascii_hexdigit b) (list_all is_ascii_hexdigit z) all in
    rw (hex_quote b k.0) (no_quotes z k.1)

behind : (n m : ℕ) → n < m → nat_lt n m ≡ true
behind n m less = grind (arith, nat_tests)

quote_after : (z rest : List ℕ) → list_all is_ascii_hexdigit z ≡ true → position (λ b. b == 39) (z ++ 39 ∷ rest) ≡ Some (length z)
quote_after z rest all =
    let n : prefix_len (λ b. not (b == 39)) (z ++ 39 ∷ rest) ≡ length z = prefix_whole (λ b. not (b == 39)) z (39 ∷ rest) (no_quotes z all) refl in
    let less : length z < length (z ++ 39 ∷ rest) = omega (arith, length-append z (39 ∷ rest)) in
    rw (n, behind (length z) (length (z ++ 39 ∷ rest)) less) refl

bytes_token : (z rest : List ℕ) → length z % 2 ≡ 0 → list_all is_ascii_hexdigit z ≡ true → token 0 (88 ∷ 39 ∷ (z ++ 39 ∷ rest)) ≡ (t.Bytes z, length z + 3)
unfolding token lettered
bytes_token z rest even all = rw (quote_after z rest all, take_front z (39 ∷ rest), even, all) refl

pub bytes_cut : (z rest : List ℕ) → length z % 2 ≡ 0 → list_all is_ascii_hexdigit z ≡ true → lexed (88 ∷ 39 ∷ ((z ++ 39 ∷ []) ++ rest)) ≡ (length (88 ∷ 39 ∷ ((z ++ 39 ∷ []) ++ rest)), t.Bytes z) ∷ lexed rest
bytes_cut z rest even all =
    let n : length z + 3 ≡ length (88 ∷ 39 ∷ (z ++ 39 ∷ [])) = omega (arith, length-append z (39 ∷ [])) in
    let same : (z ++ 39 ∷ []) ++ rest ≡ z ++ 39 ∷ rest = append_assoc z (39 ∷ []) rest in
    cut 88 (39 ∷ (z ++ 39 ∷ [])) rest (t.Bytes z) refl refl (ap (λ u. token 0 (88 ∷ 39 ∷ u)) same ∙ bytes_token z rest even all ∙ ap (λ k. (t.Bytes z, k)) n)
