-- Each token is spelled as plain words say.
use Rattle.std.proofs.Common.{◌≡◌, ◌≢◌, ◌⊎◌, inl, inr, ℕ, zero, suc, ◌+◌, ◌-◌, ◌≤◌, ◌<◌, ◌%◌, Bool, true, false, cond, not, ◌&&◌, ◌||◌, List, [], ◌∷◌, ◌++◌, length, take, drop, map, Option, Some, None, slice_index, refl, sym, ap, ◌∙◌, subst, arith, position, find, length-drop}
use Rattle.std.specs.Prelude.{◌==◌, nat_le, nat_lt}
use Rattle.std.specs.Char.{is_ascii_digit, is_ascii_alphabetic, is_ascii_hexdigit, eq_ignore_ascii_case, to_ascii_lowercase, to_ascii_uppercase}
use Rattle.std.specs.Int.{is_in_range}
use Rattle.std.specs.Cmp.Lexicographic.{same_text, other_text}
use Rattle.std.specs.List.{prefix_len, list_all, list_any}
use Rattle.std.proofs.lemmas.Bool.Decides.{nat_tests}
use Rattle.std.proofs.lemmas.List.{take-append-drop}
use Rattle.std.proofs.lemmas.List.Folds.{length-prefix_len}
use Rattle.std.proofs.lemmas.Str.Ascii.{lowercase-uppercase}
use Rattle.std.proofs.Math.Seq.{take-append_seam}
use Rattle.sql_lex.specs.Spelling.{capitals, doubled, sign_of, Lengthens, IsSpelled, AllSpelled}
use Rattle.sql_lex.specs.Terminal.{spelling, words, is_same}
use Rattle.sql_lex.specs.Tokens.{Lexeme, token, tokens, tokens_from, is_blank, goes_on, is_spelled, closing, is_pairs, counted}
use Rattle.sql_lex.specs.declared.terminal.Terminal.{Terminal}
use Rattle.sql_lex.specs.declared.terminal.Terminal.TheVariants as w
use Rattle.sql_lex.specs.declared.token.Comparison.{Comparison}
use Rattle.sql_lex.specs.declared.token.Comparison.TheVariants as is
use Rattle.sql_lex.specs.declared.token.Token.{Token}
use Rattle.sql_lex.specs.declared.token.Token.TheVariants as t
use Rattle.sql_lex.proofs.Cases.{cut_token}
use Rattle.sql_lex.proofs.Parts.{Rests, tail_rests}
use Rattle.sql_lex.proofs.Terminals.{same_is}

-- ---- numbers and tests

pub same_number : (a b : ℕ) → (a == b) ≡ true → a ≡ b
same_number a b e = grind (arith, nat_tests)

pub other_number : (a b : ℕ) → (a == b) ≡ false → a ≢ b
other_number a b e h = grind (arith, nat_tests)

both : (a b : Bool) → (a && b) ≡ true → (a ≡ true) × (b ≡ true)
both true b e = (refl, e)
both false b e = absurd (cc)

letters : (d u l f : Bool) → (u || l) ≡ true → (((d || u) || l) || f) ≡ true
letters true u l f e = refl
letters false true l f e = refl
letters false false true f e = refl
letters false false false f e = absurd (cc)

letter_goes_on : (b : ℕ) → is_ascii_alphabetic b ≡ true → goes_on b ≡ true
letter_goes_on b e = letters (is_in_range 48 57 b) (is_in_range 65 90 b) (is_in_range 97 122 b) (b == 95) e

letter_above : (c : ℕ) → is_ascii_alphabetic c ≡ true → 65 ≤ to_ascii_uppercase c
letter_above c e = grind (arith, nat_tests)

pub uppercase-lowercase : (c : ℕ) → to_ascii_uppercase (to_ascii_lowercase c) ≡ to_ascii_uppercase c
uppercase-lowercase c = grind (arith, nat_tests)

pub lower_capitals : (z : List ℕ) → map to_ascii_lowercase (map to_ascii_uppercase z) ≡ map to_ascii_lowercase z
lower_capitals [] = refl
lower_capitals (b ∷ z) = let e = lower_capitals z in rw (lowercase-uppercase b, e) refl

pub capitals_lower : (z : List ℕ) → map to_ascii_uppercase (map to_ascii_lowercase z) ≡ map to_ascii_uppercase z
capitals_lower [] = refl
capitals_lower (b ∷ z) = let e = capitals_lower z in rw (uppercase-lowercase b, e) refl

-- ---- what stands before the first byte that fails a test

module _ (p : ℕ → Bool) where
  all_by : (b : ℕ) (z : List ℕ) (v : Bool) → p b ≡ v → list_all p (take (prefix_len p z) z) ≡ true → list_all p (take (cond v (1 + prefix_len p z) 0) (b ∷ z)) ≡ true
  all_by b z true e ih = let n : 1 + prefix_len p z ≡ suc (prefix_len p z) = omega arith in rw (n, e) ih
  all_by b z false e ih = refl

  prefix_all : (z : List ℕ) → list_all p (take (prefix_len p z) z) ≡ true
  prefix_all [] = refl
  prefix_all (b ∷ z) = all_by b z (p b) refl (prefix_all z)

  stops_by : (b : ℕ) (z : List ℕ) (v : Bool) → p b ≡ v → p (slice_index (drop (prefix_len p z) z) 0) ≡ false → p (slice_index (drop (cond v (1 + prefix_len p z) 0) (b ∷ z)) 0) ≡ false
  stops_by b z true e ih = let n : 1 + prefix_len p z ≡ suc (prefix_len p z) = omega arith in rw n ih
  stops_by b z false e ih = e

  prefix_stops : p 0 ≡ false → (z : List ℕ) → p (slice_index (drop (prefix_len p z) z) 0) ≡ false
  prefix_stops none [] = none
  prefix_stops none (b ∷ z) = stops_by b z (p b) refl (prefix_stops none z)

  fails_by : (b : ℕ) (z : List ℕ) (v : Bool) → p b ≡ v → (prefix_len p z < length z → p (slice_index (drop (prefix_len p z) z) 0) ≡ false)
      → cond v (1 + prefix_len p z) 0 < length (b ∷ z) → p (slice_index (drop (cond v (1 + prefix_len p z) 0) (b ∷ z)) 0) ≡ false
  fails_by b z true e ih within = let n : 1 + prefix_len p z ≡ suc (prefix_len p z) = omega arith in let less : prefix_len p z < length z = omega arith in rw n (ih less)
  fails_by b z false e ih within = e

  prefix_fails : (z : List ℕ) → prefix_len p z < length z → p (slice_index (drop (prefix_len p z) z) 0) ≡ false
  prefix_fails [] within = absurd (omega arith)
  prefix_fails (b ∷ z) within = fails_by b z (p b) refl (prefix_fails z) within

  some_prefix : (b : ℕ) (z : List ℕ) → p b ≡ true → 1 ≤ prefix_len p (b ∷ z)
  some_prefix b z e = rw e (omega arith)

  first_kept : (b : ℕ) (z : List ℕ) → p b ≡ true → slice_index (take (prefix_len p (b ∷ z)) (b ∷ z)) 0 ≡ b
  first_kept b z e = let n : 1 + prefix_len p z ≡ suc (prefix_len p z) = omega arith in rw (e, n) refl

  digits_there : (b : ℕ) (z : List ℕ) → p b ≡ true → 1 ≤ length (take (prefix_len p (b ∷ z)) (b ∷ z))
  digits_there b z e = omega (arith, length-prefix_len p (b ∷ z), some_prefix b z e)

-- ---- words

module _ {X : Type 0} (p : X → Bool) where
  holds_by : (y x : X) (o : Option X) (v : Bool) → p y ≡ v → (o ≡ Some x → p x ≡ true) → cond v (Some y) o ≡ Some x → p x ≡ true
  holds_by y x o true h ih e = let s : y ≡ x = cc in let P : X → Type 0 = λ u. p u ≡ true in subst P s h
  holds_by y x o false h ih e = ih e

  find_holds : (xs : List X) (x : X) → find p xs ≡ Some x → p x ≡ true
  find_holds [] x e = absurd (cc)
  find_holds (y ∷ ys) x e = holds_by y x (find p ys) (p y) refl (find_holds ys x) e

  none_by : (y : X) (o : Option X) (v : Bool) → cond v (Some y) o ≡ None → (v ≡ false) × (o ≡ None)
  none_by y o true e = absurd (cc)
  none_by y o false e = (refl, e)

among_by : (p : Terminal → Bool) (y v : Terminal) (b : Bool) (more : Bool) → is_same y v ≡ b → p y ≡ false → (more ≡ true → p v ≡ false) → (b || more) ≡ true → p v ≡ false
among_by p y v true more s h ih e = let P : Terminal → Type 0 = λ u. p u ≡ false in subst P (same_is y v s) h
among_by p y v false more s h ih e = ih e

-- none of these words passes
none_among : (p : Terminal → Bool) (xs : List Terminal) (v : Terminal) → find p xs ≡ None → list_any (λ u. is_same u v) xs ≡ true → p v ≡ false
none_among p [] v e h = absurd (cc)
none_among p (y ∷ ys) v e h =
    let n = none_by p y (find p ys) (p y) e in
    among_by p y v (is_same y v) (list_any (λ u. is_same u v) ys) refl n.0 (none_among p ys v n.1) h

own_capitals : (v : Terminal) → capitals (spelling v) ≡ spelling v
own_capitals w.Create = refl
own_capitals w.Table = refl
own_capitals w.Primary = refl
own_capitals w.Key = refl
own_capitals w.Not = refl
own_capitals w.Null = refl
own_capitals w.SmallInt = refl
own_capitals w.Integer = refl
own_capitals w.Int = refl
own_capitals w.BigInt = refl
own_capitals w.VarChar = refl
own_capitals w.VarBinary = refl
own_capitals w.Insert = refl
own_capitals w.Into = refl
own_capitals w.Values = refl
own_capitals w.Update = refl
own_capitals w.Set = refl
own_capitals w.Where = refl
own_capitals w.Delete = refl
own_capitals w.From = refl
own_capitals w.Select = refl
own_capitals w.Or = refl
own_capitals w.And = refl
own_capitals w.Is = refl
own_capitals w.Open = refl
own_capitals w.Close = refl
own_capitals w.Comma = refl
own_capitals w.Star = refl
own_capitals w.Plus = refl

spelled_capitals : (y : List ℕ) (v : Terminal) → is_spelled y v ≡ true → capitals y ≡ spelling v
spelled_capitals y v e =
    let low : map to_ascii_lowercase y ≡ map to_ascii_lowercase (spelling v) = same_text _ _ (sym e) in
    sym (capitals_lower y) ∙ ap (λ u. map to_ascii_uppercase u) low ∙ capitals_lower (spelling v) ∙ own_capitals v

not_spelled : (y : List ℕ) (v : Terminal) → is_spelled y v ≡ false → capitals y ≢ spelling v
not_spelled y v e same =
    let low : map to_ascii_lowercase y ≡ map to_ascii_lowercase (spelling v) = sym (lower_capitals y) ∙ ap (λ u. map to_ascii_lowercase u) same in
    other_text _ _ (sym e) low

-- a sign begins with no letter
no_sign : (y : List ℕ) (s : ℕ) → is_ascii_alphabetic (slice_index y 0) ≡ true → s < 65 → capitals y ≢ s ∷ []
no_sign [] s letter low e = absurd (cc)
no_sign (c ∷ y) s letter low e = let first : to_ascii_uppercase c ≡ s = cc in omega (arith, letter_above c letter)

module _ (y : List ℕ) (none : find (is_spelled y) words ≡ None) where
  is_none : (v : Terminal) → list_any (λ u. is_same u v) words ≡ true → capitals y ≢ spelling v
  is_none v among = not_spelled y v (none_among (is_spelled y) words v none among)

  no_word : is_ascii_alphabetic (slice_index y 0) ≡ true → (v : Terminal) → capitals y ≢ spelling v
  unfolding words is_same
  no_word letter w.Create = is_none w.Create refl
  no_word letter w.Table = is_none w.Table refl
  no_word letter w.Primary = is_none w.Primary refl
  no_word letter w.Key = is_none w.Key refl
  no_word letter w.Not = is_none w.Not refl
  no_word letter w.Null = is_none w.Null refl
  no_word letter w.SmallInt = is_none w.SmallInt refl
  no_word letter w.Integer = is_none w.Integer refl
  no_word letter w.Int = is_none w.Int refl
  no_word letter w.BigInt = is_none w.BigInt refl
  no_word letter w.VarChar = is_none w.VarChar refl
  no_word letter w.VarBinary = is_none w.VarBinary refl
  no_word letter w.Insert = is_none w.Insert refl
  no_word letter w.Into = is_none w.Into refl
  no_word letter w.Values = is_none w.Values refl
  no_word letter w.Update = is_none w.Update refl
  no_word letter w.Set = is_none w.Set refl
  no_word letter w.Where = is_none w.Where refl
  no_word letter w.Delete = is_none w.Delete refl
  no_word letter w.From = is_none w.From refl
  no_word letter w.Select = is_none w.Select refl
  no_word letter w.Or = is_none w.Or refl
  no_word letter w.And = is_none w.And refl
  no_word letter w.Is = is_none w.Is refl
  no_word letter w.Open = no_sign y 40 letter (omega arith)
  no_word letter w.Close = no_sign y 41 letter (omega arith)
  no_word letter w.Comma = no_sign y 44 letter (omega arith)
  no_word letter w.Star = no_sign y 42 letter (omega arith)
  no_word letter w.Plus = no_sign y 43 letter (omega arith)

-- ---- quotes

-- a text that closes: some text with its quotes doubled, and a quote behind which stands no other
abbrev pub Closes : ℕ → ℕ → List ℕ → Type 0
Closes at k y = (whole : List ℕ) × (rest : List ℕ) × (y ≡ doubled whole ++ 39 ∷ rest) × (slice_index rest 0 ≢ 39) × (k ≡ at + length (doubled whole))

plain_byte : (at k b : ℕ) (y : List ℕ) → (b == 39) ≡ false → Closes (at + 1) k y → Closes at k (b ∷ y)
plain_byte at k b y e (whole, rest, same, single, n) =
    let d : doubled (b ∷ whole) ≡ b ∷ doubled whole = rw e refl in
    (b ∷ whole, rest, rw d (ap (λ u. b ∷ u) same), single, rw d (omega arith))

two_quotes : (at k b c : ℕ) (y : List ℕ) → b ≡ 39 → c ≡ 39 → Closes (at + 1 + 1) k y → Closes at k (b ∷ c ∷ y)
two_quotes at k b c y e f (whole, rest, same, single, n) = (39 ∷ whole, rest, rw (e, f) (ap (λ u. 39 ∷ 39 ∷ u) same), single, omega arith)

by_second : (at k b : ℕ) (y : List ℕ) (second : Bool) → (slice_index y 0 == 39) ≡ second → b ≡ 39 → ((slice_index y 0 == 39) ≡ true → closing true (at + 1) y ≡ Some k → Closes at k (b ∷ y))
    → cond (true && not second) (Some at) (closing true (at + 1) y) ≡ Some k → Closes at k (b ∷ y)
by_second at k b y true s e ih is = ih s is
by_second at k b y false s e ih is =
    let here : k ≡ at = cc in
    ([], y, ap (λ u. u ∷ y) e, other_number (slice_index y 0) 39 s, omega arith)

by_first : (at k b : ℕ) (y : List ℕ) (first : Bool) → (b == 39) ≡ first → (closing false (at + 1) y ≡ Some k → Closes (at + 1) k y) → (b ≡ 39 → (slice_index y 0 == 39) ≡ true → closing true (at + 1) y ≡ Some k → Closes at k (b ∷ y))
    → cond (first && not (slice_index y 0 == 39)) (Some at) (closing first (at + 1) y) ≡ Some k → Closes at k (b ∷ y)
by_first at k b y true f ih ih2 is = by_second at k b y (slice_index y 0 == 39) refl (same_number b 39 f) (ih2 (same_number b 39 f)) is
by_first at k b y false f ih ih2 is = plain_byte at k b y f (ih is)

pub closes : (at k : ℕ) (y : List ℕ) → closing false at y ≡ Some k → Closes at k y
closes at k [] e = absurd (cc)
closes at k (b ∷ []) e = by_first at k b [] (b == 39) refl (λ f. absurd (cc)) (λ f s go. absurd (cc)) e
closes at k (b ∷ c ∷ y) e =
    by_first at k b (c ∷ y) (b == 39) refl (λ f. closes (at + 1) k (c ∷ y) f) (λ f s go. two_quotes at k b c y f (same_number c 39 s) (closes (at + 1 + 1) k y go)) e

-- ---- the token at the front

module _ (m b : ℕ) (y : List ℕ) where
  S : Token → Type 0
  S tok = IsSpelled (b ∷ y) tok

  parted : (n : ℕ) → b ∷ y ≡ take n (b ∷ y) ++ drop n (b ∷ y)
  parted n = sym (take-append-drop n (b ∷ y))

  word_spelled : is_ascii_alphabetic b ≡ true → (v : Terminal) → find (is_spelled (take (prefix_len goes_on (b ∷ y)) (b ∷ y))) words ≡ Some v → S (t.Fixed v)
  unfolding S
  word_spelled letter v e =
      let n = prefix_len goes_on (b ∷ y) in
      (take n (b ∷ y), drop n (b ∷ y), parted n, spelled_capitals (take n (b ∷ y)) v (find_holds (is_spelled (take n (b ∷ y))) words v e), λ _. prefix_stops goes_on refl (b ∷ y))

  name_spelled : is_ascii_alphabetic b ≡ true → find (is_spelled (take (prefix_len goes_on (b ∷ y)) (b ∷ y))) words ≡ None → nat_le (length (take (prefix_len goes_on (b ∷ y)) (b ∷ y))) 30 ≡ true
      → S (t.Name (take (prefix_len goes_on (b ∷ y)) (b ∷ y)))
  unfolding S
  name_spelled letter e short =
      let n = prefix_len goes_on (b ∷ y) in
      let first : is_ascii_alphabetic (slice_index (take n (b ∷ y)) 0) ≡ true = ap is_ascii_alphabetic (first_kept goes_on b y (letter_goes_on b letter)) ∙ letter in
      let small : length (take n (b ∷ y)) ≤ 30 = grind (arith, nat_tests) in
      (drop n (b ∷ y), parted n, prefix_stops goes_on refl (b ∷ y), (first, prefix_all goes_on (b ∷ y), small, no_word (take n (b ∷ y)) e first))

  number_spelled : is_ascii_digit b ≡ true → S (t.Number (take (prefix_len is_ascii_digit (b ∷ y)) (b ∷ y)))
  unfolding S
  number_spelled digit =
      let n = prefix_len is_ascii_digit (b ∷ y) in
      (drop n (b ∷ y), parted n, prefix_stops is_ascii_digit refl (b ∷ y), (digits_there is_ascii_digit b y digit, prefix_all is_ascii_digit (b ∷ y)))

  text_spelled : (b == 39) ≡ true → (n : ℕ) → closing false 0 y ≡ Some n → S (t.Text (take n y))
  unfolding S
  text_spelled quote n e =
      let c = closes 0 n y e in
      let k : n ≡ length (doubled c.0) = omega (arith, c.4) in
      let part : take n y ≡ doubled c.0 = ap (λ i. take i y) k ∙ ap (λ u. take (length (doubled c.0)) u) c.2 ∙ take-append_seam (doubled c.0) (39 ∷ c.1) in
      (c.0, c.1, part, ap (λ u. u ∷ y) (same_number b 39 quote) ∙ ap (λ u. 39 ∷ u) (c.2 ∙ ap (λ u. u ++ 39 ∷ c.1) (sym part)), c.3)

  minus_alone_spelled : (b == 45) ≡ true → (prefix_len is_ascii_digit y == 0) ≡ true → S (t.Minus None)
  unfolding S
  minus_alone_spelled e none =
      let n : prefix_len is_ascii_digit y ≡ 0 = same_number _ 0 none in
      (y, ap (λ u. u ∷ y) (same_number b 45 e), ap (λ k. is_ascii_digit (slice_index (drop k y) 0)) (sym n) ∙ prefix_stops is_ascii_digit refl y)

  minus_digits_spelled : (b == 45) ≡ true → (prefix_len is_ascii_digit y == 0) ≡ false → S (t.Minus (Some (take (prefix_len is_ascii_digit y + 1) (b ∷ y))))
  unfolding S
  minus_digits_spelled e some =
      let n = prefix_len is_ascii_digit y in
      let next : n + 1 ≡ suc n = omega arith in
      let is_some : n ≢ 0 = other_number n 0 some in
      let many : 1 ≤ length (take n y) = omega (arith, length-prefix_len is_ascii_digit y) in
      let part : take (n + 1) (b ∷ y) ≡ b ∷ take n y = ap (λ k. take k (b ∷ y)) next in
      (take n y, drop n y, part ∙ ap (λ u. u ∷ take n y) (same_number b 45 e), (many, prefix_all is_ascii_digit y), ap (λ u. b ∷ u) (sym (take-append-drop n y)) ∙ ap (λ u. u ++ drop n y) (sym part), prefix_stops is_ascii_digit refl y)

  marker_spelled : (b == 63) ≡ true → S (t.Marker m)
  unfolding S
  marker_spelled e = (y, ap (λ u. u ∷ y) (same_number b 63 e))

  -- a sign of one byte
  fixed_sign : (s : ℕ) (v : Terminal) → s < 65 → to_ascii_uppercase s ∷ [] ≡ spelling v → is_ascii_alphabetic s ≡ false → (b == s) ≡ true → S (t.Fixed v)
  unfolding S
  fixed_sign s v low same none e = (s ∷ [], y, ap (λ u. u ∷ y) (same_number b s e), same, λ letter. absurd (cc))

-- a text that begins with X and a quote
pair_of : (b : ℕ) (y : List ℕ) → (slice_index (b ∷ y) 1 == 39) ≡ true → y ≡ 39 ∷ drop 1 y
pair_of b [] e = absurd (cc)
pair_of b (c ∷ y) e = ap (λ u. u ∷ y) (same_number c 39 e)

two_bytes : (b s next : ℕ) (y : List ℕ) → 0 < next → (b == s) ≡ true → (slice_index (b ∷ y) 1 == next) ≡ true → b ∷ y ≡ s ∷ next ∷ drop 1 y
two_bytes b s next [] some e f = let none : 0 ≡ next = same_number 0 next f in absurd (omega arith)
two_bytes b s next (c ∷ y) some e f = let one : b ≡ s = same_number b s e in let two : c ≡ next = same_number c next f in rw (one, two) refl

position_seam : (p : ℕ → Bool) (z : List ℕ) (n : ℕ) → position p z ≡ Some n → (n < length z) × (p (slice_index (drop n z) 0) ≡ true)
position_seam p z n e = by_length (nat_lt (prefix_len (λ x. not (p x)) z) (length z)) refl e
  where
    passes : (v : Bool) → not v ≡ false → v ≡ true
    passes true h = refl
    passes false h = absurd (cc)

    by_length : (v : Bool) → nat_lt (prefix_len (λ x. not (p x)) z) (length z) ≡ v → cond v (Some (prefix_len (λ x. not (p x)) z)) None ≡ Some n → (n < length z) × (p (slice_index (drop n z) 0) ≡ true)
    by_length true h e =
        let k : prefix_len (λ x. not (p x)) z ≡ n = cc in
        let within : prefix_len (λ x. not (p x)) z < length z = grind (arith, nat_tests) in
        (omega arith, ap (λ i. p (slice_index (drop i z) 0)) (sym k) ∙ passes (p (slice_index (drop (prefix_len (λ x. not (p x)) z) z) 0)) (prefix_fails (λ x. not (p x)) z within))
    by_length false h e = absurd (cc)

first_of_rest : (z : List ℕ) → 0 < length z → z ≡ slice_index z 0 ∷ drop 1 z
first_of_rest [] some = absurd (omega arith)
first_of_rest (b ∷ z) some = refl

module _ (m b : ℕ) (y : List ℕ) where
  bytes_spelled : (slice_index (b ∷ y) 1 == 39 && eq_ignore_ascii_case b 88) ≡ true → (n : ℕ) → position (λ c. c == 39) (drop 1 y) ≡ Some n → is_pairs (take n (drop 1 y)) ≡ true → IsSpelled (b ∷ y) (t.Bytes (take n (drop 1 y)))
  bytes_spelled start n e pairs =
      let two = both (slice_index (b ∷ y) 1 == 39) (eq_ignore_ascii_case b 88) start in
      let low : to_ascii_lowercase b ≡ 120 = same_number _ 120 two.1 in
      let x : to_ascii_uppercase b ≡ 88 = sym (uppercase-lowercase b) ∙ ap to_ascii_uppercase low in
      let z = drop 1 y in
      let seam = position_seam (λ c. c == 39) z n e in
      let left : 0 < length (drop n z) = omega (arith, length-drop n z) in
      let tail : drop n z ≡ 39 ∷ drop 1 (drop n z) = first_of_rest (drop n z) left ∙ ap (λ u. u ∷ drop 1 (drop n z)) (same_number _ 39 seam.1) in
      let even = both (length (take n z) % 2 == 0) (list_all is_ascii_hexdigit (take n z)) pairs in
      (b, drop 1 (drop n z), x, ap (λ u. b ∷ u) (pair_of b y two.0) ∙ ap (λ u. b ∷ 39 ∷ u) (sym (take-append-drop n z) ∙ ap (λ u. take n z ++ u) tail), (same_number _ 0 even.0, even.1))

  longer : (c : Comparison) (rest : List ℕ) → b ∷ y ≡ sign_of c ++ rest → (Lengthens c (slice_index rest 0) → ⊥) → IsSpelled (b ∷ y) (t.Compare c)
  longer c rest same alone = (rest, same, alone)

  neither : (n : ℕ) → (n == 61) ≡ false → (n == 62) ≡ false → (n ≡ 61) ⊎ (n ≡ 62) → ⊥
  neither n e f (inl same) = other_number n 61 e same
  neither n e f (inr same) = other_number n 62 f same

  pub token_spelled : IsSpelled (b ∷ y) (token m (b ∷ y)).0
  unfolding S
  token_spelled = cut_token (λ tok. IsSpelled (b ∷ y) tok) m (b ∷ y) (record {
    unknown = tt;
    word = word_spelled m b y;
    name = name_spelled m b y;
    bytes = bytes_spelled;
    number = number_spelled m b y;
    text = text_spelled m b y;
    minus_alone = minus_alone_spelled m b y;
    minus_digits = minus_digits_spelled m b y;
    marker = marker_spelled m b y;
    less_equal = λ e f. longer is.LessEqual (drop 1 y) (two_bytes b 60 61 y (omega arith) e f) (λ h. h);
    not_equal = λ e f. longer is.NotEqual (drop 1 y) (two_bytes b 60 62 y (omega arith) e f) (λ h. h);
    less = λ e f g. longer is.Less y (ap (λ u. u ∷ y) (same_number b 60 e)) (neither (slice_index y 0) f g);
    greater_equal = λ e f. longer is.GreaterEqual (drop 1 y) (two_bytes b 62 61 y (omega arith) e f) (λ h. h);
    greater = λ e f. longer is.Greater y (ap (λ u. u ∷ y) (same_number b 62 e)) (other_number (slice_index y 0) 61 f);
    equal = λ e. longer is.Equal y (ap (λ u. u ∷ y) (same_number b 61 e)) (λ h. h);
    open_sign = fixed_sign m b y 40 w.Open (omega arith) refl refl;
    close_sign = fixed_sign m b y 41 w.Close (omega arith) refl refl;
    comma = fixed_sign m b y 44 w.Comma (omega arith) refl refl;
    star = fixed_sign m b y 42 w.Star (omega arith) refl refl;
    plus = fixed_sign m b y 43 w.Plus (omega arith) refl refl;
  })

-- ---- all tokens

placed : (text z : List ℕ) → Rests text z → drop (length text - length z) text ≡ z
placed text z (k, same, len) = let at : length text - length z ≡ k = omega arith in ap (λ i. drop i text) at ∙ sym same

by_blank : (text : List ℕ) (v : Bool) (l : Lexeme) (xs ys : List Lexeme) → AllSpelled text xs → IsSpelled (drop (length text - l.0) text) l.1 → AllSpelled text ys → AllSpelled text (cond v xs (l ∷ ys))
by_blank text true l xs ys h i j = h
by_blank text false l xs ys h i j = (i, j)

spelled_from : (text : List ℕ) (left m : ℕ) (z : List ℕ) → Rests text z → AllSpelled text (tokens_from left m z)
spelled_from text left m [] r = tt
spelled_from text (suc left) m (b ∷ z) r = spelled_from text left m z (tail_rests text b z r)
spelled_from text zero m (b ∷ z) r =
    let x = token m (b ∷ z) in
    let P : List ℕ → Type 0 = λ u. IsSpelled u x.0 in
    by_blank text (is_blank b) (length (b ∷ z), x.0) (tokens_from 0 m z) (tokens_from (x.1 - 1) (counted x.0 m) z)
    (spelled_from text 0 m z (tail_rests text b z r)) (subst P (sym (placed text (b ∷ z) r)) (token_spelled m b z)) (spelled_from text (x.1 - 1) (counted x.0 m) z (tail_rests text b z r))

pub all_spelled : (text : List ℕ) → AllSpelled text (tokens text)
unfolding tokens
all_spelled text = spelled_from text 0 0 text (0, refl, omega arith)
