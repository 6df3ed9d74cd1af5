-- The bytes of rows, and the rows that are read from them.
use Rattle.std.proofs.Common.{◌≡◌, ℕ, zero, suc, ◌+◌, ◌<◌, ◌≤◌, List, [], ◌∷◌, ◌++◌, length, get_or, take, drop, Bool, true, false, Option, Some, None, refl, sym, ap, subst, ◌∙◌, arith, append_assoc, length-append, lit<}
use Rattle.std.specs.Prelude.{◌^◌, nat_le, if◌then◌else◌}
use Rattle.std.specs.Int.{w16, to_be_bytes}
use Rattle.std.specs.List.{AllByRecursion}
use Rattle.std.proofs.lemmas.Bool.{le-leb, leb-true}
use Rattle.std.proofs.lemmas.Nat.{from_be_bytes-to_be_bytes_2, be_bytes_2}
use Rattle.std.proofs.lemmas.List.{take-append-drop, length-take-le}
use Rattle.std.proofs.Math.Seq.{take-append_seam, drop-append_seam}
use Rattle.drda_words.specs.Number.{word}
use Rattle.drda_words.specs.Bytes.{AreBytes}
use Rattle.drda_words.proofs.Bytes.{rest_are_bytes}
use Rattle.row_pages.specs.Page.{row_bytes, rows_bytes}
use Rattle.row_pages.specs.Reading.{row_at, has_rows, has_behind, with_first, rows_in, rest_of, behind_rows}

-- ---- what is written is read

abbrev cut_if : Bool → ℕ → List ℕ → Option (List ℕ × List ℕ)
cut_if b n bytes = if b then Some (take n bytes, drop n bytes) else None

abbrev cut : ℕ → List ℕ → Option (List ℕ × List ℕ)
cut n bytes = cut_if (nat_le n (length bytes)) n bytes

cut_back : (row more : List ℕ) → cut (length row) (row ++ more) ≡ Some (row, more)
cut_back row more =
    let fits : length row ≤ length (row ++ more) = omega (arith, length-append row more) in
    ap (λ b. cut_if b (length row) (row ++ more)) (le-leb (length row) (length (row ++ more)) fits)
    ∙ ap (λ (x : List ℕ). Some (x, drop (length row) (row ++ more))) (take-append_seam row more)
    ∙ ap (λ (x : List ℕ). Some (row, x)) (drop-append_seam row more)

row_written : (row more : List ℕ) → length row < 2 ^ 16 → row_at (row_bytes row ++ more) ≡ Some (row, more)
unfolding row_at
row_written row more small = ap (λ n. cut n (row ++ more)) (from_be_bytes-to_be_bytes_2 (length row) small) ∙ cut_back row more

abbrev pub AreShort : List (List ℕ) → Type 0
AreShort rows = AllByRecursion (λ row. length row < 2 ^ 16) rows

next_row : (row : List ℕ) (rows : List (List ℕ)) (rest : List ℕ) → length row < 2 ^ 16 → row_at (rows_bytes (row ∷ rows) ++ rest) ≡ Some (row, rows_bytes rows ++ rest)
next_row row rows rest small = ap row_at (append_assoc (row_bytes row) (rows_bytes rows) rest) ∙ row_written row (rows_bytes rows ++ rest) small

pub has_written : (rows : List (List ℕ)) (rest : List ℕ) → AreShort rows → has_rows (length rows) (rows_bytes rows ++ rest) ≡ true
has_written [] rest short = refl
has_written (row ∷ rows) rest short = ap (λ o. has_behind o (has_rows (length rows))) (next_row row rows rest short.0) ∙ has_written rows rest short.1

pub rows_written : (rows : List (List ℕ)) (rest : List ℕ) → AreShort rows → rows_in (length rows) (rows_bytes rows ++ rest) ≡ rows
rows_written [] rest short = refl
rows_written (row ∷ rows) rest short = ap (λ o. with_first o (rows_in (length rows))) (next_row row rows rest short.0) ∙ ap (λ (x : List (List ℕ)). row ∷ x) (rows_written rows rest short.1)

pub behind_written : (rows : List (List ℕ)) (rest : List ℕ) → AreShort rows → behind_rows (length rows) (rows_bytes rows ++ rest) ≡ rest
behind_written [] rest short = refl
behind_written (row ∷ rows) rest short = ap (λ o. rest_of o (rows_bytes (row ∷ rows) ++ rest) (behind_rows (length rows))) (next_row row rows rest short.0) ∙ behind_written rows rest short.1

-- ---- what is read was written

pair : (a b : ℕ) → a < 256 → b < 256 → (i : ℕ) → get_or (a ∷ b ∷ []) i 0 < 256
pair a b p q zero = p
pair a b p q (suc zero) = q
pair a b p q (suc (suc i)) = lit< tt

pub number_written : (high low n : ℕ) → high < 256 → low < 256 → n ≡ word high low → to_be_bytes w16 n ≡ high ∷ low ∷ []
number_written high low n p q e = be_bytes_2 (high ∷ low ∷ []) n refl (pair high low p q) e

abbrev row_in : Option (List ℕ × List ℕ) → List ℕ
row_in None = []
row_in (Some x) = x.0

abbrev rest_in : Option (List ℕ × List ℕ) → List ℕ
rest_in None = []
rest_in (Some x) = x.1

cut_is : (high low : ℕ) (bytes row rest : List ℕ) → AreBytes (high ∷ low ∷ bytes) → (b : Bool) → nat_le (word high low) (length bytes) ≡ b
    → cut_if b (word high low) bytes ≡ Some (row, rest) → high ∷ low ∷ bytes ≡ row_bytes row ++ rest
cut_is high low bytes row rest all false fits e = absurd cc
cut_is high low bytes row rest all true fits e =
    let n = word high low in
    let le : n ≤ length bytes = leb-true n (length bytes) fits in
    let front : take n bytes ≡ row = ap row_in e in
    let back : drop n bytes ≡ rest = ap rest_in e in
    let size : length row ≡ n = ap length (sym front) ∙ length-take-le n bytes le in
    let head : to_be_bytes w16 (length row) ≡ high ∷ low ∷ [] = number_written high low (length row) (all 0) (all 1) size in
    let whole : bytes ≡ row ++ rest = sym (take-append-drop n bytes) ∙ ap (λ (x : List ℕ). x ++ drop n bytes) front ∙ ap (λ (x : List ℕ). row ++ x) back in
    ap (λ (x : List ℕ). high ∷ low ∷ x) whole ∙ ap (λ (x : List ℕ). (x ++ row) ++ rest) (sym head)

cut_to : (high low : ℕ) (bytes row rest : List ℕ) (b : Bool) → nat_le (word high low) (length bytes) ≡ b → cut_if b (word high low) bytes ≡ Some (row, rest)
    → (rest ≡ drop (suc (suc (length row))) (high ∷ low ∷ bytes)) × (suc (suc (length row)) ≤ length (high ∷ low ∷ bytes))
cut_to high low bytes row rest false fits e = absurd cc
cut_to high low bytes row rest true fits e =
    let n = word high low in
    let le : n ≤ length bytes = leb-true n (length bytes) fits in
    let front : take n bytes ≡ row = ap row_in e in
    let size : length row ≡ n = ap length (sym front) ∙ length-take-le n bytes le in
    (sym (ap rest_in e) ∙ ap (λ (k : ℕ). drop k bytes) (sym size), omega (arith, le, size))

-- what follows a row stands behind its bytes
pub row_cut : (bytes row rest : List ℕ) → row_at bytes ≡ Some (row, rest) → (rest ≡ drop (suc (suc (length row))) bytes) × (suc (suc (length row)) ≤ length bytes)
unfolding row_at
row_cut [] row rest e = absurd cc
row_cut (a ∷ []) row rest e = absurd cc
row_cut (high ∷ low ∷ bytes) row rest e = cut_to high low bytes row rest (nat_le (word high low) (length bytes)) refl e

pub row_read : (bytes row rest : List ℕ) → AreBytes bytes → row_at bytes ≡ Some (row, rest) → bytes ≡ row_bytes row ++ rest
unfolding row_at
row_read [] row rest all e = absurd cc
row_read (a ∷ []) row rest all e = absurd cc
row_read (high ∷ low ∷ bytes) row rest all e = cut_is high low bytes row rest all (nat_le (word high low) (length bytes)) refl e

pub record WasWritten (n : ℕ) (bytes : List ℕ) : Type 0 where
  pub count : length (rows_in n bytes) ≡ n
  pub same : bytes ≡ rows_bytes (rows_in n bytes) ++ behind_rows n bytes

pub rows_read : (n : ℕ) (bytes : List ℕ) → AreBytes bytes → has_rows n bytes ≡ true → WasWritten n bytes
rows_read zero bytes all has = record { count = refl; same = refl }
rows_read (suc n) bytes all has = by_first (rows_read n) (row_at bytes) refl has
  where
    by_first : ((rest : List ℕ) → AreBytes rest → has_rows n rest ≡ true → WasWritten n rest) → (o : Option (List ℕ × List ℕ)) → row_at bytes ≡ o → has_behind o (has_rows n) ≡ true → WasWritten (suc n) bytes
    by_first past None is none = absurd cc
    by_first past (Some x) is more =
        let first : bytes ≡ row_bytes x.0 ++ x.1 = row_read bytes x.0 x.1 all is in
        let behind : WasWritten n x.1 = past x.1 (rest_are_bytes (row_bytes x.0) x.1 (subst AreBytes first all)) more in
        let rows : rows_in (suc n) bytes ≡ x.0 ∷ rows_in n x.1 = ap (λ o. with_first o (rows_in n)) is in
        let rest : behind_rows (suc n) bytes ≡ behind_rows n x.1 = ap (λ o. rest_of o bytes (behind_rows n)) is in
        record {
          count = ap length rows ∙ ap suc behind.count;
          same =
              first
              ∙ ap (λ (y : List ℕ). row_bytes x.0 ++ y) behind.same
              ∙ sym (append_assoc (row_bytes x.0) (rows_bytes (rows_in n x.1)) (behind_rows n x.1))
              ∙ ap (λ (y : List (List ℕ)). rows_bytes y ++ behind_rows n x.1) (sym rows)
              ∙ ap (λ (y : List ℕ). rows_bytes (rows_in (suc n) bytes) ++ y) (sym rest);
        }

-- ---- rows in a page are short

pub short_below : (rows : List (List ℕ)) (most : ℕ) → most < 2 ^ 16 → length (rows_bytes rows) ≤ most → AreShort rows
short_below [] most small le = tt
short_below (row ∷ rows) most small le =
    let all = length-append (row_bytes row) (rows_bytes rows) in
    let one : length (row_bytes row) ≡ 2 + length row = omega arith in
    (omega (arith, all, one, small, le), short_below rows most small (omega (arith, all, one, le)))
