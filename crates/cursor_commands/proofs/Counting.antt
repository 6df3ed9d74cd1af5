-- How many rows a block has: as many as the definition counts, and no other number.
use Rattle.std.proofs.Common.{◌≡◌, ◌≤◌, ◌<◌, ℕ, zero, suc, ◌-◌, Bool, true, false, nat_le, List, [], ◌∷◌, length, map, take, drop, max, min, refl, arith, length-append, if◌then◌else◌}
use Rattle.std.specs.List.{flat_map}
use Rattle.std.proofs.lemmas.List.{length-map}
use borrow.Author.Tests.{leb-true, leb-false}
use Rattle.tables.specs.RowList.{RowList}
use Rattle.sqlam_replies.specs.Rows.{IsBlock, answered}
use Rattle.cursor_commands.specs.Blocks.{fitting, rows_in_block}

within : {X : Type 0} (f : X → List ℕ) (xs : List X) (size : ℕ) → fitting (map f xs) size ≤ length xs
within f [] size = omega arith
within f (x ∷ xs) size = by (nat_le (length (f x)) size) (within f xs (size - length (f x)))
  where
    by : (b : Bool) → fitting (map f xs) (size - length (f x)) ≤ length xs → (if b then suc (fitting (map f xs) (size - length (f x))) else 0) ≤ length (x ∷ xs)
    by true rest = omega (arith, rest)
    by false rest = omega arith

fit : {X : Type 0} (f : X → List ℕ) (xs : List X) (size : ℕ) → length (flat_map f (take (fitting (map f xs) size) xs)) ≤ size
fit f [] size = omega arith
fit f (x ∷ xs) size = by (nat_le (length (f x)) size) refl (fit f xs (size - length (f x)))
  where
    by : (b : Bool) → nat_le (length (f x)) size ≡ b → length (flat_map f (take (fitting (map f xs) (size - length (f x))) xs)) ≤ size - length (f x)
        → length (flat_map f (take (if b then suc (fitting (map f xs) (size - length (f x))) else 0) (x ∷ xs))) ≤ size
    by true is rest =
        let le : length (f x) ≤ size = leb-true _ _ is in
        let sum = length-append (f x) (flat_map f (take (fitting (map f xs) (size - length (f x))) xs)) in
        omega (arith, le, sum, rest)
    by false is rest = omega arith

most : {X : Type 0} (f : X → List ℕ) (xs : List X) (size m : ℕ) → m ≤ length xs → length (flat_map f (take m xs)) ≤ size → m ≤ fitting (map f xs) size
most f [] size m le fits = le
most f (x ∷ xs) size zero le fits = omega arith
most f (x ∷ xs) size (suc m) le fits = by (nat_le (length (f x)) size) refl (most f xs (size - length (f x)) m (omega (arith, le)))
  where
    by : (b : Bool) → nat_le (length (f x)) size ≡ b → (length (flat_map f (take m xs)) ≤ size - length (f x) → m ≤ fitting (map f xs) (size - length (f x)))
        → suc m ≤ (if b then suc (fitting (map f xs) (size - length (f x))) else 0)
    by true is rest =
        let sum = length-append (f x) (flat_map f (take m xs)) in
        let up = rest (omega (arith, fits, sum)) in
        omega (arith, up)
    by false is rest =
        let sum = length-append (f x) (flat_map f (take m xs)) in
        let over : size < length (f x) = leb-false _ _ is in
        absurd (omega (arith, fits, sum, over))

-- the most, but one where there is any
counted : (all some n : ℕ) → n ≡ min all (max 1 some) → some ≤ all → 1 < n → n ≡ some
counted all some n is le more = omega (arith, is, le, more)

pub is_block : (rows : RowList) (place size : ℕ) → IsBlock rows place size (rows_in_block rows place size)
is_block rows place size =
    let f = answered rows in
    let xs = drop place rows.rows in
    let some = fitting (map f xs) size in
    let all : length (map f xs) ≡ length xs = length-map xs f in
    let le = within f xs size in
    record {
      there = omega (arith, all);
      some = λ any. omega (arith, all, any);
      fits = λ more. let same = counted (length (map f xs)) some (rows_in_block rows place size) refl (omega (arith, all, le)) more in rw same (fit f xs size);
      longest = λ m there fits. let up = most f xs size m there fits in omega (arith, all, up, there);
    }

at_most : (rows : RowList) (place size n m : ℕ) → IsBlock rows place size n → IsBlock rows place size m → m ≤ n
at_most rows place size n zero a b = omega arith
at_most rows place size n (suc zero) a b = let there = b.there in let any = a.some (omega (arith, there)) in omega (arith, any)
at_most rows place size n (suc (suc m)) a b = a.longest (suc (suc m)) b.there (b.fits (omega arith))

pub one_block : (rows : RowList) (place size count : ℕ) → IsBlock rows place size count → count ≡ rows_in_block rows place size
one_block rows place size count is =
    let le = at_most rows place size count (rows_in_block rows place size) is (is_block rows place size) in
    let ge = at_most rows place size (rows_in_block rows place size) count (is_block rows place size) is in
    omega (arith, le, ge)
