-- How many rows fit.
use Rattle.std.proofs.Common.{◌≡◌, ◌⊎◌, inl, inr, ℕ, zero, suc, ◌+◌, ◌-◌, ◌<◌, ◌≤◌, List, [], ◌∷◌, ◌++◌, refl, ap, subst, ◌∙◌, length, take, drop, get_or, Some, arith, length-append, length-drop}
use Rattle.std.specs.Prelude.{IfSome}
use Rattle.std.proofs.lemmas.Option.{slice_get-get_or}
use Rattle.std.specs.List.{flat_map, slice_get}
use Rattle.tables.specs.RowList.{RowList}
use Rattle.sqlam_replies.specs.Rows.{IsBlock, answered, rows_text}

-- the text of the first rows grows by the next one
pub grown : {X : Type 0} (f : X → List ℕ) (xs : List X) (n : ℕ) (x : X) → slice_get xs n ≡ Some x → length (flat_map f (take (suc n) xs)) ≡ length (flat_map f (take n xs)) + length (f x)
grown f [] n x h = absurd cc
grown f (y ∷ xs) zero x h = let same : y ≡ x = cc in ap (λ z. length (f z ++ [])) same ∙ length-append (f x) [] ∙ omega arith
grown f (y ∷ xs) (suc n) x h =
    let more = grown f xs n x h in
    let a = length-append (f y) (flat_map f (take (suc n) xs)) in
    let b = length-append (f y) (flat_map f (take n xs)) in
    omega (arith, more, a, b)

-- and never falls
pub rises : {X : Type 0} (f : X → List ℕ) (xs : List X) (n m : ℕ) → n ≤ m → length (flat_map f (take n xs)) ≤ length (flat_map f (take m xs))
rises f [] zero m le = omega arith
rises f [] (suc n) zero le = absurd (omega (arith, le))
rises f [] (suc n) (suc m) le = omega arith
rises f (x ∷ xs) zero m le = omega arith
rises f (x ∷ xs) (suc n) zero le = absurd (omega (arith, le))
rises f (x ∷ xs) (suc n) (suc m) le =
    let more = rises f xs n m (omega (arith, le)) in
    let a = length-append (f x) (flat_map f (take n xs)) in
    let b = length-append (f x) (flat_map f (take m xs)) in
    omega (arith, more, a, b)

pub slice_drop : {X : Type 0} (xs : List X) (from n : ℕ) → slice_get (drop from xs) n ≡ slice_get xs (from + n)
slice_drop xs zero n = let e : n ≡ 0 + n = omega arith in ap (slice_get xs) e
slice_drop [] (suc from) n = refl
slice_drop (x ∷ xs) (suc from) n = let e : suc (from + n) ≡ suc from + n = omega arith in slice_drop xs from n ∙ ap (slice_get (x ∷ xs)) e

-- the rows so far fit, with this room left
abbrev pub Fits : RowList → ℕ → ℕ → ℕ → ℕ → Type 0
Fits l from size i left = (from ≤ i) × (length (rows_text l from (i - from)) + left ≡ size)

counted_at : {X : Type 0} (f : X → List ℕ) (xs : List X) (from i : ℕ) (x : X) → from ≤ i → slice_get xs i ≡ Some x
    → length (flat_map f (take (suc (i - from)) (drop from xs))) ≡ length (flat_map f (take (i - from) (drop from xs))) + length (f x)
counted_at f xs from i x le at =
    let same : from + (i - from) ≡ i = omega (arith, le) in
    grown f (drop from xs) (i - from) x (slice_drop xs from (i - from) ∙ ap (slice_get xs) same ∙ at)

-- how many bytes the row at a place has
pub row_there : (l : RowList) (i n : ℕ) → i < length l.rows → IfSome (slice_get l.rows i) (λ row. n ≡ length (answered l row)) → (row : List ℕ) × (slice_get l.rows i ≡ Some row) × (n ≡ length (answered l row))
row_there l i n lt is =
    let at = slice_get-get_or l.rows i [] lt in
    (get_or l.rows i [], at, subst (λ o. IfSome o (λ row. n ≡ length (answered l row))) at is)

pub fits_on : (l : RowList) (from size i left n : ℕ) → i < length l.rows → IfSome (slice_get l.rows i) (λ row. n ≡ length (answered l row)) → n ≤ left → Fits l from size i left → Fits l from size (i + 1) (left - n)
fits_on l from size i left n lt is le f =
    let r = row_there l i n lt is in
    let more = counted_at (answered l) l.rows from i r.0 f.0 r.1 in
    let next : i + 1 - from ≡ suc (i - from) = let a = f.0 in omega (arith, a) in
    let same = ap (λ k. length (rows_text l from k)) next in
    let before = f.0 in
    let sum = f.1 in
    let size_is = r.2 in
    (omega (arith, before), omega (arith, more, same, sum, size_is, le))

there_by : (all rest from i count : ℕ) → from ≤ i → i < all → rest ≡ all - from → (count ≤ 1 ⊎ (count ≡ i - from)) → count ≤ rest
there_by all rest from i count le lt is (inl one) = omega (arith, le, lt, is, one)
there_by all rest from i count le lt is (inr e) = omega (arith, le, lt, is, e)

longest_by : (a b k m count : ℕ) → (suc k ≤ m → a ≤ b) → k ≤ count → b < a → m ≤ count
longest_by a b k m count up least less = grind (arith, up, least, less)

same_by : (k count : ℕ) → (count ≤ 1 ⊎ (count ≡ k)) → 1 < count → count ≡ k
same_by k count (inl one) two = absurd (omega (arith, one, two))
same_by k count (inr e) two = e

-- where a row does not fit, the rows before it are the block, or it alone
pub stops : (l : RowList) (from size i left n count : ℕ) → i < length l.rows → IfSome (slice_get l.rows i) (λ row. n ≡ length (answered l row)) → left < n → Fits l from size i left
    → 0 < count → i - from ≤ count → (count ≤ 1 ⊎ (count ≡ i - from)) → IsBlock l from size count
stops l from size i left n count lt is more f some least either =
    let r = row_there l i n lt is in
    let step = counted_at (answered l) l.rows from i r.0 f.0 r.1 in
    let before = f.0 in
    let sum = f.1 in
    let size_is = r.2 in
    let dropped = length-drop from l.rows in
    record {
      there = there_by (length l.rows) (length (drop from l.rows)) from i count before lt dropped either;
      some = λ any. some;
      fits = λ two. let e = ap (λ k. length (rows_text l from k)) (same_by (i - from) count either two) in omega (arith, e, sum);
      longest = λ m within fit. let up = rises (answered l) (drop from l.rows) (suc (i - from)) m in longest_by (length (rows_text l from (suc (i - from)))) (length (rows_text l from m)) (i - from) m count up least (omega (arith, step, sum, size_is, more, fit));
    }

-- where all rows fit, they are the block
pub ends : (l : RowList) (from size i left : ℕ) → length l.rows ≤ i → (from ≤ length l.rows → i ≤ length l.rows) → Fits l from size i left → IsBlock l from size (length l.rows - from)
ends l from size i left le upto f =
    let dropped = length-drop from l.rows in
    let sum = f.1 in
    record {
      there = omega (arith, dropped);
      some = λ any. omega (arith, dropped, any);
      fits = λ two. let same : length l.rows - from ≡ i - from = omega (arith, le, upto, two) in let e = ap (λ k. length (rows_text l from k)) same in omega (arith, e, sum);
      longest = λ m within fit. omega (arith, dropped, within);
    }
