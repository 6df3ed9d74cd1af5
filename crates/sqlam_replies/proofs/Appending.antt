-- Items appended one after the other.
use Rattle.std.proofs.Common.{◌≡◌, ℕ, zero, suc, ◌+◌, ◌≤◌, List, [], ◌∷◌, ◌++◌, refl, sym, ap, ◌∙◌, map, length, take, drop, Some, Bool, true, false, ◌&&◌, ◌<◌, get_or, option_map, arith, add-one, append_assoc, append-nil, length-append}
use Rattle.std.specs.List.{flat_map, list_all, slice_get}
use Rattle.std.specs.Prelude.{is_some}
use Rattle.std.proofs.lemmas.Option.{slice_get-map, slice_get_read}
use Rattle.std.proofs.Math.Seq.{take-append_seam}
use Rattle.std.proofs.lemmas.List.{take-append-le}

-- What was there stands in front, and what is there, with the items still to come, is the whole.
pub record SoFar {X : Type 0} (f : X → List ℕ) (xs : List X) (i : ℕ) (old now : List ℕ) : Type 0 where
  pub written : now ++ flat_map f (drop i xs) ≡ old ++ flat_map f xs
  pub kept : take (length old) now ≡ old
  pub longer : length old ≤ length now

pub take_all : (xs : List ℕ) → take (length xs) xs ≡ xs
take_all xs = ap (take (length xs)) (sym (append-nil xs)) ∙ take-append_seam xs []

pub first : {X : Type 0} (f : X → List ℕ) (xs : List X) (old : List ℕ) → SoFar f xs 0 old old
first f xs old = record { written = refl; kept = take_all old; longer = omega arith }

drop_suc : {X : Type 0} (xs : List X) (i : ℕ) (x : X) → slice_get xs i ≡ Some x → drop i xs ≡ x ∷ drop (suc i) xs
drop_suc [] i x h = absurd cc
drop_suc (y ∷ xs) zero x h = let same : y ≡ x = cc in ap (λ z. z ∷ xs) same
drop_suc (y ∷ xs) (suc i) x h = drop_suc xs i x h

pub drop_at : {X : Type 0} (xs : List X) (i : ℕ) (x : X) → slice_get xs i ≡ Some x → drop i xs ≡ x ∷ drop (i + 1) xs
drop_at xs i x h = rw add-one (drop_suc xs i x h)

pub step : {X : Type 0} (f : X → List ℕ) (xs : List X) (i : ℕ) (x : X) (old now next : List ℕ) → slice_get xs i ≡ Some x → next ≡ now ++ f x → SoFar f xs i old now → SoFar f xs (i + 1) old next
step f xs i x old now next at is s = record {
  written =
      ap (λ (l : List ℕ). l ++ flat_map f (drop (i + 1) xs)) is
      ∙ append_assoc now (f x) (flat_map f (drop (i + 1) xs))
      ∙ ap (λ l. now ++ flat_map f l) (sym (drop_at xs i x at))
      ∙ s.written;
  kept = ap (take (length old)) is ∙ take-append-le (length old) now (f x) s.longer ∙ s.kept;
  longer = let le = s.longer in let sum = ap length is ∙ length-append now (f x) in omega (arith, sum, le);
}

drop_past : {X : Type 0} (xs : List X) (i : ℕ) → length xs ≤ i → drop i xs ≡ []
drop_past [] zero le = refl
drop_past [] (suc i) le = refl
drop_past (x ∷ xs) zero le = absurd (omega (arith, le))
drop_past (x ∷ xs) (suc i) le = drop_past xs i (omega (arith, le))

pub whole : {X : Type 0} (f : X → List ℕ) (xs : List X) (i : ℕ) (old now : List ℕ) → length xs ≤ i → SoFar f xs i old now → now ≡ old ++ flat_map f xs
whole f xs i old now le s = sym (append-nil now) ∙ ap (λ l. now ++ flat_map f l) (sym (drop_past xs i le)) ∙ s.written

-- there is room for the next item where there was room for all
pub room : {X : Type 0} (f : X → List ℕ) (xs : List X) (i : ℕ) (x : X) (old now : List ℕ) → slice_get xs i ≡ Some x → SoFar f xs i old now → length now + length (f x) ≤ length old + length (flat_map f xs)
room f xs i x old now at s =
    let some : length (flat_map f (drop i xs)) ≡ length (f x) + length (flat_map f (drop (i + 1) xs)) =
    ap (λ l. length (flat_map f l)) (drop_at xs i x at) ∙ length-append (f x) (flat_map f (drop (i + 1) xs)) in
    let sum = sym (length-append now (flat_map f (drop i xs))) ∙ ap length s.written ∙ length-append old (flat_map f xs) in
    omega (arith, some, sum)

-- what was kept by a part is kept by what goes on from there
pub kept_on : (old now next : List ℕ) → length old ≤ length now → take (length old) now ≡ old → take (length now) next ≡ now → take (length old) next ≡ old
kept_on [] now next le k m = refl
kept_on (x ∷ old) [] next le k m = absurd (omega (arith, le))
kept_on (x ∷ old) (y ∷ now) [] le k m = absurd cc
kept_on (x ∷ old) (y ∷ now) (z ∷ next) le k m =
    let a : y ≡ x = cc in
    let b : z ≡ y = cc in
    let c : take (length old) now ≡ old = cc in
    let d : take (length now) next ≡ now = cc in
    let e = kept_on old now next (omega (arith, le)) c d in
    cc

pub singles : {X : Type 0} (g : X → ℕ) (xs : List X) → flat_map (λ x. g x ∷ []) xs ≡ map g xs
singles g [] = refl
singles g (x ∷ xs) = ap (λ l. g x ∷ l) (singles g xs)

-- ---- an item at a place

pub shown_at : {X Y : Type 0} (g : X → Y) (xs : List X) (i : ℕ) (x : X) → i < length xs → x ≡ get_or xs i x → slice_get (map g xs) i ≡ Some (g x)
shown_at g xs i x lt is = slice_get-map g xs i ∙ ap (option_map g) (slice_get_read xs (length xs) i x refl lt is)

pub both_first : (a b : Bool) → (a && b) ≡ true → a ≡ true
both_first true b h = refl
both_first false b h = absurd cc

pub both_second : (a b : Bool) → (a && b) ≡ true → b ≡ true
both_second true b h = h
both_second false b h = absurd cc

pub all_at : {X : Type 0} (test : X → Bool) (xs : List X) (i : ℕ) (x : X) → list_all test xs ≡ true → slice_get xs i ≡ Some x → test x ≡ true
all_at test [] i x all at = absurd cc
all_at test (y ∷ xs) zero x all at = let same : y ≡ x = cc in ap test (sym same) ∙ both_first (test y) (list_all test xs) all
all_at test (y ∷ xs) (suc i) x all at = all_at test xs i x (both_second (test y) (list_all test xs) all) at

pub within : {X : Type 0} (xs : List X) (i : ℕ) → is_some (slice_get xs i) ≡ true → i < length xs
within [] i some = absurd cc
within (x ∷ xs) zero some = omega arith
within (x ∷ xs) (suc i) some = let le = within xs i some in omega (arith, le)

pub taken_at : {X : Type 0} (xs : List X) (n i : ℕ) → i < n → slice_get (take n xs) i ≡ slice_get xs i
taken_at xs zero i lt = absurd (omega (arith, lt))
taken_at [] (suc n) i lt = refl
taken_at (x ∷ xs) (suc n) zero lt = refl
taken_at (x ∷ xs) (suc n) (suc i) lt = taken_at xs n i (omega (arith, lt))
