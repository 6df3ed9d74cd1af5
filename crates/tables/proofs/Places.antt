-- Places in lists, and what is put there.
use Rattle.std.proofs.Common.{◌≡◌, ◌≢◌, ℕ, ◌+◌, ◌≤◌, zero, suc, List, [], ◌∷◌, Bool, true, false, cond, refl, sym, ap, ◌∙◌, map, length, drop, get_or, set, ◌||◌, Option, Some, None, option_map, arith, Ordering, Less, Equal, Greater}
use Rattle.std.specs.Prelude.{find, filter, is_some, nat_lt, position}
use Rattle.std.specs.List.{insert, list_any, position_or_len, prefix_len, slice_get}
use Rattle.std.specs.Map.{lookup}
use Rattle.std.specs.BTreeMap.{insert_entry}
use Rattle.std.specs.Ordering.{is_gt, match_ordering}
use Rattle.std.proofs.lemmas.Bool.Decides.{nat_tests}
use Rattle.std.proofs.lemmas.List.Folds.{find_at}
use Rattle.std.proofs.lemmas.Option.{slice_get_read}
use Rattle.std.proofs.lemmas.List.Quantifiers.{position-Some}

-- ---- counting from the front

-- the items before place i pass, and the count goes on from there
abbrev pub CountsOn : {A : Type 0} → (A → Bool) → List A → ℕ → Type 0
CountsOn p xs i = prefix_len p (drop i xs) + i ≡ prefix_len p xs

-- ---- what is found

first_by : (b : Bool) (n i : ℕ) → cond b (Some n) None ≡ Some i → n ≡ i
first_by true n i h = cc
first_by false n i h = absurd cc

none_by : (b : Bool) (n : ℕ) → cond b (Some n) None ≡ None → b ≡ false
none_by true n h = absurd cc
none_by false n h = refl

-- the place that a search gives
pub first_place : {A : Type 0} (p : A → Bool) (xs : List A) (i : ℕ) → position p xs ≡ Some i → position_or_len p xs ≡ i
first_place p xs i h = first_by (nat_lt (position_or_len p xs) (length xs)) (position_or_len p xs) i h

pub found_there : {A : Type 0} (p : A → Bool) (xs : List A) (i : ℕ) (x : A) → position p xs ≡ Some i → slice_get xs i ≡ Some x → find p xs ≡ Some x
found_there p xs i x is at = find_at p xs ∙ ap (slice_get xs) (first_place p xs i is) ∙ at

slice_past : {A : Type 0} (xs : List A) (i : ℕ) → length xs ≤ i → slice_get xs i ≡ None
slice_past [] i past = refl
slice_past (x ∷ xs) zero past = absurd (omega arith)
slice_past (x ∷ xs) (suc i) past = slice_past xs i (omega arith)

pub found_nowhere : {A : Type 0} (p : A → Bool) (xs : List A) → position p xs ≡ None → find p xs ≡ None
found_nowhere p xs is =
    let short = none_by (nat_lt (position_or_len p xs) (length xs)) (position_or_len p xs) is in
    let past : length xs ≤ position_or_len p xs = grind (arith, nat_tests) in
    find_at p xs ∙ slice_past xs (position_or_len p xs) past

-- the item at the place that a search gives
pub item_there : {A : Type 0} (p : A → Bool) (xs : List A) (i : ℕ) (x : A) → position p xs ≡ Some i → x ≡ get_or xs i x → slice_get xs i ≡ Some x
item_there p xs i x is at = slice_get_read xs (length xs) i x refl (position-Some p xs i x is).0 at

any_step : {A X : Type 0} (x : A) (e : X) (b rest : Bool) (more : Option X) → rest ≡ is_some more → (b || rest) ≡ is_some (cond b (Some e) more)
any_step x e true rest more same = refl
any_step x e false rest more same = same

-- a key is there exactly where it is looked up
pub any_found : {A X : Type 0} (f : A → List ℕ × X) (test : List ℕ → Bool) (xs : List A) → list_any (λ x. test (f x).0) xs ≡ is_some (lookup test (map f xs))
any_found f test [] = refl
any_found f test (x ∷ xs) = any_step x (f x).1 (test (f x).0) (list_any (λ y. test (f y).0) xs) (lookup test (map f xs)) (any_found f test xs)

first_false : (a b : Bool) → (a || b) ≡ false → a ≡ false
first_false true b h = absurd cc
first_false false b h = refl

second_false : (a b : Bool) → (a || b) ≡ false → b ≡ false
second_false true b h = absurd cc
second_false false b h = h

-- where none passes, the one at a place does not
pub none_passes : {A : Type 0} (p : A → Bool) (xs : List A) (i : ℕ) (x : A) → list_any p xs ≡ false → slice_get xs i ≡ Some x → p x ≡ false
none_passes p [] i x h at = absurd cc
none_passes p (y ∷ ys) zero x h at = let same : y ≡ x = cc in ap p (sym same) ∙ first_false (p y) (list_any p ys) h
none_passes p (y ∷ ys) (suc i) x h at = none_passes p ys i x (second_false (p y) (list_any p ys) h) at

-- an item in place of one that shows the same changes nothing that is shown
pub same_shown : {A B : Type 0} (f : A → B) (xs : List A) (i : ℕ) (x new : A) → slice_get xs i ≡ Some x → f new ≡ f x → map f (set xs i new) ≡ map f xs
same_shown f [] i x new at same = absurd cc
same_shown f (y ∷ ys) zero x new at same = let here : y ≡ x = cc in ap (λ e. e ∷ map f ys) (same ∙ ap f (sym here))
same_shown f (y ∷ ys) (suc i) x new at same = ap (λ es. f y ∷ es) (same_shown f ys i x new at same)

lookup_step : {A X : Type 0} (f : A → List ℕ × X) (x : A) (b : Bool) (rest : Option X) (more : Option A) → rest ≡ option_map (λ y. (f y).1) more → cond b (Some (f x).1) rest ≡ option_map (λ y. (f y).1) (cond b (Some x) more)
lookup_step f x true rest more same = refl
lookup_step f x false rest more same = same

-- what is looked up among entries is found among what they are made of
pub lookup_found : {A X : Type 0} (f : A → List ℕ × X) (test : List ℕ → Bool) (xs : List A) → lookup test (map f xs) ≡ option_map (λ y. (f y).1) (find (λ y. test (f y).0) xs)
lookup_found f test [] = refl
lookup_found f test (x ∷ xs) = lookup_step f x (test (f x).0) (lookup test (map f xs)) (find (λ y. test (f y).0) xs) (lookup_found f test xs)

-- ---- what is put

new_step : {A X : Type 0} (R : List ℕ → List ℕ → Ordering) (f : A → List ℕ × X) (k : List ℕ) (v : X) (new x : A) (xs : List A) (n : ℕ) (rest : List (List ℕ × X)) (o : Ordering) → R k (f x).0 ≡ o → f new ≡ (k, v)
    → ((y : A) → slice_get (x ∷ xs) (cond (is_gt o) (1 + n) 0) ≡ Some y → R k (f y).0 ≢ Equal) → (((y : A) → slice_get xs n ≡ Some y → R k (f y).0 ≢ Equal) → map f (insert xs n new) ≡ rest)
    → map f (insert (x ∷ xs) (cond (is_gt o) (1 + n) 0) new) ≡ match_ordering o ((k, v) ∷ f x ∷ map f xs) (((f x).0, v) ∷ map f xs) (f x ∷ rest)
new_step R f k v new x xs n rest Less is made other more = ap (λ e. e ∷ f x ∷ map f xs) made
new_step R f k v new x xs n rest Equal is made other more = absurd (other x refl is)
new_step R f k v new x xs n rest Greater is made other more =
    let next : 1 + n ≡ suc n = omega arith in
    ap (λ i. map f (insert (x ∷ xs) i new)) next ∙ ap (λ es. f x ∷ es) (more (λ y at. other y (ap (slice_get (x ∷ xs)) next ∙ at)))

-- an entry whose key is none of the list goes to its place
pub put_new : {A X : Type 0} (R : List ℕ → List ℕ → Ordering) (f : A → List ℕ × X) (k : List ℕ) (v : X) (new : A) (xs : List A) → f new ≡ (k, v) → ((y : A) → slice_get xs (prefix_len (λ x. is_gt (R k (f x).0)) xs) ≡ Some y → R k (f y).0 ≢ Equal)
    → map f (insert xs (prefix_len (λ x. is_gt (R k (f x).0)) xs) new) ≡ insert_entry R (map f xs) k v
put_new R f k v new [] made other = ap (λ e. e ∷ []) made
put_new R f k v new (x ∷ xs) made other =
    new_step R f k v new x xs (prefix_len (λ y. is_gt (R k (f y).0)) xs) (insert_entry R (map f xs) k v) (R k (f x).0) refl made other (λ others. put_new R f k v new xs made others)

same_step : {A X : Type 0} (R : List ℕ → List ℕ → Ordering) (f : A → List ℕ × X) (k : List ℕ) (v : X) (new old x : A) (xs : List A) (n : ℕ) (rest : List (List ℕ × X)) (o : Ordering) → R k (f x).0 ≡ o → f new ≡ ((f old).0, v) → R k (f old).0 ≡ Equal
    → slice_get (x ∷ xs) (cond (is_gt o) (1 + n) 0) ≡ Some old → (slice_get xs n ≡ Some old → map f (set xs n new) ≡ rest)
    → map f (set (x ∷ xs) (cond (is_gt o) (1 + n) 0) new) ≡ match_ordering o ((k, v) ∷ f x ∷ map f xs) (((f x).0, v) ∷ map f xs) (f x ∷ rest)
same_step R f k v new old x xs n rest Less is made tie at more = let same : x ≡ old = cc in let less : Equal ≡ Less = sym tie ∙ ap (λ y. R k (f y).0) (sym same) ∙ is in absurd cc
same_step R f k v new old x xs n rest Equal is made tie at more = let same : x ≡ old = cc in ap (λ e. e ∷ map f xs) (made ∙ ap (λ y. ((f y).0, v)) (sym same))
same_step R f k v new old x xs n rest Greater is made tie at more =
    let next : 1 + n ≡ suc n = omega arith in
    ap (λ i. map f (set (x ∷ xs) i new)) next ∙ ap (λ es. f x ∷ es) (more (sym (ap (slice_get (x ∷ xs)) next) ∙ at))

-- an entry whose key is there already takes its place
pub put_same : {A X : Type 0} (R : List ℕ → List ℕ → Ordering) (f : A → List ℕ × X) (k : List ℕ) (v : X) (new old : A) (xs : List A) → f new ≡ ((f old).0, v) → R k (f old).0 ≡ Equal → slice_get xs (prefix_len (λ x. is_gt (R k (f x).0)) xs) ≡ Some old
    → map f (set xs (prefix_len (λ x. is_gt (R k (f x).0)) xs) new) ≡ insert_entry R (map f xs) k v
put_same R f k v new old [] made tie at = absurd cc
put_same R f k v new old (x ∷ xs) made tie at =
    same_step R f k v new old x xs (prefix_len (λ y. is_gt (R k (f y).0)) xs) (insert_entry R (map f xs) k v) (R k (f x).0) refl made tie at (λ there. put_same R f k v new old xs made tie there)

kept_step : {A B : Type 0} (f : A → B) (x : A) (b : Bool) (xs : List A) (rest : List B) → map f xs ≡ rest → map f (cond b (x ∷ xs) xs) ≡ cond b (f x ∷ rest) rest
kept_step f x true xs rest same = ap (λ ys. f x ∷ ys) same
kept_step f x false xs rest same = same

-- what is kept by a test of what is made of it
pub map_kept : {A B : Type 0} (f : A → B) (test : B → Bool) (xs : List A) → map f (filter (λ x. test (f x)) xs) ≡ filter test (map f xs)
map_kept f test [] = refl
map_kept f test (x ∷ xs) = kept_step f x (test (f x)) (filter (λ y. test (f y)) xs) (filter test (map f xs)) (map_kept f test xs)
