-- The index of claims after one is added to the claims of a unit, or the last one is taken off, and what
-- it finds.
use Rattle.std.proofs.Common.{◌==◌, ◌≡◌, ◌≢◌, ◌⊎◌, ◌<◌, ◌≤◌, ◌+◌, ◌-◌, ℕ, zero, suc, Bool, true, false, not, ◌&&◌, ◌||◌, List, [], ◌∷◌, ◌++◌, if◌then◌else◌, refl, sym, ap, subst, ◌∙◌, inl, inr, length, arith, Option, Some, None, nat_lt, slice_get, eqb-true}
use Rattle.std.specs.List.{list_any}
use Rattle.std.specs.Global.{Vec}
use Rattle.std.specs.Str.{bytes_eq}
use Rattle.std.proofs.lemmas.Bool.Decides.{nat_tests}
use Rattle.std.proofs.lemmas.Option.{slice_get_within}
use Rattle.drda_words.proofs.Precedes.{bytes_eq-refl, same_bytes}
use Rattle.unit_locks.specs.declared.access.Access.{Access}
use Rattle.unit_locks.specs.declared.access.Access.TheVariants.{Read, Write}
use Rattle.unit_locks.specs.declared.place.Place.{Place}
use Rattle.unit_locks.specs.declared.holder.Holder.{Holder}
use Rattle.unit_locks.specs.Claim.{Claim}
use Rattle.unit_locks.specs.Clash.{clash, is_write, overlap}
use Rattle.unit_locks.specs.Claims.{ClashesWith, ClashesWithNone, has, is_same}
use Rattle.unit_locks.specs.Index.{Finds, IsCounted, IsIndexed, Use, amount, blocks, bucket, claim_hash, clashes_there, clashes_with_it, counted, held, is_held, is_in, is_it, is_place, is_there, mixed, one_if, place_of, placed, same_access, same_use, scope_hash, table_hash, use_in, use_of, used}
use Rattle.unit_locks.specs.Lists.{list_at}
use Rattle.unit_locks.proofs.AddedClaims.{same_is}
use Rattle.unit_locks.proofs.Buckets.{any_in, place_self}
use Rattle.unit_locks.proofs.Counts.{access_true, use_self, use_true}
use Rattle.unit_locks.proofs.Tests.{first_true, left_false, number_other, or_true, right_false, same_or, second_true, self, which}

-- ---- a claim more

-- what stands in a list with one item more
last_cases : (xs : List Claim) (c d : Claim) (at : ℕ) → slice_get (xs ++ c ∷ []) at ≡ Some d → (slice_get xs at ≡ Some d) ⊎ ((at ≡ length xs) × (c ≡ d))
last_cases [] c d zero h = inr (refl, cc)
last_cases [] c d (suc at) h = absurd cc
last_cases (x ∷ xs) c d zero h = inl h
last_cases (x ∷ xs) c d (suc at) h = deeper (last_cases xs c d at h)
  where
    deeper : (slice_get xs at ≡ Some d) ⊎ ((at ≡ length xs) × (c ≡ d)) → (slice_get xs at ≡ Some d) ⊎ ((suc at ≡ suc (length xs)) × (c ≡ d))
    deeper (inl e) = inl e
    deeper (inr e) = inr (ap suc e.0, e.1)

pub index_more : (old new : List (Vec Place)) (claims more : ℕ → List Claim) (unit : ℕ) (c : Claim)
    → IsIndexed old claims → ((q : Place) → placed old q ≡ true → placed new q ≡ true) → placed new (place_of unit (length (claims unit)) c) ≡ true
    → more unit ≡ claims unit ++ c ∷ [] → ((u : ℕ) → u ≢ unit → more u ≡ claims u) → IsIndexed new more
index_more old new claims more unit c indexed kept there here others u at d h = cases (same_or u unit)
  where
    last : (slice_get (claims unit) at ≡ Some d) ⊎ ((at ≡ length (claims unit)) × (c ≡ d)) → placed new (place_of unit at d) ≡ true
    last (inl e) = kept (place_of unit at d) (indexed unit at d e)
    last (inr e) = subst (λ (x : Claim). placed new (place_of unit at x) ≡ true) e.1 (subst (λ (n : ℕ). placed new (place_of unit n c) ≡ true) (sym e.0) there)

    cases : (u ≡ unit) ⊎ (u ≢ unit) → placed new (place_of u at d) ≡ true
    cases (inl e) =
        let is : slice_get (claims unit ++ c ∷ []) at ≡ Some d = ap (λ (l : List Claim). slice_get l at) (sym here) ∙ ap (λ (n : ℕ). slice_get (more n) at) (sym e) ∙ h in
        subst (λ (n : ℕ). placed new (place_of n at d) ≡ true) (sym e) (last (last_cases (claims unit) c d at is))
    cases (inr e) = kept (place_of u at d) (indexed u at d (ap (λ (l : List Claim). slice_get l at) (sym (others u e)) ∙ h))

used_more : (xs : List Claim) (c : Claim) (k : Use) → used (xs ++ c ∷ []) k ≡ used xs k + one_if (bytes_eq c.table k.table && same_access c.access k.access)
used_more [] c k = turned (one_if (bytes_eq c.table k.table && same_access c.access k.access))
  where
    turned : (n : ℕ) → n + 0 ≡ 0 + n
    turned n = omega arith
used_more (x ∷ xs) c k = assoc (one_if (bytes_eq x.table k.table && same_access x.access k.access)) (used (xs ++ c ∷ []) k) (used xs k) (one_if (bytes_eq c.table k.table && same_access c.access k.access)) (used_more xs c k)
  where
    assoc : (a s t b : ℕ) → s ≡ t + b → a + s ≡ (a + t) + b
    assoc a s t b h = omega (arith, h)

-- what a claim adds to the count of a use
own_use : (unit : ℕ) (c : Claim) (k : Use) → unit ≡ k.unit → same_use (use_in unit c) k ≡ (bytes_eq c.table k.table && same_access c.access k.access)
own_use unit c k e =
    let test : (unit == k.unit) ≡ true = ap (λ (n : ℕ). unit == n) (sym e) ∙ self unit in
    ap (λ (b : Bool). b && (bytes_eq c.table k.table && same_access c.access k.access)) test

other_use : (unit : ℕ) (c : Claim) (k : Use) → k.unit ≢ unit → same_use (use_in unit c) k ≡ false
other_use unit c k e =
    let test : (unit == k.unit) ≡ false = number_other unit k.unit (λ x. e (sym x)) in
    ap (λ (b : Bool). b && (bytes_eq c.table k.table && same_access c.access k.access)) test

pub count_more : (old new : List (Vec Holder)) (claims more : ℕ → List Claim) (unit : ℕ) (c : Claim)
    → IsCounted old claims → ((k : Use) → held new k ≡ held old k + one_if (same_use (use_in unit c) k))
    → more unit ≡ claims unit ++ c ∷ [] → ((u : ℕ) → u ≢ unit → more u ≡ claims u) → IsCounted new more
count_more old new claims more unit c counts moved here others k = cases (same_or k.unit unit)
  where
    nothing : (n : ℕ) → n + 0 ≡ n
    nothing n = omega arith

    cases : (k.unit ≡ unit) ⊎ (k.unit ≢ unit) → held new k ≡ used (more k.unit) k
    cases (inl e) =
        moved k ∙ ap (λ (n : ℕ). n + one_if (same_use (use_in unit c) k)) (counts k)
        ∙ ap (λ (b : Bool). used (claims k.unit) k + one_if b) (own_use unit c k (sym e))
        ∙ ap (λ (n : ℕ). used (claims n) k + one_if (bytes_eq c.table k.table && same_access c.access k.access)) e
        ∙ sym (used_more (claims unit) c k) ∙ ap (λ (l : List Claim). used l k) (sym here) ∙ ap (λ (n : ℕ). used (more n) k) (sym e)
    cases (inr e) =
        moved k ∙ ap (λ (b : Bool). held old k + one_if b) (other_use unit c k e) ∙ nothing (held old k) ∙ counts k
        ∙ ap (λ (l : List Claim). used l k) (sym (others k.unit e))

-- ---- a claim less

-- claims that are among those before, and a place behind those of a unit is taken out
pub index_less : (old new : List (Vec Place)) (claims less : ℕ → List Claim) (unit : ℕ) (c : Claim)
    → IsIndexed old claims → ((q : Place) → is_place q (place_of unit (length (less unit)) c) ≡ false → placed old q ≡ true → placed new q ≡ true)
    → ((u at : ℕ) (d : Claim) → slice_get (less u) at ≡ Some d → slice_get (claims u) at ≡ Some d) → IsIndexed new less
index_less old new claims less unit c indexed kept within u at d h = cases (same_or u unit)
  where
    and_false_last : (a b : Bool) → (a && (b && false)) ≡ false
    and_false_last true true = refl
    and_false_last true false = refl
    and_false_last false b = refl

    and_false_first : (a b : Bool) → (a && (false && b)) ≡ false
    and_false_first true b = refl
    and_false_first false b = refl

    cases : (u ≡ unit) ⊎ (u ≢ unit) → placed new (place_of u at d) ≡ true
    cases (inl e) =
        let own : slice_get (less unit) at ≡ Some d = ap (λ (n : ℕ). slice_get (less n) at) (sym e) ∙ h in
        let below : at < length (less unit) = slice_get_within (less unit) at d own in
        let not_last : (at == length (less unit)) ≡ false = number_other at (length (less unit)) (λ x. absurd (omega (arith, below, x))) in
        let apart : is_place (place_of u at d) (place_of unit (length (less unit)) c) ≡ false =
        ap (λ (b : Bool). (claim_hash d == claim_hash c) && ((u == unit) && b)) not_last ∙ and_false_last (claim_hash d == claim_hash c) (u == unit) in
        kept (place_of u at d) apart (indexed u at d (within u at d h))
    cases (inr e) =
        let apart : is_place (place_of u at d) (place_of unit (length (less unit)) c) ≡ false =
        ap (λ (b : Bool). (claim_hash d == claim_hash c) && (b && (at == length (less unit)))) (number_other u unit e) ∙ and_false_first (claim_hash d == claim_hash c) (at == length (less unit)) in
        kept (place_of u at d) apart (indexed u at d (within u at d h))

in_front : (xs ys : List Claim) (i : ℕ) (d : Claim) → slice_get xs i ≡ Some d → slice_get (xs ++ ys) i ≡ Some d
in_front [] ys i d h = absurd cc
in_front (x ∷ xs) ys zero d h = h
in_front (x ∷ xs) ys (suc i) d h = in_front xs ys i d h

-- the last claim of a unit is taken off
pub within_popped : (claims less : ℕ → List Claim) (unit : ℕ) (c : Claim) → claims unit ≡ less unit ++ c ∷ [] → ((u : ℕ) → u ≢ unit → less u ≡ claims u)
    → (u at : ℕ) (d : Claim) → slice_get (less u) at ≡ Some d → slice_get (claims u) at ≡ Some d
within_popped claims less unit c here others u at d h = cases (same_or u unit)
  where
    cases : (u ≡ unit) ⊎ (u ≢ unit) → slice_get (claims u) at ≡ Some d
    cases (inl e) =
        let own : slice_get (less unit) at ≡ Some d = ap (λ (n : ℕ). slice_get (less n) at) (sym e) ∙ h in
        ap (λ (n : ℕ). slice_get (claims n) at) e ∙ ap (λ (l : List Claim). slice_get l at) here ∙ in_front (less unit) (c ∷ []) at d own
    cases (inr e) = ap (λ (l : List Claim). slice_get l at) (sym (others u e)) ∙ h

pub count_less : (old new : List (Vec Holder)) (claims less : ℕ → List Claim) (unit : ℕ) (c : Claim)
    → IsCounted old claims → ((k : Use) → held new k ≡ held old k - one_if (same_use (use_in unit c) k))
    → claims unit ≡ less unit ++ c ∷ [] → ((u : ℕ) → u ≢ unit → less u ≡ claims u) → IsCounted new less
count_less old new claims less unit c counts moved here others k = cases (same_or k.unit unit)
  where
    back : (n m : ℕ) → (n + m) - m ≡ n
    back n m = omega arith

    nothing : (n : ℕ) → n - 0 ≡ n
    nothing n = omega arith

    cases : (k.unit ≡ unit) ⊎ (k.unit ≢ unit) → held new k ≡ used (less k.unit) k
    cases (inl e) =
        moved k ∙ ap (λ (n : ℕ). n - one_if (same_use (use_in unit c) k)) (counts k)
        ∙ ap (λ (b : Bool). used (claims k.unit) k - one_if b) (own_use unit c k (sym e))
        ∙ ap (λ (n : ℕ). used (claims n) k - one_if (bytes_eq c.table k.table && same_access c.access k.access)) e
        ∙ ap (λ (l : List Claim). used l k - one_if (bytes_eq c.table k.table && same_access c.access k.access)) here
        ∙ ap (λ (n : ℕ). n - one_if (bytes_eq c.table k.table && same_access c.access k.access)) (used_more (less unit) c k)
        ∙ back (used (less unit) k) (one_if (bytes_eq c.table k.table && same_access c.access k.access)) ∙ ap (λ (n : ℕ). used (less n) k) (sym e)
    cases (inr e) =
        moved k ∙ ap (λ (b : Bool). held old k - one_if b) (other_use unit c k e) ∙ nothing (held old k) ∙ counts k
        ∙ ap (λ (l : List Claim). used l k) (sym (others k.unit e))

-- ---- all claims stay

pub all_same : (claims more : ℕ → List Claim) (unit : ℕ) → more unit ≡ claims unit → ((u : ℕ) → u ≢ unit → more u ≡ claims u) → (u : ℕ) → more u ≡ claims u
all_same claims more unit here others u = cases (same_or u unit)
  where
    cases : (u ≡ unit) ⊎ (u ≢ unit) → more u ≡ claims u
    cases (inl e) = ap more e ∙ here ∙ ap claims (sym e)
    cases (inr e) = others u e

pub index_same : (old new : List (Vec Place)) (claims more : ℕ → List Claim) → IsIndexed old claims → ((q : Place) → placed old q ≡ true → placed new q ≡ true)
    → ((u : ℕ) → more u ≡ claims u) → IsIndexed new more
index_same old new claims more indexed kept same u at d h = kept (place_of u at d) (indexed u at d (ap (λ (l : List Claim). slice_get l at) (sym (same u)) ∙ h))

pub count_same : (old mid new : List (Vec Holder)) (claims more : ℕ → List Claim) (u : Use) → IsCounted old claims
    → ((k : Use) → held mid k ≡ held old k + one_if (same_use u k)) → ((k : Use) → held new k ≡ held mid k - one_if (same_use u k))
    → ((n : ℕ) → more n ≡ claims n) → IsCounted new more
count_same old mid new claims more u counts up down same k =
    down k ∙ ap (λ (n : ℕ). n - one_if (same_use u k)) (up k) ∙ back (held old k) (one_if (same_use u k)) ∙ counts k ∙ ap (λ (l : List Claim). used l k) (sym (same k.unit))
  where
    back : (n m : ℕ) → (n + m) - m ≡ n
    back n m = omega arith

-- ---- what is found by the place

-- a claim in a list that passes a test
record Found (test : Claim → Bool) (cs : List Claim) : Type 0 where
  at : ℕ
  claim : Claim
  is : slice_get cs at ≡ Some claim
  passes : test claim ≡ true

found_step : (b : Bool) (test : Claim → Bool) (c : Claim) (cs : List Claim) → test c ≡ b → (b || list_any test cs) ≡ true → (list_any test cs ≡ true → Found test cs) → Found test (c ∷ cs)
found_step true test c cs is h rest = record { at = 0; claim = c; is = refl; passes = is }
found_step false test c cs is h rest = let f = rest h in record { at = suc f.at; claim = f.claim; is = f.is; passes = f.passes }

any_found : (test : Claim → Bool) (cs : List Claim) → list_any test cs ≡ true → Found test cs
any_found test [] h = absurd cc
any_found test (c ∷ cs) h = found_step (test c) test c cs refl h (any_found test cs)

pub any_at : {X : Type 0} (test : X → Bool) (xs : List X) (at : ℕ) (x : X) → slice_get xs at ≡ Some x → test x ≡ true → list_any test xs ≡ true
any_at test [] at x h passes = absurd cc
any_at test (y ∷ xs) zero x h passes =
    let same : y ≡ x = cc in
    ap (λ (b : Bool). b || list_any test xs) (ap test same ∙ passes)
any_at test (y ∷ xs) (suc at) x h passes = ap (λ (b : Bool). test y || b) (any_at test xs at x h passes) ∙ or_true (test y)

not_self : (p u : ℕ) → not (p == u) ≡ true → p ≢ u
not_self p u h e =
    let same : (p == u) ≡ true = ap (λ (n : ℕ). p == n) (sym e) ∙ self p in
    let never : not (p == u) ≡ false = ap not same in
    cc

pub found_clash : (claims : ℕ → List Claim) (unit hash other : ℕ) (c : Claim) (places : List Place)
    → Finds (clashes_there claims unit c hash) (λ (p : Place). p.unit) places other → ClashesWith claims unit c other
found_clash claims unit hash other c places f =
    let p = f.item in
    let rest = second_true (p.hash == hash) (not (p.unit == unit) && clashes_with_it c (slice_get (claims p.unit) p.at)) f.passes in
    let another : p.unit ≢ unit = not_self p.unit unit (first_true (not (p.unit == unit)) (clashes_with_it c (slice_get (claims p.unit) p.at)) rest) in
    let clashes : list_any (clash c) (claims p.unit) ≡ true = one (slice_get (claims p.unit) p.at) refl (second_true (not (p.unit == unit)) (clashes_with_it c (slice_get (claims p.unit) p.at)) rest) in
    subst (λ (n : ℕ). ClashesWith claims unit c n) f.unit_is (record { another = another; clashes = clashes })
  where
    one : (o : Option Claim) → slice_get (claims f.item.unit) f.item.at ≡ o → clashes_with_it c o ≡ true → list_any (clash c) (claims f.item.unit) ≡ true
    one None is h = absurd cc
    one (Some d) is h = any_at (clash c) (claims f.item.unit) f.item.at d is h

-- a clash at this hash would have been found
missed : (places : List (Vec Place)) (claims : ℕ → List Claim) (unit hash other at : ℕ) (c d : Claim) → IsIndexed places claims
    → list_any (clashes_there claims unit c hash) (list_at places (bucket hash)) ≡ false → other ≢ unit → slice_get (claims other) at ≡ Some d → claim_hash d ≡ hash → clash c d ≡ true → ⊥
missed places claims unit hash other at c d indexed none another is e clashes =
    let stands : is_in (place_of other at d) (list_at places (bucket hash)) ≡ true = subst (λ (h : ℕ). is_in (place_of other at d) (list_at places (bucket h)) ≡ true) e (indexed other at d is) in
    let hashed : (claim_hash d == hash) ≡ true = ap (λ (h : ℕ). claim_hash d == h) (sym e) ∙ self (claim_hash d) in
    let passes : clashes_there claims unit c hash (place_of other at d) ≡ true =
    ap (λ (b : Bool). b && (not (other == unit) && clashes_with_it c (slice_get (claims other) at))) hashed
    ∙ ap (λ (b : Bool). not b && clashes_with_it c (slice_get (claims other) at)) (number_other other unit another)
    ∙ ap (clashes_with_it c) is ∙ clashes in
    let some = any_in (clashes_there claims unit c hash) (place_of other at d) (list_at places (bucket hash)) stands passes in
    cc

-- two claims that clash are of one table
one_table : (c d : Claim) → clash c d ≡ true → c.table ≡ d.table
one_table c d h = same_bytes c.table d.table (first_true (bytes_eq c.table d.table) (overlap c.key d.key) (second_true (is_write c.access || is_write d.access) (bytes_eq c.table d.table && overlap c.key d.key) h))

one_scope : (c d : Claim) → clash c d ≡ true → overlap c.key d.key ≡ true
one_scope c d h = second_true (bytes_eq c.table d.table) (overlap c.key d.key) (second_true (is_write c.access || is_write d.access) (bytes_eq c.table d.table && overlap c.key d.key) h)

pub no_clash : (places : List (Vec Place)) (claims : ℕ → List Claim) (unit : ℕ) (c : Claim) (key : List ℕ) → IsIndexed places claims → c.key ≡ Some key
    → list_any (clashes_there claims unit c (claim_hash c)) (list_at places (bucket (claim_hash c))) ≡ false
    → list_any (clashes_there claims unit c (mixed (table_hash c.table) 0)) (list_at places (bucket (mixed (table_hash c.table) 0))) ≡ false
    → ClashesWithNone claims unit c
no_clash places claims unit c key indexed is by_key by_table other another = cases (list_any (clash c) (claims other)) refl
  where
    key_is : (k : Option (List ℕ)) (d : Claim) (at : ℕ) → d.key ≡ k → overlap (Some key) k ≡ true → slice_get (claims other) at ≡ Some d → clash c d ≡ true → ⊥
    key_is None d at of same here clashes =
        missed places claims unit (mixed (table_hash c.table) 0) other at c d indexed by_table another here
        (ap (λ (k : Option (List ℕ)). scope_hash (table_hash d.table) k) of ∙ ap (λ (t : List ℕ). mixed (table_hash t) 0) (sym (one_table c d clashes))) clashes
    key_is (Some other_key) d at of same here clashes =
        let keys : key ≡ other_key = same_bytes key other_key same in
        missed places claims unit (claim_hash c) other at c d indexed by_key another here
        (ap (λ (t : List ℕ). scope_hash (table_hash t) d.key) (sym (one_table c d clashes)) ∙ ap (λ (k : Option (List ℕ)). scope_hash (table_hash c.table) k) (of ∙ ap (λ (l : List ℕ). Some l) (sym keys) ∙ sym is)) clashes

    cases : (b : Bool) → list_any (clash c) (claims other) ≡ b → list_any (clash c) (claims other) ≡ false
    cases false h = h
    cases true h =
        let f = any_found (clash c) (claims other) h in
        absurd (key_is f.claim.key f.claim f.at refl (subst (λ (k : Option (List ℕ)). overlap k f.claim.key ≡ true) is (one_scope c f.claim f.passes)) f.is f.passes)

at_place : (claims : List Claim) (at : ℕ) (c : Claim) (o : Option Claim) → slice_get claims at ≡ o → is_it c o ≡ true → has claims c ≡ true
at_place claims at c None is t = absurd cc
at_place claims at c (Some d) is t = any_at (is_same c) claims at d is t

not_there : (b : Bool) (claims : ℕ → List Claim) (unit : ℕ) (c : Claim) (p : Place) → has (claims unit) c ≡ false → is_there claims unit c (claim_hash c) p ≡ b → is_there claims unit c (claim_hash c) p ≡ false
not_there false claims unit c p h is = is
not_there true claims unit c p h is =
    let rest = second_true (p.hash == claim_hash c) ((p.unit == unit) && is_it c (slice_get (claims p.unit) p.at)) is in
    let own : p.unit ≡ unit = eqb-true p.unit unit (first_true (p.unit == unit) (is_it c (slice_get (claims p.unit) p.at)) rest) in
    let it : is_it c (slice_get (claims unit) p.at) ≡ true = subst (λ (n : ℕ). is_it c (slice_get (claims n) p.at) ≡ true) own (second_true (p.unit == unit) (is_it c (slice_get (claims p.unit) p.at)) rest) in
    let found = at_place (claims unit) p.at c (slice_get (claims unit) p.at) refl it in
    absurd cc

none_there : (claims : ℕ → List Claim) (unit : ℕ) (c : Claim) (ps : List Place) → has (claims unit) c ≡ false → list_any (is_there claims unit c (claim_hash c)) ps ≡ false
none_there claims unit c [] h = refl
none_there claims unit c (p ∷ ps) h =
    ap (λ (b : Bool). b || list_any (is_there claims unit c (claim_hash c)) ps) (not_there (is_there claims unit c (claim_hash c) p) claims unit c p h refl) ∙ none_there claims unit c ps h

own_cases : (b : Bool) (places : List (Vec Place)) (claims : ℕ → List Claim) (unit : ℕ) (c : Claim) → IsIndexed places claims → has (claims unit) c ≡ b
    → list_any (is_there claims unit c (claim_hash c)) (list_at places (bucket (claim_hash c))) ≡ b
own_cases false places claims unit c indexed h = none_there claims unit c (list_at places (bucket (claim_hash c))) h
own_cases true places claims unit c indexed h =
    let f = any_found (is_same c) (claims unit) h in
    let same : c ≡ f.claim = same_is c f.claim f.passes in
    let stands : is_in (place_of unit f.at f.claim) (list_at places (bucket (claim_hash c))) ≡ true = subst (λ (x : Claim). is_in (place_of unit f.at f.claim) (list_at places (bucket (claim_hash x))) ≡ true) (sym same) (indexed unit f.at f.claim f.is) in
    let hashed : (claim_hash f.claim == claim_hash c) ≡ true = ap (λ (x : Claim). claim_hash f.claim == claim_hash x) same ∙ self (claim_hash f.claim) in
    let passes : is_there claims unit c (claim_hash c) (place_of unit f.at f.claim) ≡ true =
    ap (λ (b : Bool). b && ((unit == unit) && is_it c (slice_get (claims unit) f.at))) hashed
    ∙ ap (λ (b : Bool). b && is_it c (slice_get (claims unit) f.at)) (self unit)
    ∙ ap (is_it c) f.is ∙ f.passes in
    any_in (is_there claims unit c (claim_hash c)) (place_of unit f.at f.claim) (list_at places (bucket (claim_hash c))) stands passes

-- the unit's own claim is found by its hash
pub own_found : (places : List (Vec Place)) (claims : ℕ → List Claim) (unit : ℕ) (c : Claim) → IsIndexed places claims
    → list_any (is_there claims unit c (claim_hash c)) (list_at places (bucket (claim_hash c))) ≡ has (claims unit) c
own_found places claims unit c indexed = own_cases (has (claims unit) c) places claims unit c indexed refl

-- ---- what is found by the counts

amount_in : (hs : List Holder) (at : ℕ) (h : Holder) (k : Use) → slice_get hs at ≡ Some h → amount h k ≤ counted hs k
amount_in [] at h k is = absurd cc
amount_in (x ∷ hs) zero h k is =
    let same : x ≡ h = cc in
    subst (λ (y : Holder). amount y k ≤ amount x k + counted hs k) same (front (amount x k) (counted hs k))
  where
    front : (a b : ℕ) → a ≤ a + b
    front a b = omega arith
amount_in (x ∷ hs) (suc at) h k is = back (amount h k) (amount x k) (counted hs k) (amount_in hs at h k is)
  where
    back : (a b c : ℕ) → a ≤ c → a ≤ b + c
    back a b c le = omega (arith, le)

-- a use of the claim's table, with claims that clash with a claim of all of it
clash_step : (b : Bool) (c d : Claim) (cs : List Claim) (k : Use) → c.key ≡ None → c.table ≡ k.table → (is_write c.access || is_write k.access) ≡ true
    → (bytes_eq d.table k.table && same_access d.access k.access) ≡ b → 0 < one_if b + used cs k → (0 < used cs k → list_any (clash c) cs ≡ true) → (clash c d || list_any (clash c) cs) ≡ true
clash_step true c d cs k all table writes is some rest =
    let same_table : d.table ≡ k.table = same_bytes d.table k.table (first_true (bytes_eq d.table k.table) (same_access d.access k.access) is) in
    let access : d.access ≡ k.access = access_true d.access k.access (second_true (bytes_eq d.table k.table) (same_access d.access k.access) is) in
    let one : (is_write c.access || is_write d.access) ≡ true = ap (λ (a : Access). is_write c.access || is_write a) access ∙ writes in
    let two : bytes_eq c.table d.table ≡ true = ap (λ (t : List ℕ). bytes_eq c.table t) (same_table ∙ sym table) ∙ bytes_eq-refl c.table in
    let three : overlap c.key d.key ≡ true = ap (λ (k : Option (List ℕ)). overlap k d.key) all in
    let clashes : clash c d ≡ true = ap (λ (b : Bool). b && (bytes_eq c.table d.table && overlap c.key d.key)) one ∙ ap (λ (b : Bool). b && overlap c.key d.key) two ∙ three in
    ap (λ (b : Bool). b || list_any (clash c) cs) clashes
clash_step false c d cs k all table writes is some rest = ap (λ (b : Bool). clash c d || b) (rest (omega (arith, some))) ∙ or_true (clash c d)

used_clash : (cs : List Claim) (c : Claim) (k : Use) → c.key ≡ None → c.table ≡ k.table → (is_write c.access || is_write k.access) ≡ true → 0 < used cs k → list_any (clash c) cs ≡ true
used_clash [] c k all table writes some = absurd (omega (arith, some))
used_clash (d ∷ cs) c k all table writes some =
    clash_step (bytes_eq d.table k.table && same_access d.access k.access) c d cs k all table writes refl some (used_clash cs c k all table writes)

pub found_holder : (holders : List (Vec Holder)) (claims : ℕ → List Claim) (unit other : ℕ) (c : Claim) → IsCounted holders claims → c.key ≡ None
    → Finds (blocks unit c) (λ (h : Holder). h.unit) (list_at holders (bucket (table_hash c.table))) other → ClashesWith claims unit c other
found_holder holders claims unit other c counts all f =
    let h = f.item in
    let rest = second_true (not (h.unit == unit)) ((is_write c.access || is_write h.access) && (bytes_eq c.table h.table.items && nat_lt 0 h.count)) f.passes in
    let another : h.unit ≢ unit = not_self h.unit unit (first_true (not (h.unit == unit)) ((is_write c.access || is_write h.access) && (bytes_eq c.table h.table.items && nat_lt 0 h.count)) f.passes) in
    let writes = first_true (is_write c.access || is_write h.access) (bytes_eq c.table h.table.items && nat_lt 0 h.count) rest in
    let third = second_true (is_write c.access || is_write h.access) (bytes_eq c.table h.table.items && nat_lt 0 h.count) rest in
    let table : c.table ≡ h.table.items = same_bytes c.table h.table.items (first_true (bytes_eq c.table h.table.items) (nat_lt 0 h.count) third) in
    let some : nat_lt 0 h.count ≡ true = second_true (bytes_eq c.table h.table.items) (nat_lt 0 h.count) third in
    let positive : 0 < h.count = grind (arith, nat_tests) in
    let own : amount h (use_of h) ≡ h.count = ap (λ (b : Bool). if b then h.count else 0) (use_self (use_of h)) in
    let among : amount h (use_of h) ≤ counted (list_at holders (bucket (table_hash c.table))) (use_of h) = amount_in (list_at holders (bucket (table_hash c.table))) f.at h (use_of h) f.is in
    let there : counted (list_at holders (bucket (table_hash c.table))) (use_of h) ≡ used (claims h.unit) (use_of h) =
    ap (λ (t : List ℕ). counted (list_at holders (bucket (table_hash t))) (use_of h)) table ∙ counts (use_of h) in
    let claimed : 0 < used (claims h.unit) (use_of h) = omega (arith, positive, own, among, there) in
    subst (λ (n : ℕ). ClashesWith claims unit c n) f.unit_is (record { another = another; clashes = used_clash (claims h.unit) c (use_of h) all table writes claimed })

-- where nothing blocks, no use that clashes is counted
none_blocks : (hs : List Holder) (unit : ℕ) (c : Claim) (k : Use) → list_any (blocks unit c) hs ≡ false → k.unit ≢ unit → c.table ≡ k.table → (is_write c.access || is_write k.access) ≡ true → counted hs k ≡ 0
none_blocks [] unit c k none another table writes = refl
none_blocks (h ∷ hs) unit c k none another table writes =
    let rest : counted hs k ≡ 0 = none_blocks hs unit c k (right_false (blocks unit c h) (list_any (blocks unit c) hs) none) another table writes in
    let first : amount h k ≡ 0 = empty (same_use (use_of h) k) refl (nat_lt 0 h.count) refl in
    ap (λ (n : ℕ). n + counted hs k) first ∙ ap (λ (n : ℕ). 0 + n) rest
  where
    empty : (b : Bool) → same_use (use_of h) k ≡ b → (some : Bool) → nat_lt 0 h.count ≡ some → (if b then h.count else 0) ≡ 0
    empty false is some counts = refl
    empty true is false counts = grind (arith, nat_tests)
    empty true is true counts =
        let owner : use_of h ≡ k = use_true (use_of h) k is in
        let one : not (h.unit == unit) ≡ true = ap not (ap (λ (x : Use). x.unit == unit) owner ∙ number_other k.unit unit another) in
        let two : (is_write c.access || is_write h.access) ≡ true = ap (λ (x : Use). is_write c.access || is_write x.access) owner ∙ writes in
        let three : bytes_eq c.table h.table.items ≡ true = ap (λ (x : Use). bytes_eq c.table x.table) owner ∙ ap (λ (t : List ℕ). bytes_eq c.table t) (sym table) ∙ bytes_eq-refl c.table in
        let blocked : blocks unit c h ≡ true =
        ap (λ (b : Bool). b && ((is_write c.access || is_write h.access) && (bytes_eq c.table h.table.items && nat_lt 0 h.count))) one
        ∙ ap (λ (b : Bool). b && (bytes_eq c.table h.table.items && nat_lt 0 h.count)) two ∙ ap (λ (b : Bool). b && nat_lt 0 h.count) three ∙ counts in
        let free : blocks unit c h ≡ false = left_false (blocks unit c h) (list_any (blocks unit c) hs) none in
        absurd cc

-- a claim that clashes is counted
clash_used : (cs : List Claim) (unit : ℕ) (c : Claim) → ((k : Use) → k.unit ≡ unit → c.table ≡ k.table → (is_write c.access || is_write k.access) ≡ true → used cs k ≡ 0) → list_any (clash c) cs ≡ false
clash_used [] unit c none = refl
clash_used (d ∷ cs) unit c none =
    ap (λ (b : Bool). b || list_any (clash c) cs) (free (clash c d) refl)
    ∙ clash_used cs unit c (λ k own table writes. last (one_if (bytes_eq d.table k.table && same_access d.access k.access)) (used cs k) (none k own table writes))
  where
    last : (a b : ℕ) → a + b ≡ 0 → b ≡ 0
    last a b h = omega (arith, h)

    free : (b : Bool) → clash c d ≡ b → clash c d ≡ false
    free false is = is
    free true is =
        let zero_used = none (use_in unit d) refl (one_table c d is) (first_true (is_write c.access || is_write d.access) (bytes_eq c.table d.table && overlap c.key d.key) is) in
        let own : (bytes_eq d.table d.table && same_access d.access d.access) ≡ true = second_true (unit == unit) (bytes_eq d.table d.table && same_access d.access d.access) (use_self (use_in unit d)) in
        let one : one_if (bytes_eq d.table d.table && same_access d.access d.access) ≡ 1 = ap one_if own in
        absurd (omega (arith, zero_used, one))

pub no_holder : (holders : List (Vec Holder)) (claims : ℕ → List Claim) (unit : ℕ) (c : Claim) → IsCounted holders claims
    → list_any (blocks unit c) (list_at holders (bucket (table_hash c.table))) ≡ false → ClashesWithNone claims unit c
no_holder holders claims unit c counts none other another =
    clash_used (claims other) other c (λ k own table writes.
    sym (ap (λ (n : ℕ). used (claims n) k) own) ∙ sym (counts k) ∙ ap (λ (t : List ℕ). counted (list_at holders (bucket (table_hash t))) k) (sym table)
    ∙ none_blocks (list_at holders (bucket (table_hash c.table))) unit c k none (λ e. another (sym own ∙ e)) table writes)
