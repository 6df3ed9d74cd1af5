-- Commits that are made together: who is chosen, how each is counted, and where they lead.
use Rattle.std.proofs.Common.{◌≡◌, ◌⊎◌, ◌<◌, ◌≤◌, ◌+◌, ⊎_elim, ℕ, zero, suc, List, [], ◌∷◌, ◌++◌, Option, Some, drop, get_or, length, slice_get, slice_set, refl, sym, ap, subst, ◌∙◌, inl, inr, arith, add-one}
use Rattle.std.proofs.lemmas.Option.{get_or_from_slice_get, slice_get_within}
use Rattle.std.proofs.Math.Seq.{drop-cons}
use Rattle.core_history.specs.declared.count.Count.{Count}
use Rattle.core_history.specs.declared.wish.Wish.{Wish}
use Rattle.core_history.specs.Gathered.{AreApart, AreMembers, IsMember, count_at}
use Rattle.core_history.proofs.Counting.{get_other}

-- ---- who is chosen

module _ {Y : Type 0} where
  -- what stands in a list that has one more at its end
  at_end : (xs : List Y) (x y : Y) (i : ℕ) → slice_get (xs ++ x ∷ []) i ≡ Some y → (slice_get xs i ≡ Some y) ⊎ ((i ≡ length xs) × (x ≡ y))
  at_end [] x y zero is = let both : Some x ≡ Some y = is in inr (refl, cc both)
  at_end [] x y (suc i) is = absurd (cc is)
  at_end (z ∷ xs) x y zero is = inl is
  at_end (z ∷ xs) x y (suc i) is = ⊎_elim (λ there. inl there) (λ last. inr (ap suc last.0, last.1)) (at_end xs x y i is)

pub one_member_more : (places : List (Option Count)) (wishes members : List Wish) (w : Wish) → AreMembers places wishes members → IsMember places wishes w → AreMembers places wishes (members ++ w ∷ [])
one_member_more places wishes members w are is at v stands =
    ⊎_elim (λ there. are at v there) (λ last. subst (λ (x : Wish). IsMember places wishes x) last.1 is) (at_end members w v at stands)

pub one_apart_more : (members : List Wish) (w : Wish) → AreApart members → ((at : ℕ) (v : Wish) → slice_get members at ≡ Some v → v.place ≡ w.place → ⊥) → AreApart (members ++ w ∷ [])
one_apart_more members w apart never here there u v one two same =
    ⊎_elim
    (λ first. ⊎_elim
    (λ second. apart here there u v first second same)
    (λ last. absurd (never here u first (same ∙ ap (λ (x : Wish). x.place) (sym last.1))))
    (at_end members w v there two))
    (λ last. ⊎_elim
    (λ second. absurd (never there v second (sym same ∙ ap (λ (x : Wish). x.place) (sym last.1))))
    (λ too. last.0 ∙ sym too.0)
    (at_end members w v there two))
    (at_end members w u here one)

-- ---- how they are counted

rest_by : (members : List Wish) (i : ℕ) (d : Wish) → i < length members → drop i members ≡ get_or members i d ∷ drop (i + 1) members
rest_by members i d below = rw (add-one, drop-cons members i d)

-- those that are left begin with the one that stands there
pub rest_is : (members : List Wish) (i : ℕ) (w : Wish) → slice_get members i ≡ Some w → drop i members ≡ w ∷ drop (i + 1) members
rest_is members i w stands = rest_by members i w (slice_get_within members i w stands) ∙ ap (λ (v : Wish). v ∷ drop (i + 1) members) (get_or_from_slice_get members i w w stands)

-- those behind the one that was just counted are counted as before
pub known_still : (places : List (Option Count)) (members : List Wish) (at : ℕ) (w : Wish) (now : Option Count) → AreApart members → slice_get members at ≡ Some w
    → ((k : ℕ) (v : Wish) → at ≤ k → slice_get members k ≡ Some v → slice_get places v.place ≡ Some (Some (count_at v)))
    → (k : ℕ) (v : Wish) → at + 1 ≤ k → slice_get members k ≡ Some v → slice_get (slice_set places w.place now) v.place ≡ Some (Some (count_at v))
known_still places members at w now apart here known k v behind stands =
    get_other places w.place v.place now (λ same. let one = apart at k w v here stands same in absurd (omega (arith, one, behind))) ∙ known k v (omega (arith, behind)) stands
