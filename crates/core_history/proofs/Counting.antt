-- One call more, one conversation more, and one less: each that has leave is counted still.
use Rattle.std.proofs.Common.{◌≡◌, ◌⊎◌, ◌<◌, ◌+◌, ◌==◌, ⊎_elim, ℕ, zero, suc, Bool, true, false, if◌then◌else◌, List, [], ◌∷◌, ◌++◌, Option, Some, None, length, replicate, slice_get, slice_set, refl, sym, ap, subst, ◌∙◌, inl, inr, arith, eq-eqb}
use Rattle.std.proofs.lemmas.Bool.{eqb-true}
use Rattle.serializability.specs.Answered.{AnsweredCall}
use Rattle.core_history.specs.declared.count.Count.{Count}
use Rattle.core_history.specs.Books.{AreCounted, calls_of}

-- ---- places

which : (b : Bool) → (b ≡ true) ⊎ (b ≡ false)
which true = inl refl
which false = inr refl

pub same_or_apart : (a b : ℕ) → (a ≡ b) ⊎ (a ≡ b → ⊥)
same_or_apart a b = ⊎_elim (λ so. inl (eqb-true a b so)) (λ no. inr (λ e. let both : true ≡ false = sym (eq-eqb a b e) ∙ no in absurd (cc both))) (which (a == b))

module _ {Y : Type 0} where
  pub get_set : (ys : List Y) (i : ℕ) (y z : Y) → slice_get ys i ≡ Some y → slice_get (slice_set ys i z) i ≡ Some z
  get_set [] i y z is = absurd (cc is)
  get_set (x ∷ ys) zero y z is = refl
  get_set (x ∷ ys) (suc i) y z is = get_set ys i y z is

  pub get_other : (ys : List Y) (i j : ℕ) (z : Y) → (i ≡ j → ⊥) → slice_get (slice_set ys i z) j ≡ slice_get ys j
  get_other [] i j z apart = refl
  get_other (x ∷ ys) zero zero z apart = absurd (apart refl)
  get_other (x ∷ ys) zero (suc j) z apart = refl
  get_other (x ∷ ys) (suc i) zero z apart = refl
  get_other (x ∷ ys) (suc i) (suc j) z apart = get_other ys i j z (λ e. apart (ap suc e))

  pub set_length : (ys : List Y) (i : ℕ) (z : Y) → length (slice_set ys i z) ≡ length ys
  set_length [] i z = refl
  set_length (x ∷ ys) zero z = refl
  set_length (x ∷ ys) (suc i) z = ap suc (set_length ys i z)

  pub get_below : (ys : List Y) (i : ℕ) (y : Y) → slice_get ys i ≡ Some y → i < length ys
  get_below [] i y is = absurd (cc is)
  get_below (x ∷ ys) zero y is = omega arith
  get_below (x ∷ ys) (suc i) y is = let below = get_below ys i y is in omega arith

  pub get_replicate : (n i : ℕ) (y z : Y) → slice_get (replicate n y) i ≡ Some z → z ≡ y
  get_replicate zero i y z is = absurd (cc is)
  get_replicate (suc n) zero y z is = let both : Some y ≡ Some z = is in cc both
  get_replicate (suc n) (suc i) y z is = get_replicate n i y z is

  pub length_replicate : (n : ℕ) (y : Y) → length (replicate n y) ≡ n
  length_replicate zero y = refl
  length_replicate (suc n) y = ap suc (length_replicate n y)

abbrev Places : Type 0
Places = List (Option Count)

-- what stands at a place that was set
at_set : (places : Places) (p : ℕ) (was now : Option Count) (c : Count) → slice_get places p ≡ Some was → slice_get (slice_set places p now) p ≡ Some (Some c) → now ≡ Some c
at_set places p was now c is stands =
    let both : Some now ≡ Some (Some c) = sym (get_set places p was now is) ∙ stands in cc both

-- ---- numbers

abbrev one_if_so : Bool → ℕ
one_if_so t = if t then 1 else 0

one_if : (a b : ℕ) → a ≡ b → one_if_so (a == b) ≡ 1
one_if a b e = ap one_if_so (eq-eqb a b e)

none_so : (t : Bool) → (t ≡ true → ⊥) → one_if_so t ≡ 0
none_so true never = absurd (never refl)
none_so false never = refl

none_if : (a b : ℕ) → (a ≡ b → ⊥) → one_if_so (a == b) ≡ 0
none_if a b apart = none_so (a == b) (λ t. apart (eqb-true a b t))

calls_more : (k : ℕ) (ls : List AnsweredCall) (l : AnsweredCall) → calls_of k (ls ++ l ∷ []) ≡ calls_of k ls + (if l.conversation == k then 1 else 0)
calls_more k [] l = omega arith
calls_more k (x ∷ ls) l = omega (arith, calls_more k ls l)

-- ---- one call more

module _ (calls : List AnsweredCall) (places : Places) (next : ℕ) (counted : AreCounted calls places next) (p : ℕ) (c d : Count) (l : AnsweredCall) (here : slice_get places p ≡ Some (Some c))
    (of : l.conversation ≡ c.conversation) (same : d.conversation ≡ c.conversation) (more : d.calls ≡ c.calls + 1) where
  abbrev after : Places
  after = slice_set places p (Some d)

  counts : (q : ℕ) (e : Count) → slice_get after q ≡ Some (Some e) → e.calls ≡ calls_of e.conversation (calls ++ l ∷ [])
  counts q e stands =
      ⊎_elim
      (λ so.
      let is : Some d ≡ Some e = at_set places p (Some c) (Some d) e here (subst (λ (n : ℕ). slice_get after n ≡ Some (Some e)) (sym so) stands) in
      let now : d ≡ e = cc is in
      let old = counted.counted p c here in
      let one = one_if l.conversation d.conversation (of ∙ sym same) in
      let all = calls_more d.conversation calls l in
      let moved : calls_of d.conversation calls ≡ calls_of c.conversation calls = ap (λ (n : ℕ). calls_of n calls) same in
      let done : d.calls ≡ calls_of d.conversation (calls ++ l ∷ []) = omega (arith, more, old, one, all, moved) in
      subst (λ (x : Count). x.calls ≡ calls_of x.conversation (calls ++ l ∷ [])) now done)
      (λ apart.
      let there : slice_get places q ≡ Some (Some e) = sym (get_other places p q (Some d) apart) ∙ stands in
      let other : l.conversation ≡ e.conversation → ⊥ = λ k. apart (counted.apart p q c e here there (sym of ∙ k)) in
      let old = counted.counted q e there in
      let none = none_if l.conversation e.conversation other in
      let all = calls_more e.conversation calls l in
      omega (arith, old, none, all))
      (same_or_apart p q)

  -- who stands at a place then had leave before, there
  was_there : (q : ℕ) (e : Count) → slice_get after q ≡ Some (Some e) → (f : Count) × (slice_get places q ≡ Some (Some f)) × (f.conversation ≡ e.conversation)
  was_there q e stands =
      ⊎_elim
      (λ so.
      let is : Some d ≡ Some e = at_set places p (Some c) (Some d) e here (subst (λ (n : ℕ). slice_get after n ≡ Some (Some e)) (sym so) stands) in
      let now : d ≡ e = cc is in
      (c, subst (λ (n : ℕ). slice_get places n ≡ Some (Some c)) so here, sym same ∙ ap (λ (x : Count). x.conversation) now))
      (λ apart. (e, sym (get_other places p q (Some d) apart) ∙ stands, refl))
      (same_or_apart p q)

  pub one_more : AreCounted (calls ++ l ∷ []) after next
  one_more = record {
    counted = counts;
    given = λ q e stands. let (f, there, is) = was_there q e stands in subst (λ (n : ℕ). n < next) is (counted.given q f there);
    apart = λ q r e f one two equal.
        let (x, there, is) = was_there q e one in
        let (y, where_too, is_too) = was_there r f two in
        counted.apart q r x y there where_too (is ∙ equal ∙ sym is_too);
    fresh = λ k least.
        let mine = counted.given p c here in
        let other : l.conversation ≡ k → ⊥ = λ e. let so : c.conversation ≡ k = sym of ∙ e in absurd (omega (arith, mine, so, least)) in
        let old = counted.fresh k least in
        let none = none_if l.conversation k other in
        let all = calls_more k calls l in
        omega (arith, old, none, all);
  }

-- ---- one conversation more

module _ (calls : List AnsweredCall) (places : Places) (next : ℕ) (counted : AreCounted calls places next) (p : ℕ) (free : slice_get places p ≡ Some None) where
  abbrev newcomer : Count
  newcomer = record { conversation = next; calls = 0 }

  abbrev let_in : Places
  let_in = slice_set places p (Some newcomer)

  -- it is the newcomer, or who had leave before
  who : (q : ℕ) (e : Count) → slice_get let_in q ≡ Some (Some e) → ((p ≡ q) × (newcomer ≡ e)) ⊎ (slice_get places q ≡ Some (Some e))
  who q e stands =
      ⊎_elim
      (λ so.
      let is : Some newcomer ≡ Some e = at_set places p None (Some newcomer) e free (subst (λ (n : ℕ). slice_get let_in n ≡ Some (Some e)) (sym so) stands) in
      inl (so, cc is))
      (λ apart. inr (sym (get_other places p q (Some newcomer) apart) ∙ stands))
      (same_or_apart p q)

  pub one_let_in : AreCounted calls let_in (next + 1)
  one_let_in = record {
    counted = λ q e stands. ⊎_elim
        (λ w. let none = counted.fresh next (omega arith) in subst (λ (x : Count). x.calls ≡ calls_of x.conversation calls) w.1 (sym none))
        (λ there. counted.counted q e there)
        (who q e stands);
    given = λ q e stands. ⊎_elim
        (λ w. subst (λ (x : Count). x.conversation < next + 1) w.1 (omega arith))
        (λ there. let below = counted.given q e there in omega (arith, below))
        (who q e stands);
    apart = λ q r e f one two equal. ⊎_elim
        (λ v. ⊎_elim
        (λ w. sym v.0 ∙ w.0)
        (λ there.
        let below = counted.given r f there in
        let so : next ≡ f.conversation = ap (λ (x : Count). x.conversation) v.1 ∙ equal in
        absurd (omega (arith, below, so)))
        (who r f two))
        (λ there. ⊎_elim
        (λ w.
        let below = counted.given q e there in
        let so : next ≡ e.conversation = ap (λ (x : Count). x.conversation) w.1 ∙ sym equal in
        absurd (omega (arith, below, so)))
        (λ where_too. counted.apart q r e f there where_too equal)
        (who r f two))
        (who q e one);
    fresh = λ k least. counted.fresh k (omega (arith, least));
  }

-- ---- one conversation less

none_there : (places : Places) (p : ℕ) (e : Count) → slice_get (slice_set places p None) p ≡ Some (Some e) → ⊥
none_there [] p e stands = absurd (cc stands)
none_there (x ∷ places) zero e stands = let is : Some None ≡ Some (Some e) = stands in absurd (cc is)
none_there (x ∷ places) (suc p) e stands = none_there places p e stands

stood : (places : Places) (p q : ℕ) (e : Count) → slice_get (slice_set places p None) q ≡ Some (Some e) → slice_get places q ≡ Some (Some e)
stood places p q e stands =
    ⊎_elim
    (λ so. absurd (none_there places p e (subst (λ (n : ℕ). slice_get (slice_set places p None) n ≡ Some (Some e)) (sym so) stands)))
    (λ apart. sym (get_other places p q None apart) ∙ stands)
    (same_or_apart p q)

pub one_less : (calls : List AnsweredCall) (places : Places) (next p : ℕ) → AreCounted calls places next → AreCounted calls (slice_set places p None) next
one_less calls places next p counted = record {
  counted = λ q e stands. counted.counted q e (stood places p q e stands);
  given = λ q e stands. counted.given q e (stood places p q e stands);
  apart = λ q r e f one two equal. counted.apart q r e f (stood places p q e one) (stood places p r f two) equal;
  fresh = counted.fresh;
}

-- ---- nobody yet

suc_is : (n : ℕ) → suc (n + 1) ≡ suc n + 1
suc_is n = omega arith

pub replicate_more : {Y : Type 0} (n : ℕ) (y : Y) → replicate n y ++ y ∷ [] ≡ replicate (n + 1) y
replicate_more zero y = refl
replicate_more (suc n) y = ap (λ ys. y ∷ ys) (replicate_more n y) ∙ ap (λ k. replicate k y) (suc_is n)

pub none_yet : AreCounted [] (replicate 64 None) 1
none_yet = record {
  counted = λ q e stands. absurd (let both = get_replicate 64 q None (Some e) stands in cc both);
  given = λ q e stands. absurd (let both = get_replicate 64 q None (Some e) stands in cc both);
  apart = λ q r e f one two equal. absurd (let both = get_replicate 64 q None (Some e) one in cc both);
  fresh = λ k least. refl;
}
