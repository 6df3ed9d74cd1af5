-- What stands in the buckets of places after one is put in, or taken out.
use Rattle.std.proofs.Common.{◌==◌, ◌≡◌, ◌≢◌, ◌⊎◌, ◌<◌, ◌≤◌, ◌+◌, ℕ, zero, suc, Bool, true, false, ◌&&◌, ◌||◌, List, [], ◌∷◌, ◌++◌, refl, sym, ap, subst, ◌∙◌, inl, inr, length, get_or, take, drop, arith, Some, eqb-true}
use Rattle.std.specs.List.{list_any, position, remove}
use Rattle.std.specs.Global.{Vec}
use Rattle.std.proofs.lemmas.List.Folds.{list_any-append}
use Rattle.std.proofs.lemmas.List.Quantifiers.{position-Some}
use Rattle.unit_locks.specs.declared.place.Place.{Place}
use Rattle.unit_locks.specs.Index.{bucket, is_in, is_place, placed}
use Rattle.unit_locks.specs.Lists.{list_at}
use Rattle.unit_locks.proofs.Tests.{first_true, or_true, same_or, second_true, self}

pub place_self : (p : Place) → is_place p p ≡ true
place_self p = rw (self p.hash, self p.unit, self p.at) refl

pub place_true : (p q : Place) → is_place p q ≡ true → p ≡ q
place_true p q h =
    let hash : p.hash ≡ q.hash = eqb-true p.hash q.hash (first_true (p.hash == q.hash) ((p.unit == q.unit) && (p.at == q.at)) h) in
    let rest = second_true (p.hash == q.hash) ((p.unit == q.unit) && (p.at == q.at)) h in
    let unit : p.unit ≡ q.unit = eqb-true p.unit q.unit (first_true (p.unit == q.unit) (p.at == q.at) rest) in
    let at : p.at ≡ q.at = eqb-true p.at q.at (second_true (p.unit == q.unit) (p.at == q.at) rest) in
    ap (λ (n : ℕ). let x : Place = record { at = n; hash = p.hash; unit = p.unit } in x) at
    ∙ ap (λ (n : ℕ). let x : Place = record { at = q.at; hash = n; unit = p.unit } in x) hash
    ∙ ap (λ (n : ℕ). let x : Place = record { at = q.at; hash = q.hash; unit = n } in x) unit

any_step : (b : Bool) (test : Place → Bool) (p q : Place) (ps : List Place) → is_place p q ≡ b → (b || is_in p ps) ≡ true → test p ≡ true
    → (is_in p ps ≡ true → list_any test ps ≡ true) → (test q || list_any test ps) ≡ true
any_step true test p q ps is h passes rest = let first : test q ≡ true = subst (λ (x : Place). test x ≡ true) (place_true p q is) passes in ap (λ (b : Bool). b || list_any test ps) first
any_step false test p q ps is h passes rest = ap (λ (b : Bool). test q || b) (rest h) ∙ or_true (test q)

-- an item is in the list that passes the test
pub any_in : (test : Place → Bool) (p : Place) (ps : List Place) → is_in p ps ≡ true → test p ≡ true → list_any test ps ≡ true
any_in test p [] h passes = absurd cc
any_in test p (q ∷ ps) h passes = any_step (is_place p q) test p q ps refl h passes (λ i. any_in test p ps i passes)

in_remove : (q : Place) (ps : List Place) (i : ℕ) (d : Place) → i < length ps → is_place q (get_or ps i d) ≡ false → is_in q (remove ps i) ≡ is_in q ps
in_remove q [] i d lt other = absurd (omega (arith, lt))
in_remove q (p ∷ ps) zero d lt other = sym (ap (λ (b : Bool). b || is_in q ps) other)
in_remove q (p ∷ ps) (suc i) d lt other = ap (λ (b : Bool). is_place q p || b) (in_remove q ps i d (omega (arith, lt)) other)

-- ---- a place is put in

pub put_there : (old new : List (Vec Place)) (p : Place) → list_at new (bucket p.hash) ≡ list_at old (bucket p.hash) ++ p ∷ [] → placed new p ≡ true
put_there old new p at =
    ap (is_in p) at ∙ list_any-append (is_place p) (list_at old (bucket p.hash)) (p ∷ [])
    ∙ ap (λ (b : Bool). is_in p (list_at old (bucket p.hash)) || (b || false)) (place_self p) ∙ or_true (is_in p (list_at old (bucket p.hash)))

pub put_kept : (old new : List (Vec Place)) (p : Place) → list_at new (bucket p.hash) ≡ list_at old (bucket p.hash) ++ p ∷ []
    → ((k : ℕ) → k ≢ bucket p.hash → list_at new k ≡ list_at old k) → (q : Place) → placed old q ≡ true → placed new q ≡ true
put_kept old new p at others q h = cases (same_or (bucket q.hash) (bucket p.hash))
  where
    cases : (bucket q.hash ≡ bucket p.hash) ⊎ (bucket q.hash ≢ bucket p.hash) → placed new q ≡ true
    cases (inl e) =
        let here : list_at new (bucket q.hash) ≡ list_at old (bucket q.hash) ++ p ∷ [] = ap (λ (b : ℕ). list_at new b) e ∙ at ∙ ap (λ (b : ℕ). list_at old b ++ p ∷ []) (sym e) in
        ap (is_in q) here ∙ list_any-append (is_place q) (list_at old (bucket q.hash)) (p ∷ []) ∙ ap (λ (b : Bool). b || is_in q (p ∷ [])) h
    cases (inr e) = ap (is_in q) (others (bucket q.hash) e) ∙ h

pub put_same : (old new : List (Vec Place)) (p : Place) → list_at new (bucket p.hash) ≡ list_at old (bucket p.hash)
    → ((k : ℕ) → k ≢ bucket p.hash → list_at new k ≡ list_at old k) → (q : Place) → placed old q ≡ true → placed new q ≡ true
put_same old new p at others q h = cases (same_or (bucket q.hash) (bucket p.hash))
  where
    cases : (bucket q.hash ≡ bucket p.hash) ⊎ (bucket q.hash ≢ bucket p.hash) → placed new q ≡ true
    cases (inl e) = ap (λ (b : ℕ). is_in q (list_at new b)) e ∙ ap (is_in q) at ∙ ap (λ (b : ℕ). is_in q (list_at old b)) (sym e) ∙ h
    cases (inr e) = ap (is_in q) (others (bucket q.hash) e) ∙ h

-- ---- a place is taken out

pub forgotten : (old new : List (Vec Place)) (p : Place) (i : ℕ) → position (is_place p) (list_at old (bucket p.hash)) ≡ Some i
    → list_at new (bucket p.hash) ≡ remove (list_at old (bucket p.hash)) i → ((k : ℕ) → k ≢ bucket p.hash → list_at new k ≡ list_at old k)
    → (q : Place) → is_place q p ≡ false → placed old q ≡ true → placed new q ≡ true
forgotten old new p i found at others q apart h = cases (same_or (bucket q.hash) (bucket p.hash))
  where
    cases : (bucket q.hash ≡ bucket p.hash) ⊎ (bucket q.hash ≢ bucket p.hash) → placed new q ≡ true
    cases (inl e) =
        let f = position-Some (is_place p) (list_at old (bucket p.hash)) i p found in
        let same : p ≡ get_or (list_at old (bucket p.hash)) i p = place_true p (get_or (list_at old (bucket p.hash)) i p) f.1 in
        let other : is_place q (get_or (list_at old (bucket p.hash)) i p) ≡ false = sym (ap (is_place q) same) ∙ apart in
        ap (λ (b : ℕ). is_in q (list_at new b)) e ∙ ap (is_in q) at ∙ in_remove q (list_at old (bucket p.hash)) i p f.0 other
        ∙ ap (λ (b : ℕ). is_in q (list_at old b)) (sym e) ∙ h
    cases (inr e) = ap (is_in q) (others (bucket q.hash) e) ∙ h
