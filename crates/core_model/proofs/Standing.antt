-- The claims of units: that they stay apart, few and distinct.
use Rattle.std.proofs.Common.{◌≡◌, ◌≤◌, ⊎_elim, Bool, true, false, List, [], length, refl, sym, ◌∙◌, ap, subst}
use Rattle.std.proofs.lemmas.Bool.{ltb-false}
use Rattle.unit_locks.specs.Claim.{Claim}
use Rattle.unit_locks.specs.Claims.{AddsClaims, AreDistinct, In, all_added}
use Rattle.unit_locks.specs.Clash.{IsSymmetric, clash}
use Rattle.tables.specs.Change.{Change}
use Rattle.core_calls.specs.Answer.{Answer}
use Rattle.core_model.specs.Units.{Owner, Work, clashes, left_of, others, same_owner, unit_of, view, without}
use Rattle.core_model.specs.Asked.{Done, Question, answer_to, changes_by, claims_of, kept, unfit}
use Rattle.core_model.specs.Events.{Ask, Base, Commit, Leave, bare, happens_asked}
use Rattle.core_model.specs.Step.{owner_of}
use Rattle.core_model.specs.Laws.{AreApart, AreFew, ClaimsStayFew, UnitsStayApart}
use Rattle.core_model.proofs.Owners.{others_has, owners_same, unit_of_gone, unit_of_other, unit_of_set, unit_of_without, which}
use Rattle.core_model.proofs.Asking.{all_apart, through}
use Rattle.core_model.proofs.Keeping.{step_keeps}

-- the claims of an owner's unit where another owner's was set, or taken out
set_here : (b : Base) (o p : Owner) (a : Answer) (w : Work) → same_owner p o ≡ true → (unit_of p (happens_asked b o (Done a w)).units).claims ≡ w.claims
set_here b o p a w so = subst (λ (n : Owner). (unit_of n (happens_asked b o (Done a w)).units).claims ≡ w.claims) (sym (owners_same p o so)) (ap (λ (u : Work). u.claims) (unit_of_set o w b.units))

set_there : (b : Base) (o p : Owner) (a : Answer) (w : Work) → same_owner p o ≡ false → (unit_of p (happens_asked b o (Done a w)).units).claims ≡ (unit_of p b.units).claims
set_there b o p a w ne = ap (λ (u : Work). u.claims) (unit_of_other p o w b.units ne)

out_here : (b : Base) (o p : Owner) → same_owner p o ≡ true → (unit_of p (without o b.units)).claims ≡ []
out_here b o p so = subst (λ (n : Owner). (unit_of n (without o b.units)).claims ≡ []) (sym (owners_same p o so)) (ap (λ (u : Work). u.claims) (unit_of_gone o b.units))

-- what is claimed once a unit was taken out was claimed before
out_was : (b : Base) (o p : Owner) (c : Claim) → In c (unit_of p (without o b.units)).claims → In c (unit_of p b.units).claims
out_was b o p c i =
    ⊎_elim
    (λ so. absurd (subst (In c) (out_here b o p so) i))
    (λ n. subst (In c) (ap (λ (u : Work). u.claims) (unit_of_without p o b.units n)) i)
    (which (same_owner p o))

module _ (found : Owner → Bool) where
  commit_apart : (b : Base) (o : Owner) → AreApart found b → AreApart found (bare b (Commit o))
  commit_apart b o apart p q ne new c d i j = apart p q ne new c d (out_was b o p c i) (out_was b o q d j)

  leave_apart : (b : Base) (o : Owner) → AreApart found b → AreApart found (bare b (Leave o))
  leave_apart b o apart p q ne new c d i j = apart p q ne new c d (out_was b o p c i) (out_was b o q d j)

module _ (adds : AddsClaims) (symmetric : IsSymmetric clash) where
  module _ (found : Owner → Bool) (b : Base) (o : Owner) (asker : found o ≡ false) (cs : List Claim) (a : Answer) (xs : List Change) (apart : AreApart found b) (free : clashes cs (others o b.units) ≡ false) where
    abbrev u : Work
    u = unit_of o b.units

    abbrev after : Base
    after = happens_asked b o (Done a (kept u cs xs))

    -- what the asker's unit claims and what another one does
    mine_apart : (p : Owner) → same_owner p o ≡ false → (c d : Claim) → In c (all_added u.claims cs) → In d (unit_of p b.units).claims → clash c d ≡ false
    mine_apart p ne c d i j =
        ⊎_elim
        (λ old. apart o p ne asker c d old j)
        (λ new. all_apart cs (others o b.units) free c d new (others_has p o b.units d ne j))
        (adds.only c u.claims cs i)

    mine_first : (p q : Owner) → same_owner q p ≡ false → same_owner p o ≡ true → (c d : Claim) → In c (unit_of p after.units).claims → In d (unit_of q after.units).claims → clash c d ≡ false
    mine_first p q ne so c d i j =
        let other : same_owner q o ≡ false = subst (λ (n : Owner). same_owner q n ≡ false) (owners_same p o so) ne in
        mine_apart q other c d (subst (In c) (set_here b o p a (kept u cs xs) so) i) (subst (In d) (set_there b o q a (kept u cs xs) other) j)

    mine_second : (p q : Owner) → same_owner p o ≡ false → same_owner q o ≡ true → (c d : Claim) → In c (unit_of p after.units).claims → In d (unit_of q after.units).claims → clash c d ≡ false
    mine_second p q ne so c d i j =
        symmetric c d ∙ mine_apart p ne d c (subst (In d) (set_here b o q a (kept u cs xs) so) j) (subst (In c) (set_there b o p a (kept u cs xs) ne) i)

    done_apart : AreApart found after
    done_apart p q ne new c d i j =
        ⊎_elim
        (λ so. mine_first p q ne so c d i j)
        (λ n. ⊎_elim
        (λ so. mine_second p q n so c d i j)
        (λ m. apart p q ne new c d (subst (In c) (set_there b o p a (kept u cs xs) n) i) (subst (In d) (set_there b o q a (kept u cs xs) m) j))
        (which (same_owner q o)))
        (which (same_owner p o))

  ask_apart : (found : Owner → Bool) (b : Base) (o : Owner) (q : Question) → found o ≡ false → AreApart found b → AreApart found (bare b (Ask o q))
  ask_apart found b o q asker apart =
      let u = unit_of o b.units in let v = view b.store u in
      through (others o b.units) u (claims_of q v) (answer_to q (left_of u) v) (changes_by q (left_of u) v) (AreApart found) b o (unfit q) apart
      (λ n m. done_apart found b o asker (claims_of q v) (answer_to q (left_of u) v) (changes_by q (left_of u) v) apart n)

  pub units_stay_apart : UnitsStayApart
  units_stay_apart found s c k asker apart = step_keeps (AreApart found) (commit_apart found) (leave_apart found) s c k (λ q. ask_apart found s.base (owner_of s.branches c) q asker apart) apart

-- ---- few and distinct

abbrev IsFew : List Claim → Type 0
IsFew cs = (length cs ≤ 65535) × AreDistinct cs

out_few : (b : Base) (o : Owner) → AreFew b → (p : Owner) → IsFew (unit_of p (without o b.units)).claims
out_few b o few p =
    ⊎_elim
    (λ so. subst IsFew (sym (out_here b o p so)) (ltb-false 65535 0 refl, tt))
    (λ n. subst IsFew (sym (ap (λ (u : Work). u.claims) (unit_of_without p o b.units n))) (few p))
    (which (same_owner p o))

module _ (adds : AddsClaims) where
  ask_few : (b : Base) (o : Owner) (q : Question) → AreFew b → AreFew (bare b (Ask o q))
  ask_few b o q few =
      let u = unit_of o b.units in let v = view b.store u in
      let cs = claims_of q v in let a = answer_to q (left_of u) v in let xs = changes_by q (left_of u) v in
      through (others o b.units) u cs a xs AreFew b o (unfit q) few
      (λ n m p. ⊎_elim
      (λ so. subst IsFew (sym (set_here b o p a (kept u cs xs) so)) (ltb-false 65535 (length (all_added u.claims cs)) m, adds.once u.claims cs (few o).1))
      (λ ne. subst IsFew (sym (set_there b o p a (kept u cs xs) ne)) (few p))
      (which (same_owner p o)))

  pub claims_stay_few : ClaimsStayFew
  claims_stay_few s c k few = step_keeps AreFew (λ b o h. out_few b o h) (λ b o h. out_few b o h) s c k (λ q. ask_few s.base (owner_of s.branches c) q few) few
