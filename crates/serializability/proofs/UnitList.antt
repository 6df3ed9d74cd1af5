-- A list of units keeps them by their owners.
use Rattle.std.proofs.Common.{◌≡◌, ⊎_elim, ℕ, Bool, true, false, List, [], ◌∷◌, ◌++◌, ◌==◌, refl, sym, ◌∙◌, ap, subst, eq-eqb}
use Rattle.std.proofs.lemmas.Bool.{eqb-true}
use Rattle.std.specs.Prelude.{if◌then◌else◌}
use Rattle.serializability.specs.Words.{Words, In}
use Rattle.serializability.specs.Events.{UnitMapLaws, Work, idle}
use Rattle.serializability.specs.UnitList.{Held, has, others, set_unit, unit_list, unit_of, without}
use Rattle.serializability.proofs.Order.{in_left, in_right}
use Rattle.serializability.proofs.Running.{both, if_false, which}

pub flip : (a b : ℕ) → (a == b) ≡ false → (b == a) ≡ false
flip a b ne = ⊎_elim (λ so. both (a == b) (eq-eqb a b (sym (eqb-true b a so))) ne) (λ n. n) (which (b == a))

not_this : (c o k : ℕ) → (c == o) ≡ false → (k == o) ≡ true → (c == k) ≡ false
not_this c o k ne so = ap (λ x. c == x) (eqb-true k o so) ∙ ne

module _ (w : Words) where
  unit_of_without : (c o : ℕ) (hs : List (Held w)) → (c == o) ≡ false → unit_of w c (without w o hs) ≡ unit_of w c hs
  unit_of_without c o [] ne = refl
  unit_of_without c o (h ∷ hs) ne =
      ⊎_elim
      (λ so. ap (λ b. unit_of w c (if b then without w o hs else h ∷ without w o hs)) so ∙ unit_of_without c o hs ne ∙ sym (ap (λ b. if b then h.work else unit_of w c hs) (not_this c o h.owner ne so)))
      (λ n. ap (λ b. unit_of w c (if b then without w o hs else h ∷ without w o hs)) n ∙ ap (λ u. if c == h.owner then h.work else u) (unit_of_without c o hs ne))
      (which (h.owner == o))

  unit_of_gone : (o : ℕ) (hs : List (Held w)) → unit_of w o (without w o hs) ≡ idle w
  unit_of_gone o [] = refl
  unit_of_gone o (h ∷ hs) =
      ⊎_elim
      (λ so. ap (λ b. unit_of w o (if b then without w o hs else h ∷ without w o hs)) so ∙ unit_of_gone o hs)
      (λ n. ap (λ b. unit_of w o (if b then without w o hs else h ∷ without w o hs)) n ∙ ap (λ b. if b then h.work else unit_of w o (without w o hs)) (flip h.owner o n) ∙ unit_of_gone o hs)
      (which (h.owner == o))

  others_has : (c o : ℕ) (hs : List (Held w)) (x : w.Claim) → (c == o) ≡ false → In x (unit_of w c hs).claims → In x (others w o hs)
  others_has c o [] x ne i = absurd i
  others_has c o (h ∷ hs) x ne i =
      let P : Bool → Type 0 = λ b. In x (if b then others w o hs else h.work.claims ++ others w o hs) in
      let Q : Bool → Type 0 = λ b. In x (if b then h.work else unit_of w c hs).claims in
      ⊎_elim
      (λ so. subst P (sym so) (others_has c o hs x ne (subst Q (not_this c o h.owner ne so) i)))
      (λ n. subst P (sym n) (⊎_elim
      (λ mine. in_left x h.work.claims (others w o hs) (subst Q mine i))
      (λ not_mine. in_right x h.work.claims (others w o hs) (others_has c o hs x ne (subst Q not_mine i)))
      (which (c == h.owner))))
      (which (h.owner == o))

  not_has : (c : ℕ) (hs : List (Held w)) → has w c hs ≡ false → unit_of w c hs ≡ idle w
  not_has c [] ne = refl
  not_has c (h ∷ hs) ne =
      let two = if_false (c == h.owner) (has w c hs) ne in
      ap (λ b. if b then h.work else unit_of w c hs) two.0 ∙ not_has c hs two.1

  set_elsewhere : (c o : ℕ) (u : Work w) (hs : List (Held w)) → (c == o) ≡ false → unit_of w c (set_unit w o u hs) ≡ unit_of w c hs
  set_elsewhere c o u hs ne = ap (λ b. if b then u else unit_of w c (without w o hs)) ne ∙ unit_of_without c o hs ne

  pub list_laws : UnitMapLaws w (unit_list w)
  list_laws = record {
    same_itself = λ o. eq-eqb o o refl;
    same_is = λ c o so. eqb-true c o so;
    set_here = λ o u hs. ap (λ b. if b then u else unit_of w o (without w o hs)) (eq-eqb o o refl);
    set_elsewhere = set_elsewhere;
    gone = unit_of_gone;
    stays = unit_of_without;
    others_has = λ c o hs x ne i. others_has c o hs x ne i;
    has_not = not_has;
  }
