-- A core that marks prepared units meets what the law asks of calls.
use Rattle.std.proofs.Common.{◌≡◌, ◌⊎◌, inl, inr, ⊎_elim, Bool, true, false, [], ◌∷◌, sym, ap, ◌∙◌, subst}
use Rattle.std.specs.Prelude.{if◌then◌else◌}
use Rattle.serializability.specs.Words.{Words}
use Rattle.serializability.specs.Events.{UnitMap, UnitMapLaws, Ask, Commit, Leave}
use Rattle.serializability.specs.Steps.{AsksOf, CallLaws, Ends}
use Rattle.serializability.specs.Prepared.{UnitCall, Does, Prepares, after_call, marked, call_events, prepared_units}
use Rattle.serializability.proofs.Running.{which}

module _ (w : Words) (k : UnitMap w) (kl : UnitMapLaws w k) where
  asks : (x : k.Owner → Bool) (call : UnitCall w k) → AsksOf w k x (call_events w k x call)
  asks x (Does (Ask o call)) =
      let P : Bool → Type 0 = λ b. AsksOf w k x (if b then [] else Ask o call ∷ []) in
      ⊎_elim (λ so. subst P (sym so) tt) (λ n. subst P (sym n) (n, tt)) (which (x o))
  asks x (Does (Commit o)) = tt
  asks x (Does (Leave o)) = tt
  asks x (Prepares o) = tt

  kept_mark : (o c : k.Owner) (x : k.Owner → Bool) → x c ≡ true → (marked w k o false x c ≡ true) ⊎ ((c ≡ o) ⊎ ⊥)
  kept_mark o c x is =
      ⊎_elim (λ so. inr (inl (kl.same_is c o so))) (λ n. inl (ap (λ b. if b then false else x c) n ∙ is)) (which (k.same c o))

  stays : (x : k.Owner → Bool) (call : UnitCall w k) (c : k.Owner) → x c ≡ true → (after_call w k x call c ≡ true) ⊎ Ends w k c (call_events w k x call)
  stays x (Does (Ask o call)) c is = inl is
  stays x (Does (Commit o)) c is = kept_mark o c x is
  stays x (Does (Leave o)) c is = kept_mark o c x is
  stays x (Prepares o) c is =
      inl (⊎_elim (λ so. ap (λ b. if b then true else x c) so) (λ n. ap (λ b. if b then true else x c) n ∙ is) (which (k.same c o)))

  pub prepared_laws : CallLaws w k (prepared_units w k)
  prepared_laws = record { asks = λ x b call. asks x call; stays = λ x b call o is. stays x call o is }
