-- What was answered stays.
use Rattle.std.proofs.Common.{◌≡◌, ◌⊎◌, ℕ, List, [], Some, inl, inr, sym, ◌∙◌, subst, append-nil}
use Rattle.drda_disk.specs.Disk.{Life}
use Rattle.unit_records.specs.Records.{UnitRecord}
use Rattle.recovery.specs.Durable.{Durable, replayed_from}
use Rattle.recovery.specs.Laws.{GoesOn}
use Rattle.recovery.specs.Part.{durable_part}
use Rattle.recovery.specs.Opens.{OpensTo}
use Rattle.recovery.specs.Journaled.{AnsweredStays, OpensAfter, OpensAfterAll, all_in}
use Rattle.recovery.proofs.Going.{led_all}

module _ (name : List ℕ) (d e : Durable) (groups : List (List UnitRecord)) (leads : replayed_from d (all_in groups) ≡ Some e) (image : List ℕ) where
  -- what all groups lead to is one state
  opens_there : OpensAfter name d groups image → OpensTo name e image
  opens_there o =
      let both : Some o.state ≡ Some e = sym o.leads ∙ leads in
      let same : o.state ≡ e = cc both in
      subst (λ (f : Durable). OpensTo name f image) same o.opens

  none_begun : OpensAfterAll name d groups [] image → OpensTo name e image
  none_begun (inl o) = opens_there o
  none_begun (inr o) = opens_there (subst (λ (l : List (List UnitRecord)). OpensAfter name d l image) (append-nil groups) o)

  some_begun : GoesOn → (begun : List (List UnitRecord)) → OpensAfterAll name d groups begun image → OpensTo name e image ⊎ ((state : Durable) × (replayed_from e (all_in begun) ≡ Some state) × OpensTo name state image)
  some_begun goes_on begun (inl o) = inl (opens_there o)
  some_begun goes_on begun (inr o) = inr (o.state, sym (led_all goes_on d e groups begun leads) ∙ o.leads, o.opens)

pub answered_stays : GoesOn → {D : Type 0} (life : D → Life) → AnsweredStays life
answered_stays goes_on life = record {
  going = λ groups old new image made now. none_begun old.name (durable_part old.state) (durable_part new.state) groups made.state image (made.left image now);
  failed = λ groups begun old new image made now. some_begun old.name (durable_part old.state) (durable_part new.state) groups made.state image goes_on begun (made.left image now);
}
