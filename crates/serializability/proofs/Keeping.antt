-- What every event keeps.
use Rattle.std.proofs.Common.{⊎_elim, Bool, false, sym, subst}
use Rattle.std.specs.Prelude.{if◌then◌else◌}
use Rattle.serializability.specs.Words.{Words, AllWithin, Laws, clashes}
use Rattle.serializability.specs.Events.{UnitMap, UnitMapLaws, Work, view, Outcome, Clashes, TooMany, Done, kept, Ask, Commit, Leave}
use Rattle.serializability.specs.Serial.{AllLie}
use Rattle.serializability.specs.Steps.{Base, EventsKeep, IsKept, bare, bare_asked}
use Rattle.serializability.proofs.Order.{grows_all, lies_grow, sound_all, kept_lies}
use Rattle.serializability.proofs.Running.{which}

module _ (w : Words) (l : Laws w) (k : UnitMap w) (kl : UnitMapLaws w k) where
  lies_without : (s : w.Store) (o : k.Owner) (units : k.Units) → AllLie w k s units → AllLie w k s (k.without o units)
  lies_without s o units all c =
      let P : Work w → Type 0 = λ u. AllWithin w s u.changes u.claims in
      ⊎_elim
      (λ so. subst (λ (n : k.Owner). P (k.unit_of n (k.without o units))) (sym (kl.same_is c o so)) (subst P (sym (kl.gone o units)) (λ x i. absurd i)))
      (λ n. subst P (sym (kl.stays c o units n)) (all c))
      (which (k.same c o))

  lies_set : (s : w.Store) (o : k.Owner) (v : Work w) (units : k.Units) → AllWithin w s v.changes v.claims → AllLie w k s units → AllLie w k s (k.set_unit o v units)
  lies_set s o v units here all c =
      let P : Work w → Type 0 = λ u. AllWithin w s u.changes u.claims in
      ⊎_elim
      (λ so. subst (λ (n : k.Owner). P (k.unit_of n (k.set_unit o v units))) (sym (kl.same_is c o so)) (subst P (sym (kl.set_here o v units)) here))
      (λ n. subst P (sym (kl.set_elsewhere c o v units n)) (all c))
      (which (k.same c o))

  asked_keeps : (b : Base w k) (o : k.Owner) (call : w.Call) → IsKept w k b → IsKept w k (bare w k b (Ask o call))
  asked_keeps b o call h =
      let u = k.unit_of o b.units in
      let v = kept w b.store u call in
      let cs = w.claims call (view w b.store u) in
      let a = w.answer call u.changes (view w b.store u) in
      let P : Outcome w → Type 0 = λ x. IsKept w k (bare_asked w k b o x) in
      let two : Bool → Bool → Outcome w = λ p q. if p then Clashes else if q then TooMany else Done a v in
      let done : P (Done a v) = record { sound = h.sound; lie = lies_set b.store o v b.units (kept_lies w l b.store u call h.sound (h.lie o)) h.lie } in
      let full = w.is_full (w.added u.claims cs) in
      let clash = clashes w cs (k.others o b.units) in
      ⊎_elim
      (λ so. subst (λ (p : Bool). P (two p full)) (sym so) h)
      (λ n. subst (λ (p : Bool). P (two p full)) (sym n) (⊎_elim
      (λ so. subst (λ (q : Bool). P (two false q)) (sym so) h)
      (λ m. subst (λ (q : Bool). P (two false q)) (sym m) done)
      (which full)))
      (which clash)

  pub events_keep : EventsKeep w k
  events_keep b (Ask o call) h = asked_keeps b o call h
  events_keep b (Commit o) h =
      let u = k.unit_of o b.units in record {
        sound = sound_all w l u.changes u.claims b.store h.sound (h.lie o);
        lie = lies_without (view w b.store u) o b.units (λ c. lies_grow w l (k.unit_of c b.units).changes (k.unit_of c b.units).claims b.store (view w b.store u) (grows_all w l u.changes b.store) (h.lie c));
      }
  events_keep b (Leave o) h = record { sound = h.sound; lie = lies_without b.store o b.units h.lie }
