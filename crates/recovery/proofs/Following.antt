-- Records one after another.
use Rattle.std.proofs.Common.{◌≡◌, ℕ, zero, suc, List, [], ◌∷◌, ◌++◌, take, Option, Some, None, refl, ap, ◌∙◌}
use Rattle.std.specs.Option.{option_and_then}
use Rattle.unit_records.specs.Records.{UnitRecord}
use Rattle.recovery.specs.Durable.{Durable, next, replayed_from}
use Rattle.recovery.specs.Laws.{FrontsStand, GoesOn, OneMore}

step_on : (rs more : List UnitRecord) (o : Option Durable) → ((e : Durable) → replayed_from e (rs ++ more) ≡ option_and_then (λ (f : Durable). replayed_from f more) (replayed_from e rs))
    → option_and_then (λ (e : Durable). replayed_from e (rs ++ more)) o ≡ option_and_then (λ (f : Durable). replayed_from f more) (option_and_then (λ (e : Durable). replayed_from e rs) o)
step_on rs more None on = refl
step_on rs more (Some e) on = on e

pub goes_on : GoesOn
goes_on d [] more = refl
goes_on d (r ∷ rs) more = step_on rs more (next d r) (λ e. goes_on e rs more)

last : (o : Option Durable) (r : UnitRecord) → option_and_then (λ (e : Durable). replayed_from e (r ∷ [])) o ≡ option_and_then (λ (e : Durable). next e r) o
last None r = refl
last (Some e) r = one (next e r)
  where
    one : (o : Option Durable) → option_and_then (λ (e : Durable). Some e) o ≡ o
    one None = refl
    one (Some f) = refl

-- a record alone
pub one_step : (d e : Durable) (r : UnitRecord) → next d r ≡ Some e → replayed_from d (r ∷ []) ≡ Some e
one_step d e r step = ap (option_and_then (λ (f : Durable). replayed_from f [])) step

pub one_more : OneMore
one_more d rs r = goes_on d rs (r ∷ []) ∙ last (replayed_from d rs) r

front_on : (e : Durable) (rs : List UnitRecord) (n : ℕ) (o : Option Durable) → ((x : Durable) → replayed_from x rs ≡ Some e → (f : Durable) × (replayed_from x (take n rs) ≡ Some f))
    → option_and_then (λ (x : Durable). replayed_from x rs) o ≡ Some e → (f : Durable) × (option_and_then (λ (x : Durable). replayed_from x (take n rs)) o ≡ Some f)
front_on e rs n None on h = absurd cc
front_on e rs n (Some x) on h = on x h

pub fronts_stand : FrontsStand
fronts_stand d e rs zero is = (d, refl)
fronts_stand d e [] (suc n) is = (d, refl)
fronts_stand d e (r ∷ rs) (suc n) is = front_on e rs n (next d r) (λ x. fronts_stand x e rs n) is
