-- What holds along whole histories.
use Rattle.std.proofs.Common.{ℕ, [], ◌∷◌, refl}
use Rattle.std.proofs.lemmas.Bool.{ltb-false}
use Rattle.tables.specs.Laws as tables
use Rattle.unit_locks.specs.Claims.{AddsClaims}
use Rattle.core_calls.specs.Call.{Call}
use Rattle.sql_semantics.specs.Frame as frame
use Rattle.sql_semantics.specs.Frame.{CoveredIsEnough}
use Rattle.core_model.specs.Step.{CoreState, Kept, Mark, Taken, owner_of, step_by, step_state}
use Rattle.core_model.specs.Laws.{HistoriesAreSane, IsSane, NewCoresAreSane}
use Rattle.core_model.proofs.Listing.{units_stay_listed}
use Rattle.core_model.proofs.Lying.{changes_lie}
use Rattle.core_model.proofs.Sounding.{stores_stay, units_see_stores}
use Rattle.core_model.proofs.Standing.{claims_stay_few}

module _ (created : tables.Created) (puts : tables.Put) (removed : tables.Removed) (keeps : tables.StoresAreKept) (adds : AddsClaims) (enough : CoveredIsEnough) (lying : frame.Lies) where
  step_sane : (s : CoreState) (c : ℕ) (k : Call) → IsSane s.base → IsSane (step_state s c k).base
  step_sane s c k sane = record {
    listed = units_stay_listed s c k sane.listed;
    sound = stores_stay keeps s c k sane.sound;
    lie = changes_lie created puts removed adds enough lying s c k (units_see_stores keeps s.base sane.sound (owner_of s.branches c)) sane.lie;
    few = claims_stay_few adds s c k sane.few;
  }

  by_mark : (m : Mark) (s : CoreState) (c : ℕ) (k : Call) → IsSane s.base → IsSane (step_by m s c k).base
  by_mark Taken s c k sane = step_sane s c k sane
  by_mark Kept s c k sane = sane

  pub histories_are_sane : HistoriesAreSane
  histories_are_sane [] s sane = sane
  histories_are_sane (l ∷ ls) s sane = histories_are_sane ls (step_by l.mark s l.conversation l.call) (by_mark l.mark s l.conversation l.call sane)

pub new_cores_are_sane : NewCoresAreSane
new_cores_are_sane = record { listed = tt; sound = (refl, λ o x i. absurd i); lie = λ o x i. absurd i; few = λ o. (ltb-false 65535 0 refl, tt) }
