-- The units in doubt of what stood on a disk.
use Rattle.std.proofs.Common.{◌≡◌, ◌∙◌, refl, ap, ℕ, suc, List, [], ◌∷◌, length, map}
use Rattle.store_check.specs.Checkpoint.{CheckpointsAreStores}
use Rattle.core_model.specs.Step.{CoreState}
use Rattle.core_model.specs.Units.{Held}
use Rattle.xa_manager.specs.declared.branch.Branch.{Branch}
use Rattle.xa_manager.specs.Branch.{in_doubt_xids}
use Rattle.recovery.specs.Durable.{Durable}
use Rattle.recovery.specs.Sound.{LeadsAreSound}
use Rattle.recovery.specs.Part.{doubt_at, doubts_in, opened}
use Rattle.recovery.specs.Journaled.{OnDisk}
use Rattle.recovery.specs.StepLaws.{OpeningsAreKept}
use Rattle.durable_core.specs.Opening.{StoodThere}
use Rattle.told_stores.specs.Doubts.{Listed, listed_in, listed_of}
use Rattle.told_stores.specs.Doubts.{AreDoubts, listed_as}

listed_each : (branches : List Branch) (units : List Held) (xids : List (List ℕ)) → map (listed_of branches) xids ≡ map listed_as (map (λ (xid : List ℕ). (xid, doubt_at branches units xid)) xids)
listed_each branches units [] = refl
listed_each branches units (xid ∷ xids) = ap (λ (l : List Listed). listed_of branches xid ∷ l) (listed_each branches units xids)

-- what is listed is listed of those that are durable
listed_durable : (branches : List Branch) (units : List Held) → listed_in branches ≡ map listed_as (doubts_in branches units)
listed_durable branches units = listed_each branches units (in_doubt_xids branches)

pub as_many : (branches : List Branch) (xids : List (List ℕ)) → length (map (listed_of branches) xids) ≡ length xids
as_many branches [] = refl
as_many branches (xid ∷ xids) = ap (λ (n : ℕ). suc n) (as_many branches xids)

-- those of a core are those of what stood on its disk
pub listed_stood : {D : Type 0} (image : List ℕ) (core : OnDisk D) → LeadsAreSound → CheckpointsAreStores → OpeningsAreKept → (stood : StoodThere image core) → listed_in core.state.branches ≡ map listed_as stood.durable.doubts
listed_stood image core leads stores kept stood =
    let sound = leads stood.stood.checkpoint stood.durable stood.entries (stores image _ stood.stood.checkpoint stood.stood.pages) stood.stood.leads in
    let first : CoreState = opened stood.durable in
    ap (λ (s : CoreState). listed_in s.branches) stood.is.state ∙ (listed_durable first.branches first.base.units ∙ ap (λ (d : Durable). map listed_as d.doubts) (kept stood.durable sound).part)

pub are_doubts : {D : Type 0} (image : List ℕ) (core : OnDisk D) (doubts : List Listed) → LeadsAreSound → CheckpointsAreStores → OpeningsAreKept → StoodThere image core → doubts ≡ listed_in core.state.branches → AreDoubts doubts image
are_doubts image core doubts leads stores kept stood is =
    let sound = leads stood.stood.checkpoint stood.durable stood.entries (stores image _ stood.stood.checkpoint stood.stood.pages) stood.stood.leads in
    record {
      name = core.name;
      state = stood.durable;
      opens = (core.layout, stood.region, stood.entries, stood.stood);
      listed = is ∙ listed_stood image core leads stores kept stood;
      rising = sound.rising;
    }
