-- What is dumped and listed is of the store that stood on a disk.
use Rattle.std.proofs.Common.{◌≡◌, ◌∙◌, refl, ap, ap₂, subst, ℕ, List, [], ◌++◌, Option, Result, Ok, Err, take}
use Rattle.std.specs.Io.KnownBytes.{Appends}
use Rattle.store_check.specs.Checkpoint.{CheckpointsAreStores}
use Rattle.core_model.specs.Step.{CoreState}
use Rattle.recovery.specs.Sound.{LeadsAreSound}
use Rattle.recovery.specs.Journaled.{OnDisk}
use Rattle.recovery.specs.StepLaws.{OpeningsAreKept}
use Rattle.durable_core.specs.Opening.{StoodThere}
use Rattle.store_dump.specs.Dump.{HasFront, IsWritten, list_text}
use Rattle.store_dump.proofs.Going.{appended, front_behind, front_of_front, front_taken}
use Rattle.told_stores.specs.Doubts.{listed_in}
use Rattle.told_stores.specs.Dumps.{IsDump, IsTableList, dumped}
use Rattle.told_stores.proofs.Doubted.{listed_stood}

pub is_dump : {D : Type 0} (image : List ℕ) (core : OnDisk D) → LeadsAreSound → CheckpointsAreStores → OpeningsAreKept → StoodThere image core → IsDump image (dumped (listed_in core.state.branches) core.state.base.store)
is_dump image core leads stores kept stood = record {
  name = core.name;
  state = stood.durable;
  opens = (core.layout, stood.region, stood.entries, stood.stood);
  is = ap₂ dumped (listed_stood image core leads stores kept stood) (ap (λ (s : CoreState). s.base.store) stood.is.state);
}

pub is_table_list : {D : Type 0} (image : List ℕ) (core : OnDisk D) → StoodThere image core → IsTableList image (list_text core.state.base.store)
is_table_list image core stood = record {
  name = core.name;
  state = stood.durable;
  opens = (core.layout, stood.region, stood.entries, stood.stood);
  is = ap (λ (s : CoreState). list_text s.base.store) stood.is.state;
}

-- ---- what is written

-- the comments, and then the tables
pub behind_comment : {E : Type 0} (comment tables bytes : List ℕ) (r : Result (Unit {0}) E) (before mid now : Option (List ℕ)) → bytes ≡ comment → Appends before mid bytes → IsWritten tables r mid now → IsWritten (comment ++ tables) r before now
behind_comment comment tables bytes (Ok done) before mid now is first second = appended before mid now comment tables (subst (λ (t : List ℕ). Appends before mid t) is first) second
behind_comment comment tables bytes (Err e) before mid now is first second =
    front_behind (comment ++ tables) comment tables before mid now refl (subst (λ (t : List ℕ). Appends before mid t) is first) second

-- the comments alone, or a front of them
pub in_comment : (comment tables bytes : List ℕ) (before now : Option (List ℕ)) → bytes ≡ comment → (count : ℕ) × Appends before now (take count bytes) → HasFront (comment ++ tables) before now
in_comment comment tables bytes before now is wrote =
    front_of_front (comment ++ tables) comment tables before now refl (subst (λ (t : List ℕ). HasFront t before now) is (front_taken bytes before now wrote))

pub written_of : {E : Type 0} (text other : List ℕ) (r : Result (Unit {0}) E) (before now : Option (List ℕ)) → text ≡ other → IsWritten text r before now → IsWritten other r before now
written_of text other r before now is w = subst (λ (t : List ℕ). IsWritten t r before now) is w
