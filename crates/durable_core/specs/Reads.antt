-- What is read of a store, or why it is not.
use Rattle.std.specs.Prelude.{◌≡◌, ℕ, ◌+◌, ◌-◌, ◌*◌, ◌^◌, ◌≤◌, List, length, Result, Ok, Err}
use Rattle.drda_disk.specs.Region.{end_of}
use Rattle.drda_disk.specs.Layout.{page_bytes}
use Rattle.half_store.specs.Active.{active_of, not_a_store}
use Rattle.half_store.specs.Layout.{half_len}
use Rattle.half_store.specs.Opened.{store_of}
use Rattle.half_store.specs.declared.active.Active.{Active}
use Rattle.recovery.specs.Opens.{IsJournal}
use Rattle.durable_core.specs.Damage.{IsDamagedAt}
use Rattle.durable_core.specs.declared.errors.OpenError.{OpenError}
use Rattle.durable_core.specs.declared.errors.OpenError.TheVariants.{Damaged, DeviceFailed, NoMemory, NotAStore}

-- memory was refused or the device failed: nothing is said of the store
abbrev pub IsExcused : OpenError → Type 0
IsExcused NotAStore = ⊥
IsExcused (Damaged at) = ⊥
IsExcused DeviceFailed = Unit {0}
IsExcused NoMemory = Unit {0}

-- the device has failed once more exactly where that is told
abbrev pub CountsError : OpenError → ℕ → ℕ → Type 0
CountsError NotAStore old new = new ≡ old
CountsError (Damaged at) old new = new ≡ old
CountsError DeviceFailed old new = new ≡ old + 1
CountsError NoMemory old new = new ≡ old

-- an image is no store, or it is damaged at an offset, where that is told
abbrev pub TellsNoStore : OpenError → List ℕ → Type 0
TellsNoStore NotAStore image = active_of image ≡ Err not_a_store
TellsNoStore (Damaged at) image = IsDamagedAt image at
TellsNoStore DeviceFailed image = Unit {0}
TellsNoStore NoMemory image = Unit {0}

-- no damage is told, and not that it is no store
abbrev pub IsPlain : {T : Type 0} → Result T OpenError → Type 0
IsPlain (Ok x) = Unit {0}
IsPlain (Err e) = IsExcused e

abbrev pub TellsStore : {T : Type 0} → Result T OpenError → List ℕ → Type 0
TellsStore (Ok x) image = Unit {0}
TellsStore (Err e) image = TellsNoStore e image

-- that it is no store is not told, and damage only where it is
abbrev pub TellsDamage : {T : Type 0} → Result T OpenError → (ℕ → Type 0) → Type 0
TellsDamage (Ok x) IsThere = Unit {0}
TellsDamage (Err NotAStore) IsThere = ⊥
TellsDamage (Err (Damaged at)) IsThere = IsThere at
TellsDamage (Err DeviceFailed) IsThere = Unit {0}
TellsDamage (Err NoMemory) IsThere = Unit {0}

abbrev pub Counts : {T : Type 0} → Result T OpenError → ℕ → ℕ → Type 0
Counts (Ok x) old new = new ≡ old
Counts (Err e) old new = CountsError e old new

-- ---- the head

-- an image is this store, and its journal's region is what is left behind the pages
pub record IsHead (image : List ℕ) (a : Active) : Type 0 where
  pub active : active_of image ≡ Ok (store_of a)
  pub journal : IsJournal (length image) (store_of a) a.region

-- the pages of a half lie in the disk, between the beginning of the half and its journal
pub record ArePagesInside (size : ℕ) (a : Active) : Type 0 where
  pub behind : page_bytes * a.pages ≤ a.region.at
  pub small : a.region.at ≤ 2 ^ 40
  pub inside : a.region.at ≤ size
  pub apart : end_of a.region - half_len size + page_bytes * a.pages ≤ a.region.at
