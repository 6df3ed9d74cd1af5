-- What making and opening stores reports, as those report it who ask for it.
use Rattle.std.proofs.Common.{◌≡◌, ◌∙◌, refl, sym, ap, subst, ℕ, true, List, Result, Ok, Err}
use Rattle.std.specs.Result.{result_unwrap_or}
use Rattle.drda_disk.specs.Disk.{Only}
use Rattle.drda_disk.specs.MemDisk.{life_of}
use Rattle.drda_disk.specs.declared.memory.MemDisk.{MemDisk}
use Rattle.half_store.specs.Active.{Refusal, Store, active_of}
use Rattle.half_store.specs.declared.header.Layout.TheVariants.{Two}
use Rattle.half_store.specs.Fresh.{IsFresh, fresh as fresh_of, is_name}
use Rattle.recovery.specs.Durable.{fresh}
use Rattle.recovery.specs.Journaled.{OnDisk}
use Rattle.recovery.specs.Opens.{OpensTo}
use Rattle.durable_core.specs.Reads.{IsExcused}
use Rattle.durable_core.specs.declared.errors.OpenError.{OpenError}
use Rattle.durable_core.specs.declared.errors.OpenError.TheVariants as errors
use Rattle.store_files.specs.Endings.{fault_for}
use Rattle.store_files.specs.InMemory.{BeginsFresh, syncs_in_memory}
use Rattle.store_files.specs.Opening.{HasSettled, IsOpened}
use Rattle.store_files.specs.Stores.{FindsFresh, IsOfDevice, MakesNamed}
use Rattle.store_files.specs.declared.fault.Fault.{Fault}
use Rattle.store_files.specs.declared.fault.Fault.TheVariants.{BadArguments, BadEvent, Damaged, Device, NoMemory, NoRoom, NotAStore, NotInDoubt}

-- ---- making

-- ---- opening

-- the name was good, so it is the device or memory
pub not_begun : (name : List ℕ) (fault : Fault) → is_name name ≡ true → MakesNamed name (Err fault) → BeginsFresh name (Err fault)
not_begun name BadArguments is named = named
not_begun name Device is named = is
not_begun name NotAStore is named = absurd named
not_begun name (Damaged at) is named = absurd named
not_begun name BadEvent is named = absurd named
not_begun name NoMemory is named = is
not_begun name NotInDoubt is named = absurd named
not_begun name NoRoom is named = absurd named

-- a store that was just made is of layout 2
layout_there : {D : Type 0} (name image : List ℕ) (core : OnDisk D) (store : Store) → IsFresh name image → active_of image ≡ Ok store → store.header.layout ≡ core.layout → core.layout ≡ Two
layout_there name image core store made active is =
    sym is ∙ ap (λ (r : Result Store Refusal). (result_unwrap_or r (fresh_of name)).header.layout) (sym active ∙ made.active)

pub begins : (name : List ℕ) (disk : MemDisk) (r : Result (OnDisk MemDisk) Fault) → is_name name ≡ true → Only (life_of disk) → IsFresh name (life_of disk).seen → OpensTo name fresh (life_of disk).seen → IsOpened true life_of disk r
    → HasSettled true life_of syncs_in_memory disk r → FindsFresh name r → BeginsFresh name r
begins name disk (Ok core) is only made opens over settles found =
    let stood = (over.stood refl).stood in
    (is, disk, record { only = only; opens = opens; over = over; settles = settles; finds = found; layout = layout_there name (life_of disk).seen core stood.store made stood.active stood.layout_is })
begins name disk (Err BadArguments) is only made opens over settles found = absurd found
begins name disk (Err Device) is only made opens over settles found = is
begins name disk (Err NotAStore) is only made opens over settles found = absurd found
begins name disk (Err (Damaged at)) is only made opens over settles found = absurd found
begins name disk (Err BadEvent) is only made opens over settles found = absurd found
begins name disk (Err NoMemory) is only made opens over settles found = is
begins name disk (Err NotInDoubt) is only made opens over settles found = absurd found
begins name disk (Err NoRoom) is only made opens over settles found = absurd found

excused_fault : (error : OpenError) → IsExcused error → IsOfDevice (fault_for error)
excused_fault errors.NotAStore is = absurd is
excused_fault (errors.Damaged at) is = absurd is
excused_fault errors.DeviceFailed is = tt
excused_fault errors.NoMemory is = tt

-- what says nothing of a store is of the device or of memory
pub excused_so : (fault : Fault) (error : OpenError) → fault ≡ fault_for error → IsExcused error → IsOfDevice fault
excused_so fault error is excused = subst IsOfDevice (sym is) (excused_fault error excused)
