-- What making and opening stores reports.
use Rattle.std.specs.Prelude.{◌≡◌, ℕ, true, false, List, Result, Ok, Err}
use Rattle.session_commands.specs.Settings.{is_rdb_name}
use Rattle.half_store.specs.Fresh.{is_name, is_store_of}
use Rattle.recovery.specs.Durable.{fresh}
use Rattle.recovery.specs.Journaled.{OnDisk}
use Rattle.durable_core.specs.Opening.{IsOpenedTo}
use Rattle.store_files.specs.declared.fault.Fault.{Fault}
use Rattle.store_files.specs.declared.fault.Fault.TheVariants.{BadArguments, BadEvent, Damaged, Device, NoMemory, NoRoom, NotAStore, NotInDoubt}

-- ---- faults

-- nothing is said of a store: the device failed, or memory was refused
abbrev pub IsOfDevice : Fault → Type 0
IsOfDevice BadArguments = ⊥
IsOfDevice Device = Unit {0}
IsOfDevice NotAStore = ⊥
IsOfDevice (Damaged at) = ⊥
IsOfDevice BadEvent = ⊥
IsOfDevice NoMemory = Unit {0}
IsOfDevice NotInDoubt = ⊥
IsOfDevice NoRoom = ⊥

-- ---- making

-- a store of this name was made on a disk; the name that none has is a bad argument, and nothing else is
abbrev pub MakesNamed : List ℕ → Result (Unit {0}) Fault → Type 0
MakesNamed rdb (Ok done) = is_name rdb ≡ true
MakesNamed rdb (Err BadArguments) = is_name rdb ≡ false
MakesNamed rdb (Err Device) = Unit {0}
MakesNamed rdb (Err NotAStore) = ⊥
MakesNamed rdb (Err (Damaged at)) = ⊥
MakesNamed rdb (Err BadEvent) = ⊥
MakesNamed rdb (Err NoMemory) = Unit {0}
MakesNamed rdb (Err NotInDoubt) = ⊥
MakesNamed rdb (Err NoRoom) = ⊥

-- the same of a file of so many bytes
abbrev pub MakesFile : ℕ → List ℕ → Result (Unit {0}) Fault → Type 0
MakesFile size rdb (Ok done) = is_store_of size rdb ≡ true
MakesFile size rdb (Err BadArguments) = is_store_of size rdb ≡ false
MakesFile size rdb (Err Device) = is_store_of size rdb ≡ true
MakesFile size rdb (Err NotAStore) = ⊥
MakesFile size rdb (Err (Damaged at)) = ⊥
MakesFile size rdb (Err BadEvent) = ⊥
MakesFile size rdb (Err NoMemory) = is_store_of size rdb ≡ true
MakesFile size rdb (Err NotInDoubt) = ⊥
MakesFile size rdb (Err NoRoom) = ⊥

-- ---- opening

-- a store that was just made is opened to no tables and no units in doubt
abbrev pub FindsFresh : {D : Type 0} → List ℕ → Result (OnDisk D) Fault → Type 0
FindsFresh name (Ok core) = IsOpenedTo name fresh core
FindsFresh name (Err fault) = IsOfDevice fault

-- why no node is started over a core of this name: the name is none of a database, or memory was refused
abbrev pub RefusesName : List ℕ → Fault → Type 0
RefusesName name BadArguments = ⊥
RefusesName name Device = ⊥
RefusesName name NotAStore = is_rdb_name name ≡ false
RefusesName name (Damaged at) = ⊥
RefusesName name BadEvent = ⊥
RefusesName name NoMemory = Unit {0}
RefusesName name NotInDoubt = ⊥
RefusesName name NoRoom = ⊥
