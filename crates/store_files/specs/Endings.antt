-- How the program ends, and what it reports of that.
use Rattle.std.specs.Prelude.{ℕ, codes, List, [], ◌∷◌, ◌++◌, Result, Ok, Err}
use Rattle.std.specs.Fmt.{decimal}
use Rattle.durable_core.specs.declared.errors.OpenError.{OpenError}
use Rattle.durable_core.specs.declared.errors.OpenError.TheVariants as errors
use Rattle.store_files.specs.declared.fault.Fault.{Fault}
use Rattle.store_files.specs.declared.fault.Fault.TheVariants.{BadArguments, Device, NotAStore, Damaged, BadEvent, NoMemory, NotInDoubt, NoRoom}

-- the exit status
abbrev pub status_for : Fault → ℕ
status_for BadArguments = 1
status_for Device = 2
status_for NotAStore = 3
status_for (Damaged at) = 3
status_for BadEvent = 4
status_for NoMemory = 5
status_for NotInDoubt = 6
status_for NoRoom = 7

abbrev pub status_of : Result (Unit {0}) Fault → ℕ
status_of (Ok done) = 0
status_of (Err fault) = status_for fault

-- the line on standard error
abbrev pub line_for : Fault → List ℕ
line_for BadArguments = codes "drdad: bad arguments\n"
line_for Device = codes "drdad: file or device fault\n"
line_for NotAStore = codes "drdad: not a store\n"
line_for (Damaged at) = codes "drdad: damaged at " ++ decimal at ++ 10 ∷ []
line_for BadEvent = codes "drdad: bad event\n"
line_for NoMemory = codes "drdad: no memory\n"
line_for NotInDoubt = codes "drdad: not in doubt\n"
line_for NoRoom = codes "drdad: no room\n"

abbrev pub line_of : Result (Unit {0}) Fault → List ℕ
line_of (Ok done) = []
line_of (Err fault) = line_for fault

-- a store that is not opened
abbrev pub fault_for : OpenError → Fault
fault_for errors.NotAStore = NotAStore
fault_for (errors.Damaged at) = Damaged at
fault_for errors.DeviceFailed = Device
fault_for errors.NoMemory = NoMemory
