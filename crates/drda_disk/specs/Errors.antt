use Rattle.std.specs.Prelude.{◌≡◌, ℕ, ◌+◌, Result, Ok, Err}
use Rattle.drda_disk.specs.declared.errors.DiskError.{DiskError}
use Rattle.drda_disk.specs.declared.errors.DiskError.TheVariants as disk
use Rattle.drda_disk.specs.declared.errors.WriteError.{WriteError}
use Rattle.drda_disk.specs.declared.errors.WriteError.TheVariants as write

-- the device has failed once more exactly where that is told
abbrev pub CountsError : {T : Type 0} → Result T DiskError → ℕ → ℕ → Type 0
CountsError (Ok x) old new = new ≡ old
CountsError (Err disk.NoMemory) old new = new ≡ old
CountsError (Err disk.DeviceFailed) old new = new ≡ old + 1

abbrev pub CountsWrite : {T : Type 0} → Result T WriteError → ℕ → ℕ → Type 0
CountsWrite (Ok x) old new = new ≡ old
CountsWrite (Err (write.Full full)) old new = new ≡ old
CountsWrite (Err write.DeviceFailed) old new = new ≡ old + 1

-- what holds where no memory is told
abbrev pub OnNoMemory : {T : Type 0} → Result T DiskError → Type 0 → Type 0
OnNoMemory (Ok x) P = Unit {0}
OnNoMemory (Err disk.NoMemory) P = P
OnNoMemory (Err disk.DeviceFailed) P = Unit {0}

-- what holds where no room is told
abbrev pub OnFull : {T : Type 0} → Result T WriteError → Type 0 → Type 0
OnFull (Ok x) P = Unit {0}
OnFull (Err write.DeviceFailed) P = Unit {0}
OnFull (Err (write.Full full)) P = P
