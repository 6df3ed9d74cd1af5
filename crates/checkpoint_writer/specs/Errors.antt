-- What is told where no rows were written.
use Rattle.std.specs.Prelude.{◌≡◌, ◌<◌, ◌≤◌, ℕ, ◌+◌, Result, Ok, Err}
use Rattle.row_pages.specs.declared.kept.PageFault.{PageFault}
use Rattle.row_pages.specs.declared.kept.PageFault.TheVariants as fault
use Rattle.drda_disk.specs.declared.errors.DiskError.{DiskError}
use Rattle.drda_disk.specs.declared.errors.DiskError.TheVariants as disk
use Rattle.drda_disk.specs.declared.errors.WriteError.{WriteError}
use Rattle.drda_disk.specs.declared.errors.WriteError.TheVariants as write
use Rattle.unit_journal.specs.declared.errors.LayError.{LayError}
use Rattle.unit_journal.specs.declared.errors.LayError.TheVariants as lay
use Rattle.checkpoint_writer.specs.declared.errors.ImageError.{ImageError}
use Rattle.checkpoint_writer.specs.declared.errors.ImageError.TheVariants.{NoMemory, DeviceFailed, Damaged, Full}

abbrev pub error_of : PageFault → ImageError
error_of fault.NoMemory = NoMemory
error_of fault.DeviceFailed = DeviceFailed
error_of fault.Damaged = Damaged

abbrev pub unwritten : WriteError → ImageError
unwritten (write.Full full) = Full full
unwritten write.DeviceFailed = DeviceFailed

abbrev pub undone : DiskError → ImageError
undone disk.NoMemory = NoMemory
undone disk.DeviceFailed = DeviceFailed

abbrev pub not_laid : LayError → ImageError
not_laid lay.NoMemory = NoMemory
not_laid (lay.Full full) = Full full
not_laid lay.DeviceFailed = DeviceFailed

-- the device has failed once more exactly where that is told
abbrev pub CountsImage : {T : Type 0} → Result T ImageError → ℕ → ℕ → Type 0
CountsImage (Ok x) old new = new ≡ old
CountsImage (Err NoMemory) old new = new ≡ old
CountsImage (Err Damaged) old new = new ≡ old
CountsImage (Err (Full full)) old new = new ≡ old
CountsImage (Err DeviceFailed) old new = new ≡ old + 1

-- it is told that there is no room only where pages up to this offset, with a byte for a gate behind them, pass the
-- end of their half; what is told to be lacking is no more than what lacks
abbrev pub TellsFull : {T : Type 0} → Result T ImageError → ℕ → ℕ → Type 0
TellsFull (Err (Full full)) end pages_end = (full.room < full.need) × (end + full.need ≤ pages_end + 1 + full.room)
TellsFull other end pages_end = Unit {0}

-- damage is told only where this holds
abbrev pub DamagedWhere : {T : Type 0} → Type 0 → Result T ImageError → Type 0
DamagedWhere P (Err Damaged) = P
DamagedWhere P other = Unit {0}
