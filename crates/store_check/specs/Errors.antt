-- Why pages were not found whole.
use Rattle.std.specs.Prelude.{◌≡◌, ◌+◌, ℕ, Result, Ok, Err}
use Rattle.row_pages.specs.declared.kept.PageFault.{PageFault}
use Rattle.row_pages.specs.declared.kept.PageFault.TheVariants as fault
use Rattle.checkpoint_writer.specs.declared.reading.CatalogueError.{CatalogueError}
use Rattle.checkpoint_writer.specs.declared.reading.CatalogueError.TheVariants as catalogue
use Rattle.store_check.specs.declared.errors.CheckError.{CheckError}
use Rattle.store_check.specs.declared.errors.CheckError.TheVariants.{NoMemory, DeviceFailed, Damaged}

-- a fault of the page at an offset
abbrev pub error_at : ℕ → PageFault → CheckError
error_at at fault.NoMemory = NoMemory
error_at at fault.DeviceFailed = DeviceFailed
error_at at fault.Damaged = Damaged at

-- the device has failed once more exactly where that is told
abbrev pub CountsCheck : {T : Type 0} → Result T CheckError → ℕ → ℕ → Type 0
CountsCheck (Ok x) old new = new ≡ old
CountsCheck (Err NoMemory) old new = new ≡ old
CountsCheck (Err (Damaged here)) old new = new ≡ old
CountsCheck (Err DeviceFailed) old new = new ≡ old + 1

-- a fault of a catalogue's reader
abbrev pub catalogue_error : CatalogueError → CheckError
catalogue_error catalogue.NoMemory = NoMemory
catalogue_error catalogue.DeviceFailed = DeviceFailed
catalogue_error (catalogue.Damaged at) = Damaged at
