-- What opening finds.
use Rattle.std.specs.Prelude.{◌≡◌, ◌≢◌, ℕ, ◌+◌, ◌^◌, ◌<◌, List, ◌∷◌, length, slice_index, Result, Ok, Err, Option, Some, None}
use Rattle.drda_words.specs.Place.{part}
use Rattle.drda_disk.specs.declared.errors.DiskError.{DiskError}
use Rattle.drda_disk.specs.declared.errors.DiskError.TheVariants as read
use Rattle.drda_disk.specs.Layout.{open_gate}
use Rattle.unit_journal.specs.Record.{behind, entry_of}
use Rattle.unit_journal.specs.Stands.{IsNoRecord}
use Rattle.unit_journal.specs.declared.record.Record.{Record}
use Rattle.unit_journal.specs.declared.errors.OpenError.{OpenError}
use Rattle.unit_journal.specs.declared.errors.OpenError.TheVariants.{Damaged, DeviceFailed, NoMemory}

abbrev pub open_error_of : DiskError → OpenError
open_error_of read.NoMemory = NoMemory
open_error_of read.DeviceFailed = DeviceFailed

-- no damage is told
abbrev pub IsWhole : {T : Type 0} → Result T OpenError → Type 0
IsWhole (Ok x) = Unit {0}
IsWhole (Err (Damaged at)) = ⊥
IsWhole (Err DeviceFailed) = Unit {0}
IsWhole (Err NoMemory) = Unit {0}

-- the device has failed once more exactly where that is told
abbrev pub CountsOpen : {T : Type 0} → Result T OpenError → ℕ → ℕ → Type 0
CountsOpen (Ok x) old new = new ≡ old
CountsOpen (Err (Damaged at)) old new = new ≡ old
CountsOpen (Err NoMemory) old new = new ≡ old
CountsOpen (Err DeviceFailed) old new = new ≡ old + 1

-- this record stands at an offset, with an open gate
pub record IsAt (image : List ℕ) (at : ℕ) (r : Record) : Type 0 where
  pub spelled : part image at (6 + length r.body.items) ≡ open_gate ∷ behind (entry_of r)
  pub short : length r.body.items < 2 ^ 32
  pub place : r.at ≡ at

-- what stands at an offset: a closed gate, an open one with a record, or one with no record
abbrev pub ReadsNext : List ℕ → ℕ → ℕ → Result (Option Record) OpenError → Type 0
ReadsNext image at limit (Ok None) = slice_index image at ≢ open_gate
ReadsNext image at limit (Ok (Some r)) = IsAt image at r
ReadsNext image at limit (Err (Damaged gate)) = (gate ≡ at) × (slice_index image at ≡ open_gate) × IsNoRecord image at limit
ReadsNext image at limit (Err DeviceFailed) = Unit {0}
ReadsNext image at limit (Err NoMemory) = Unit {0}
