-- What opening answers.
use Rattle.std.specs.Prelude.{◌≡◌, ℕ, ◌+◌, Bool, List, [], ◌∷◌, length, Result, Ok, Err, Vec}
use Rattle.std.specs.declared.alloc.Global.{Global}
use Rattle.drda_disk.specs.Disk.{Life}
use Rattle.drda_disk.specs.declared.region.Region.{Region}
use Rattle.unit_journal.specs.Record.{Entry, entries_of}
use Rattle.unit_journal.specs.Stands.{Stands, IsDamagedAt}
use Rattle.unit_journal.specs.Journal.{IsSettled}
use Rattle.unit_journal.specs.declared.record.Record.{Record}
use Rattle.unit_journal.specs.declared.journal.Journal.{Journal}
use Rattle.unit_journal.specs.declared.errors.OpenError.{OpenError}
use Rattle.unit_journal.specs.declared.errors.OpenError.TheVariants.{Damaged, DeviceFailed, NoMemory}

-- each record says where it stands, from an offset on
abbrev pub ArePlaced : ℕ → List Record → Type 0
ArePlaced at [] = Unit {0}
ArePlaced at (r ∷ rs) = (r.at ≡ at) × ArePlaced (at + 6 + length r.body.items) rs

-- these records were found, each with its place, and the journal goes on behind them
pub record IsOpened (modelled : Bool) (disk : Life) (region : Region) (es : List Entry) (opened : Journal × Vec Record Global) : Type 0 where
  pub records : entries_of opened.1.items ≡ es
  pub places : ArePlaced region.at opened.1.items
  pub settled : IsSettled modelled disk opened.0 es

-- the records that stand there, or the damage that is there
abbrev pub ReadsRegion : Region → Bool → List ℕ → Life → Result (Journal × Vec Record Global) OpenError → Type 0
ReadsRegion region modelled image disk (Ok opened) = Stands region (entries_of opened.1.items) image × IsOpened modelled disk region (entries_of opened.1.items) opened
ReadsRegion region modelled image disk (Err (Damaged gate)) = IsDamagedAt region gate image
ReadsRegion region modelled image disk (Err DeviceFailed) = Unit {0}
ReadsRegion region modelled image disk (Err NoMemory) = Unit {0}
