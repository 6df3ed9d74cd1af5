-- How full a store is, and when a checkpoint is due.
use Rattle.std.specs.Prelude.{◌≡◌, ℕ, ◌+◌, ◌-◌, ◌*◌, ◌/◌, ◌||◌, nat_lt, Bool, List, length}
use Rattle.drda_disk.specs.declared.region.Region.{Region}
use Rattle.drda_disk.specs.Layout.{page_bytes}
use Rattle.half_store.specs.Layout.{half_len}
use Rattle.unit_journal.specs.Record.{Entry, laid}
use Rattle.recovery.specs.Laws.{held_for}
use Rattle.recovery.specs.Journaled.{Shown}
use Rattle.recovery.specs.Opens.{Holds}
use Rattle.recovery.specs.Part.{durable_part}
use Rattle.turns.specs.declared.gauge.Gauge.{Gauge}

-- It is read off the active half: the bytes of its header and its pages, and those of its journal, which are all others of the half;
-- of these, the bytes of the records that stand there, and those that are left for more.
pub record IsGauge (s : Shown) (g : Gauge) : Type 0 where
  pub region : Region
  pub entries : List Entry
  pub stands : Holds s.name s.layout region entries (durable_part s.state) s.disk.seen
  pub half : g.half ≡ half_len (length s.disk.seen)
  pub tables : g.tables ≡ page_bytes * (1 + stands.store.header.pages)
  pub journal : g.journal ≡ region.length
  pub all : g.tables + g.journal ≡ g.half
  pub records : g.records ≡ length (laid entries)
  pub room : g.room + (g.records + 1 + held_for s.layout (durable_part s.state).doubts) ≡ g.journal

-- Less than a quarter of the journal is left for records, or the records since the last checkpoint, which laid so many bytes of
-- them, take more than an eighth of a half.
abbrev pub is_due : Gauge → ℕ → Bool
is_due g laid = nat_lt g.room (g.journal / 4) || nat_lt (g.half / 8) (g.records - laid)

-- that is told of a core
abbrev pub IsDue : Shown → ℕ → Bool → Type 0
IsDue s laid told = (g : Gauge) × IsGauge s g × (told ≡ is_due g laid)
