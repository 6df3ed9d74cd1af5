-- What the bytes of a disk open to.
use Rattle.std.specs.Prelude.{◌≡◌, ℕ, ◌+◌, ◌*◌, ◌≤◌, List, length, Ok}
use Rattle.drda_disk.specs.Region.{end_of}
use Rattle.drda_disk.specs.declared.region.Region.{Region}
use Rattle.drda_disk.specs.Layout.{page_bytes}
use Rattle.half_store.specs.Active.{Store, active_of}
use Rattle.half_store.specs.Layout.{half_len, offset_of}
use Rattle.half_store.specs.declared.header.Layout.{Layout}
use Rattle.unit_journal.specs.Record.{Entry, laid}
use Rattle.unit_journal.specs.Stands.{Stands}
use Rattle.tables.specs.Tables.{Store as Tables}
use Rattle.store_check.specs.Checkpoint.{HasCheckpoint, half_pages}
use Rattle.recovery.specs.Durable.{Durable, at_checkpoint}
use Rattle.recovery.specs.Journal.{Leads}
use Rattle.recovery.specs.Known.{AreKnown}
use Rattle.recovery.specs.Laws.{held_for}

-- the journal of a store: what is left of its active half behind the header and the pages
pub record IsJournal (size : ℕ) (store : Store) (region : Region) : Type 0 where
  pub begins : region.at ≡ offset_of (half_len size) store.half + page_bytes * (1 + store.header.pages)
  pub ends : end_of region ≡ offset_of (half_len size) store.half + half_len size

-- The image is a store of this name. The pages of its active half, of this layout, have the tables of its last checkpoint;
-- behind them lies its journal, whose records are of the layout's kinds and lead from there to d, and what the branches in
-- doubt hold back has room behind them.
pub record Holds (name : List ℕ) (layout : Layout) (region : Region) (es : List Entry) (d : Durable) (image : List ℕ) : Type 0 where
  pub store : Store
  pub active : active_of image ≡ Ok store
  pub named : store.name ≡ name
  pub layout_is : store.header.layout ≡ layout
  pub journal : IsJournal (length image) store region
  pub checkpoint : Tables
  pub pages : HasCheckpoint image (half_pages (length image) store) checkpoint
  pub stands : Stands region es image
  pub known : AreKnown layout es
  pub leads : Leads (at_checkpoint checkpoint) es d
  pub room : length (laid es) + 1 + held_for layout d.doubts ≤ region.length

abbrev pub OpensTo : List ℕ → Durable → List ℕ → Type 0
OpensTo name d image = (layout : Layout) × (region : Region) × (es : List Entry) × Holds name layout region es d image
