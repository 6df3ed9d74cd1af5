-- A region reads in one way, and a journal is at rest in one.
use Rattle.std.specs.Prelude.{◌≡◌, ◌⊎◌, ℕ, ◌<◌, ◌≤◌, Bool, List, length}
use Rattle.drda_words.specs.Bytes.{AreBytes}
use Rattle.drda_disk.specs.Disk.{Life}
use Rattle.drda_disk.specs.Region.{end_of}
use Rattle.drda_disk.specs.declared.region.Region.{Region}
use Rattle.unit_journal.specs.Record.{Entry}
use Rattle.unit_journal.specs.Stands.{Stands, IsDamagedAt}
use Rattle.unit_journal.specs.Journal.{IsSettled}
use Rattle.unit_journal.specs.Staged.{IsAtRest, IsUnderWay, journal_of}
use Rattle.unit_journal.specs.declared.staged.Staged.{Staged}

-- in one at most
pub record OneReading : Type 0 where
  pub records : (region : Region) (image : List ℕ) (es fs : List Entry) → Stands region es image → Stands region fs image → es ≡ fs
  pub whole : (region : Region) (image : List ℕ) (es : List Entry) (gate : ℕ) → Stands region es image → IsDamagedAt region gate image → ⊥
  pub damage : (region : Region) (image : List ℕ) (gate other : ℕ) → IsDamagedAt region gate image → IsDamagedAt region other image → gate ≡ other

-- in one at least, where it has a byte and the image is one of bytes
abbrev pub SomeReading : Type 0
SomeReading = (region : Region) (image : List ℕ) → AreBytes image → 0 < region.length → end_of region ≤ length image
    → ((es : List Entry) × Stands region es image) ⊎ ((gate : ℕ) × IsDamagedAt region gate image)

-- records that are there to stay are settled
pub record IsSettledAsStaged (modelled : Bool) (disk : Life) (s : Staged) (es : List Entry) : Type 0 where
  pub begins : IsSettled modelled disk (journal_of s) es → IsUnderWay modelled disk s es
  pub ends : IsUnderWay modelled disk s es → IsSettled modelled disk (journal_of s) es

-- at rest
abbrev pub StagesRest : {D : Type 0} → Bool → (D → Life) → Type 0
StagesRest {D} modelled life = (disk : D) (s : Staged) → IsAtRest s → (es : List Entry) → IsSettledAsStaged modelled (life disk) s es
