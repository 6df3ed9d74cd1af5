-- What the bytes of a region stand for.
use Rattle.std.specs.Prelude.{◌≡◌, ◌≢◌, ◌⊎◌, ℕ, ◌+◌, ◌<◌, ◌≤◌, List, [], ◌∷◌, ◌++◌, length, slice_index}
use Rattle.std.specs.Int.{w32, from_be_bytes}
use Rattle.drda_words.specs.Place.{part}
use Rattle.drda_disk.specs.Region.{end_of, SameOutside}
use Rattle.drda_disk.specs.declared.region.Region.{Region}
use Rattle.drda_disk.specs.Layout.{open_gate}
use Rattle.unit_journal.specs.Kind.{code_of}
use Rattle.unit_journal.specs.Record.{Entry, laid, AreShort}
use Rattle.unit_journal.specs.declared.kind.Kind.{Kind}

-- from an offset on there are these records, and then a closed gate, below limit
pub record StandsFrom (at limit : ℕ) (es : List Entry) (image : List ℕ) : Type 0 where
  pub gate : ℕ
  pub shut : gate ≢ open_gate
  pub spelled : part image at (length (laid es) + 1) ≡ laid es ++ gate ∷ []
  pub within : at + length (laid es) < limit
  pub inside : limit ≤ length image
  pub short : AreShort es

-- a region reads as these records
abbrev pub Stands : Region → List Entry → List ℕ → Type 0
Stands region es image = StandsFrom region.at (end_of region) es image

-- the bytes from an offset on are no record: it runs past the limit less one byte, or its kind is not known
abbrev pub IsNoRecord : List ℕ → ℕ → ℕ → Type 0
IsNoRecord image at limit =
    (limit < at + 7) ⊎ ((limit < at + 7 + from_be_bytes w32 (part image (at + 2) 4)) ⊎ ((kind : Kind) → slice_index image (at + 1) ≢ code_of kind))

-- from an offset on there are some records, and then at gate an open gate with no record behind it
pub record DamagedFrom (at limit : ℕ) (gate : ℕ) (image : List ℕ) : Type 0 where
  pub es : List Entry
  pub spelled : part image at (length (laid es)) ≡ laid es
  pub short : AreShort es
  pub place : gate ≡ at + length (laid es)
  pub within : gate < limit
  pub inside : limit ≤ length image
  pub is_open : slice_index image gate ≡ open_gate
  pub no_record : IsNoRecord image gate limit

-- a region is damaged at this offset
abbrev pub IsDamagedAt : Region → ℕ → List ℕ → Type 0
IsDamagedAt region gate image = DamagedFrom region.at (end_of region) gate image

-- nothing outside the region changes, and the records are those, or those and all of the others behind them
pub record IsBeforeOrAfterAll (region : Region) (old : List ℕ) (es gs : List Entry) (image : List ℕ) : Type 0 where
  pub others : SameOutside region old image
  pub stands : Stands region es image ⊎ Stands region (es ++ gs) image

-- or those and one more
abbrev pub IsBeforeOrAfter : Region → List ℕ → List Entry → Entry → List ℕ → Type 0
IsBeforeOrAfter region old es e = IsBeforeOrAfterAll region old es (e ∷ [])
