-- What lasts of a book, on a disk that gives back what was written.
use Rattle.std.specs.Prelude.{◌≡◌, ◌⊎◌, ℕ, Bool, true, false, IsTrue, List, Some}
use Rattle.drda_disk.specs.Disk.{Life, Now}
use Rattle.unit_records.specs.Records.{UnitRecord}
use Rattle.serializability.specs.Answered.{CallsLead}
use Rattle.recovery.specs.Durable.{Durable, replayed_from}
use Rattle.recovery.specs.Opens.{OpensTo}
use Rattle.recovery.specs.Part.{durable_part}
use Rattle.recovery.specs.Journaled.{Made, all_in, shown_on}
use Rattle.core_history.specs.Books.{IsKept, Told}

module _ {D : Type 0} (life : D → Life) where
  -- an image opens to what is durable of the book's core; or the device has failed, and it opens to what all that was begun then
  -- leads to from there
  abbrev pub OpensToBook : Told D → List (List UnitRecord) → List ℕ → Type 0
  OpensToBook book begun image =
      OpensTo book.opening.name (durable_part book.core.state) image
      ⊎ ((book.core.is_failed ≡ true) × (state : Durable) × (replayed_from (durable_part book.core.state) (all_in begun) ≡ Some state) × OpensTo book.opening.name state image)

  -- The calls that the book lists, each with its answer, lead from the core as it was opened to the core as it is. They made these
  -- groups of records, and began those; and each image that a crash leaves now opens to what is durable of that core.
  pub record Lasts (book : Told D) : Type 0 where
    pub lead : CallsLead book.opening.state book.calls book.core.state
    pub groups : List (List UnitRecord)
    pub begun : List (List UnitRecord)
    pub made : Made groups begun (shown_on life book.opening) (shown_on life book.core)
    pub left : (image : List ℕ) → Now (life book.core.disk) image → OpensToBook book begun image

-- so it is of each book that was kept since it was opened over a core that had not failed
abbrev pub KeptBooksLast : {D : Type 0} → Bool → (D → Life) → Type 0
KeptBooksLast modelled life = (book : Told _) → IsTrue modelled → IsKept modelled life book → book.opening.is_failed ≡ false → Lasts life book
