-- Pages that are added to an image.
use Rattle.std.specs.Prelude.{◌≡◌, ℕ, ◌+◌, ◌-◌, ◌*◌, ◌≤◌, Bool, List, length}
use Rattle.drda_disk.specs.Disk.{Life, Torn, LeavesOnly}
use Rattle.drda_disk.specs.Layout.{page_bytes}
use Rattle.half_store.specs.Active.{Store}
use Rattle.half_store.specs.Writing.{IsKept, IsWriting, half_of, half_bytes_of, generation_of, pages_of, from_of, next_of}
use Rattle.half_store.specs.declared.image.ImageWriter.{ImageWriter}
use Rattle.table_map.specs.Stored.{Places}

-- the offset behind the half that is written
abbrev pub end_of_half : ImageWriter → ℕ
end_of_half w = from_of w + half_bytes_of w

-- Pages are added behind those that the image has, or none is.
pub record AddsPages (modelled : Bool) (old new : Life) (w after : ImageWriter) : Type 0 where
  -- no moment of it changes the active half, which stays the store
  pub any_moment : (base : List ℕ) (store : Store) → IsWriting modelled old base store w → LeavesOnly old new (IsKept base store (from_of w + 1) (half_bytes_of w - 1))
  pub writing : (base : List ℕ) (store : Store) → IsWriting modelled old base store w → IsWriting modelled new base store after
  -- what is read is the same but for bytes behind the pages that the image had, up to its half's end
  pub others : Torn (next_of w) (end_of_half w - next_of w) old.seen new.seen
  pub more : pages_of w ≤ pages_of after
  pub half : half_of after ≡ half_of w
  pub half_bytes : half_bytes_of after ≡ half_bytes_of w
  pub generation : generation_of after ≡ generation_of w

-- these pages were added to an image, and no others
pub record AreLast (w after : ImageWriter) (pages : Places) : Type 0 where
  pub at : pages.at ≡ next_of w
  pub next : next_of after ≡ pages.at + page_bytes * length pages.keys
