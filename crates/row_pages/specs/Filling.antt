-- Filling a page with rows.
use Rattle.std.specs.Prelude.{◌≡◌, ◌≤◌, ◌+◌, ◌*◌, ℕ, List, [], ◌∷◌, ◌++◌, length, drop, vec_capacity}
use Rattle.std.specs.Global.{Vec}
use Rattle.drda_disk.specs.Layout.{page_bytes}
use Rattle.row_pages.specs.Page.{Fits, Page, rows_bytes}
use Rattle.row_pages.specs.Reading.{rows_in}
use Rattle.row_pages.specs.declared.builder.Pushed.{Pushed}
use Rattle.row_pages.specs.declared.builder.Pushed.TheVariants.{Added, Full}

-- the page with this row behind the others, where they fit; else the page as it was
abbrev pub Pushes : List ℕ → Page → Pushed → Page → Type 0
Pushes row old Added new = Fits (old.rows ++ row ∷ []) × (new ≡ record { kind = old.kind; rows = old.rows ++ row ∷ [] })
Pushes row old Full new = (Fits (old.rows ++ row ∷ []) → ⊥) × (new ≡ old)

-- what a builder holds: the bytes of its rows behind three places, in room for a page
pub record IsFilled (count : ℕ) (bytes : Vec ℕ) : Type 0 where
  pub rows : drop 3 bytes.items ≡ rows_bytes (rows_in count (drop 3 bytes.items))
  pub counted : length (rows_in count (drop 3 bytes.items)) ≡ count
  pub head : 3 + 2 * count ≤ length bytes.items
  pub fits : length bytes.items ≤ page_bytes
  pub room : page_bytes ≤ vec_capacity bytes
