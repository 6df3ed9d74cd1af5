-- The header page of a half: its gate, generation in 8 bytes, pages, first catalogue page, catalogue pages and layout in 4
-- bytes each, and zeros.
use Rattle.std.specs.Prelude.{ℕ, ◌+◌, ◌*◌, ◌==◌, ◌&&◌, ◌<◌, Bool, nat_le, nat_lt, List, drop, slice_index, Option, Some, None, if◌then◌else◌}
use Rattle.std.specs.List.{list_all}
use Rattle.std.specs.Int.{w32, w64, from_be_bytes}
use Rattle.drda_words.specs.Place.{part}
use Rattle.drda_disk.specs.Layout.{open_gate, page_bytes}
use Rattle.half_store.specs.declared.header.Header.{Header}
use Rattle.half_store.specs.declared.header.Layout.{Layout}
use Rattle.half_store.specs.declared.header.Layout.TheVariants.{One, Two}
use Rattle.half_store.specs.declared.header.HalfState.{HalfState}
use Rattle.half_store.specs.declared.header.HalfState.TheVariants.{Closed, Unsound, Open}

-- the number of a layout
abbrev pub layout_word : Layout → ℕ
layout_word One = 0
layout_word Two = 2

abbrev pub layout_of : ℕ → Option Layout
layout_of word = if word == 0 then Some One else (if word == 2 then Some Two else None)

abbrev pub header_in : Layout → List ℕ → Header
header_in layout page = record {
  generation = from_be_bytes w64 (part page 1 8);
  pages = from_be_bytes w32 (part page 9 4);
  first_catalogue = from_be_bytes w32 (part page 13 4);
  catalogue_pages = from_be_bytes w32 (part page 17 4);
  layout = layout;
}

-- the pages and a byte for a gate lie in a half of h bytes, and the catalogue's pages are among the pages
abbrev pub is_inside : ℕ → Header → Bool
is_inside h header = nat_lt (page_bytes * (1 + header.pages)) h && nat_le (header.first_catalogue + header.catalogue_pages) header.pages

-- behind an open gate, by the layout that its number names
abbrev pub opened : ℕ → List ℕ → Option Layout → HalfState
opened h page None = Unsound
opened h page (Some layout) = if is_inside h (header_in layout page) && list_all (λ b. b == 0) (drop 25 page) then Open (header_in layout page) else Unsound

-- What the page says of its half. The gate is open where it is A5; behind any other byte nothing is read.
unfoldable pub half_in : ℕ → List ℕ → HalfState
half_in h page = if slice_index page 0 == open_gate then opened h page (layout_of (from_be_bytes w32 (part page 21 4))) else Closed

-- a half that is open has room for its pages and a gate
abbrev pub HasRoom : ℕ → HalfState → Type 0
HasRoom h Closed = Unit {0}
HasRoom h Unsound = Unit {0}
HasRoom h (Open header) = page_bytes * (1 + header.pages) < h
