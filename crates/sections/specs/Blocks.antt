-- How the rows of a cursor go in blocks (DRDA V5 volume 1, "Query Data Transfer Protocols"; volume 3, CNTQRY,
-- QRYBLKSZ, ENDQRYRM).
use Rattle.std.specs.Prelude.{◌≡◌, ℕ, ◌+◌, ◌≤◌, Bool, nat_le, if◌then◌else◌, List, Option, None, Some, Result, Ok, Err, length}
use Rattle.std.specs.Option.{option_and_then, unwrap_or}
use Rattle.sqlam_replies.specs.Rows.{IsBlock}
use Rattle.sections.specs.declared.cursor.Block.{Block}
use Rattle.sections.specs.declared.fault.QueryNotOpen.{QueryNotOpen}
use Rattle.sections.specs.Kept.{Cursor, Section, Sections}
use Rattle.sections.specs.Cursors.{changed_at, meant_cursor}

-- no row remains behind so many more
abbrev pub ends_behind : Cursor → ℕ → Bool
ends_behind cursor count = nat_le (length cursor.rows.rows) (cursor.place + count)

-- The block of a cursor: of the size that was asked for, or else of the one before; the longest list of whole rows
-- from its place on whose bytes are at most so many, and one row where any remains.
pub record IsBlockOf (cursor : Cursor) (size : Option ℕ) (block : Block) : Type 0 where
  pub rows : block.rows.now ≡ cursor.rows
  pub start : block.start ≡ cursor.place
  pub size_is : block.size ≡ unwrap_or size cursor.block_size
  pub whole : IsBlock cursor.rows cursor.place block.size block.count
  pub within : block.start + block.count ≤ length cursor.rows.rows
  pub last : block.is_last ≡ ends_behind cursor block.count
  pub held : block.is_held ≡ cursor.is_held

pub record IsNextBlock (s : Sections) (name : List ℕ) (instance size : Option ℕ) (block : Block) : Type 0 where
  pub cursor : Cursor
  pub meant : meant_cursor name instance s ≡ Some cursor
  pub block_of : IsBlockOf cursor size block

abbrev pub NextBlock : Sections → List ℕ → Option ℕ → Option ℕ → Result Block QueryNotOpen → Type 0
NextBlock s name instance size (Ok block) = IsNextBlock s name instance size block
NextBlock s name instance size (Err _) = meant_cursor name instance s ≡ None

-- so many more rows were sent in a block of this size; behind its last row a cursor is closed
abbrev pub advanced : ℕ → ℕ → Cursor → Option Cursor
advanced count size cursor =
    if ends_behind cursor count then None else Some (record cursor { place = cursor.place + count; block_size = size })

abbrev pub section_advanced : ℕ → ℕ → Section → Section
section_advanced count size section = record section { cursor = option_and_then (advanced count size) section.cursor }

abbrev pub after_advance : List ℕ → ℕ → ℕ → Sections → Sections
after_advance name count size s = record s { sections = changed_at name (section_advanced count size) s.sections }
