-- Longer contents take more bytes as a DSS.
use Rattle.std.proofs.Common.{◌≡◌, ◌≤◌, ℕ, List, Option, ap, sym, ◌∙◌, arith}
use Rattle.dss_frames.specs.Writing.{written_length}
use Rattle.sections.specs.Blocks.{IsNextBlock}
use Rattle.sections.specs.Cursors.{meant_cursor}
use Rattle.sections.specs.Kept.{Sections}
use Rattle.sections.specs.declared.cursor.Block.{Block}
use Rattle.cursor_commands.specs.Sizes.{next_size}

pub longer : (n m : ℕ) → n ≤ m → written_length n ≤ written_length m
longer n m le = omega (arith, le)

-- the size of the block that is sent
pub sized : (s : Sections) (name : List ℕ) (instance size : Option ℕ) (block : Block) → IsNextBlock s name instance size block → block.size ≡ next_size size (meant_cursor name instance s)
sized s name instance size block next = next.block_of.size_is ∙ ap (next_size size) (sym next.meant)
