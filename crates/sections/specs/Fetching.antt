-- Blocks that a cursor sends one after the other (DRDA V5 volume 1, "Query Data Transfer Protocols").
use Rattle.std.specs.Prelude.{◌≡◌, ℕ, ◌+◌, ◌-◌, ◌≤◌, List, [], ◌∷◌, ◌++◌, Option, None, Some, length}
use Rattle.sqlam_replies.specs.Rows.{IsBlock, rows_text}
use Rattle.tables.specs.RowList.{RowList}
use Rattle.sections.specs.Blocks.{advanced}
use Rattle.sections.specs.Kept.{Cursor}

-- a block: its size, and its number of rows
abbrev pub Sent : Type 0
Sent = ℕ × ℕ

-- a cursor sends these blocks in turn, and this one is left
abbrev pub Sends : Option Cursor → List Sent → Option Cursor → Type 0
Sends cursor [] left = left ≡ cursor
Sends None (block ∷ blocks) left = ⊥
Sends (Some cursor) (block ∷ blocks) left =
    IsBlock cursor.rows cursor.place block.0 block.1 × Sends (advanced block.1 block.0 cursor) blocks left

-- the rows of the blocks as they are sent, the first block beginning at a place
abbrev pub sent_text : RowList → ℕ → List Sent → List ℕ
sent_text rows place [] = []
sent_text rows place (block ∷ blocks) = rows_text rows place block.1 ++ sent_text rows (place + block.1) blocks

-- a cursor that is read to its end sends each of its remaining rows once, in their order
abbrev pub SendsAllRows : Type 0
SendsAllRows =
    (cursor : Cursor) (blocks : List Sent) → Sends (Some cursor) blocks None
    → sent_text cursor.rows cursor.place blocks ≡ rows_text cursor.rows cursor.place (length cursor.rows.rows)

-- and it is at its end after one block, or as many as it has rows, at the latest
abbrev pub EndsSoon : Type 0
EndsSoon =
    (cursor : Cursor) (blocks : List Sent) (left : Option Cursor) → Sends (Some cursor) blocks left
    → length blocks ≤ (length cursor.rows.rows - cursor.place) + 1
