-- How long the answers to a query are, so that room is made before the query is asked (DRDA V5 volume 3, QRYDSC,
-- QRYDTA, QRYBLKSZ).
use Rattle.std.specs.Prelude.{◌≡◌, ℕ, ◌+◌, ◌≤◌, max, true, length}
use Rattle.row_values.specs.Schema.{is_schema}
use Rattle.sqlam_replies.specs.Rows.{IsBlock, qrydsc, qrydta}
use Rattle.tables.specs.RowList.{RowList, is_list}
use Rattle.sections.specs.declared.cursor.Block.{Block}

-- the description of rows has at most 222 bytes: three for each of 64 columns, what is around them, and a heading
abbrev pub DescriptionsAreShort : Type 0
DescriptionsAreShort = (rows : RowList) → is_list rows ≡ true → length (qrydsc rows) ≤ 222

-- a block has at most as many bytes as its size, or as one row can have, and a heading of 12 at most
abbrev pub BlocksAreShort : Type 0
BlocksAreShort =
    (rows : RowList) (place size count : ℕ) → is_schema rows.schema ≡ true → is_list rows ≡ true → IsBlock rows place size count
    → length (qrydta rows place count) ≤ max size 128194 + 12

-- so a block that is to be sent has at most so many bytes, and the description of its rows
abbrev pub IsShort : Block → Type 0
IsShort block = (length (qrydsc block.rows.now) ≤ 222) × (length (qrydta block.rows.now block.start block.count) ≤ max block.size 128194 + 12)
