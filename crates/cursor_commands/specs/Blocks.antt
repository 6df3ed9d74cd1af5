-- How many rows a block has (DRDA V5 volume 1, "Query Data Transfer Protocols"; volume 3, QRYBLKSZ).
use Rattle.std.specs.Prelude.{◌≡◌, ℕ, suc, ◌-◌, nat_le, min, max, List, [], ◌∷◌, length, map, drop, if◌then◌else◌}
use Rattle.tables.specs.RowList.{RowList}
use Rattle.sqlam_replies.specs.Rows.{IsBlock, answered}

-- how many of these texts, from the first on, have at most so many bytes in all
abbrev pub fitting : List (List ℕ) → ℕ → ℕ
fitting [] size = 0
fitting (text ∷ texts) size = if nat_le (length text) size then suc (fitting texts (size - length text)) else 0

-- the rows from a place on, as they are sent
abbrev pub remaining : RowList → ℕ → List (List ℕ)
remaining rows place = map (answered rows) (drop place rows.rows)

-- as many as fit the size, and one where any remains
abbrev pub rows_in_block : RowList → ℕ → ℕ → ℕ
rows_in_block rows place size = min (length (remaining rows place)) (max 1 (fitting (remaining rows place) size))

-- that many are a block, and no other number is
abbrev pub BlocksAreLongest : Type 0
BlocksAreLongest = (rows : RowList) (place size : ℕ) → IsBlock rows place size (rows_in_block rows place size)

abbrev pub BlocksAreOne : Type 0
BlocksAreOne = (rows : RowList) (place size count : ℕ) → IsBlock rows place size count → count ≡ rows_in_block rows place size
