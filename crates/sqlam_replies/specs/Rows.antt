-- Rows of an answer in blocks (DRDA V5 volume 1, "Query Data Transfer Protocols"; volume 3, QRYDSC, QRYDTA and
-- QRYBLKSZ).
use Rattle.std.specs.Prelude.{ℕ, ◌<◌, ◌≤◌, List, length, take, drop}
use Rattle.std.specs.List.{flat_map}
use Rattle.ddm_objects.specs.declared.code_point.TheConstants.{QRYDSC, QRYDTA}
use Rattle.ddm_objects.specs.Writing.{spelled}
use Rattle.fdoca.specs.Writing.{answer_descriptor, answer_row}
use Rattle.row_values.specs.Schema.{picked}
use Rattle.row_values.specs.Row.{values_in}
use Rattle.tables.specs.RowList.{RowList}

-- a row as it is answered: of its values those that are asked for
abbrev pub answered : RowList → List ℕ → List ℕ
answered l row = answer_row (picked l.schema.columns l.selected) (picked (values_in l.schema row) l.selected)

-- n rows from a place on, one after the other
abbrev pub rows_text : RowList → ℕ → ℕ → List ℕ
rows_text l from n = flat_map (answered l) (take n (drop from l.rows))

-- the description of the rows, and some of them
abbrev pub qrydsc : RowList → List ℕ
qrydsc l = spelled QRYDSC (answer_descriptor (picked l.schema.columns l.selected))

abbrev pub qrydta : RowList → ℕ → ℕ → List ℕ
qrydta l from n = spelled QRYDTA (rows_text l from n)

-- The n rows from a place on are a block of this size: the longest list of whole rows whose bytes are at most
-- so many, and one row where any remains.
pub record IsBlock (l : RowList) (from size n : ℕ) : Type 0 where
  pub there : n ≤ length (drop from l.rows)
  pub some : 0 < length (drop from l.rows) → 0 < n
  pub fits : 1 < n → length (rows_text l from n) ≤ size
  pub longest : (m : ℕ) → m ≤ length (drop from l.rows) → length (rows_text l from m) ≤ size → m ≤ n
