-- The key comes behind the row in front of the part that is left, and before the one behind it.
use Rattle.std.proofs.Common.{◌≡◌, ℕ, List, ◌-◌, ◌<◌, ◌≤◌, length, Some, Less, Greater}
use Rattle.std.specs.List.{slice_get}
use Rattle.key_map.specs.Slots.{by_bytes}
use Rattle.table_map.proofs.finding.find_row.Given as goal

abbrev pub invariant-loop-low : goal.invariant-loop-low
invariant-loop-low g l = record {
  between : l.low ≤ l.high;
  within : l.high ≤ length l.page.rows;
  behind : (row : List ℕ) → 0 < l.low → slice_get l.page.rows (l.low - 1) ≡ Some row → by_bytes l.key (g.K.RowKeys.key_of l.keys row) ≡ Greater;
  before : (row : List ℕ) → slice_get l.page.rows l.high ≡ Some row → by_bytes l.key (g.K.RowKeys.key_of l.keys row) ≡ Less;
}

abbrev pub decreases-loop-low : goal.decreases-loop-low
decreases-loop-low g l = l.high - l.low
