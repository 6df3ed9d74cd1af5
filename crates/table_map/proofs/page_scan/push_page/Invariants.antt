use Rattle.std.proofs.Common.{take}
use Rattle.table_map.specs.Passing.{Passes}
use Rattle.table_map.proofs.page_scan.push_page.Given as goal

abbrev pub invariant-loop-i : goal.invariant-loop-i
invariant-loop-i g l = Passes (g.K.RowKeys.key_of l.keys) (take l.i l.page.rows) l.fn.changes l.changes l.fn.rows l.rows
