-- The rows go on exactly where the rest of them goes on behind the last one.
use Rattle.std.proofs.Common.{◌≡◌, IfSome, drop, option_map}
use Rattle.row_values.specs.RowView.{row_in, schema_in}
use Rattle.row_pages.specs.Judging.{do_rise, go_on}
use Rattle.ahead_view.proofs.judging.do_rise.Given as goal

abbrev pub invariant-loop-i : goal.invariant-loop-i
invariant-loop-i l = (go_on l.schema (option_map row_in l.last) (drop l.i l.rows) ≡ do_rise l.schema l.rows) × IfSome l.last (λ last. schema_in last ≡ l.schema)
