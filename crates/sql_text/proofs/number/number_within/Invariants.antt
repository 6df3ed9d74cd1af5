use Rattle.std.proofs.Common.{◌≡◌, min, drop, ◌≤◌}
use Rattle.sql_text.specs.Number.{number_behind, number_of}
use Rattle.sql_text.proofs.number.number_within.Given as goal

abbrev pub invariant-loop-digit : goal.invariant-loop-digit
invariant-loop-digit l = record {
  same : min (number_behind l.number (drop l.digit-index l.digits)) l.limit ≡ min (number_of l.digits) l.limit;
  small : l.number ≤ l.limit;
}
