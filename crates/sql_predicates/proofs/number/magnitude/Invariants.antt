use Rattle.std.proofs.Common.{◌≡◌, min, drop, ◌≤◌, ◌+◌, ◌^◌}
use Rattle.sql_text.specs.Number.{number_behind, number_of}
use Rattle.sql_predicates.proofs.number.magnitude.Given as goal

abbrev pub invariant-loop-digit : goal.invariant-loop-digit
invariant-loop-digit l = record {
  same : min (number_behind l.number (drop l.digit-index l.digits)) (2 ^ 63 + 1) ≡ min (number_of l.digits) (2 ^ 63 + 1);
  small : l.number ≤ 2 ^ 63 + 1;
}
