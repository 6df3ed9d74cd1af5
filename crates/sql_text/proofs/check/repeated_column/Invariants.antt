use Rattle.std.proofs.Common.{◌≡◌, take, drop, []}
use Rattle.sql_text.specs.Checks.{first_repeat}
use Rattle.sql_text.proofs.check.repeated_column.Given as goal

abbrev pub invariant-loop-at : goal.invariant-loop-at
invariant-loop-at l = record {
  same : first_repeat (λ x. x.name) (λ x. x.left) (take l.at l.columns) (drop l.at l.columns) ≡ first_repeat (λ x. x.name) (λ x. x.left) [] l.columns;
}
