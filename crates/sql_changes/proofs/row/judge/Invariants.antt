use Rattle.std.proofs.Common.{◌≡◌, Ok, length, map}
use Rattle.row_values.specs.Column.{column_of}
use Rattle.row_values.specs.Row.{all_fit}
use Rattle.sql_semantics.specs.Checked.{if_none, unless}
use Rattle.sql_semantics.specs.Insert.{first_misfit}
use Rattle.sql_predicates.specs.Constant.{constant_value}
use Rattle.core_calls.specs.declared.sql_fault.SqlFault.TheVariants as fault
use Rattle.sql_changes.proofs.row.judge.Given as goal

abbrev pub invariant-columns : goal.invariant-columns
invariant-columns l =
    if_none (first_misfit (map column_of l.columns) (map constant_value l.values)) (unless (all_fit (map column_of l.columns) (map constant_value l.values)) fault.Syntax (Ok (tt {0})))
    ≡ if_none (first_misfit (map column_of l.initial.columns) (map constant_value l.initial.values)) (unless (all_fit (map column_of l.initial.columns) (map constant_value l.initial.values)) fault.Syntax (Ok (tt {0})))

abbrev pub decreases-columns : goal.decreases-columns
decreases-columns l = length l.columns
