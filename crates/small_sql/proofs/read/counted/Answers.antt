-- Where there is no WHERE, the rows that are handed on are those that pass.
use Rattle.std.proofs.Common.{List, ap, sym, ◌∙◌, ℕ}
use Rattle.small_sql.specs.Reading.{rows_given}
use Rattle.small_sql.specs.declared.read.Given.{Given}
use Rattle.small_sql.specs.Task.{matching}
use Rattle.small_sql.proofs.Counting.{all_pass}
use Rattle.small_sql.proofs.read.counted.Goals as goal

pub returns-then-takes_all-clause-found : goal.returns-then-takes_all-clause-found
returns-then-takes_all-clause-found c =
    c.with_rows.ensures
    ∙ ap (λ (rows : List (List ℕ)). record c.args.list { rows = rows }) (sym (all_pass c.args.wanted.now c.args.list.schema c.in-Many.rows (c.takes_all.ensures c.if-takes_all.true)))
    ∙ ap (λ (given : Given). record c.args.list { rows = matching c.args.wanted.now c.args.list.schema (rows_given given) }) (sym c.in-Many.is)
