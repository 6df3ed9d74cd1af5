-- Table after table.
use Rattle.std.proofs.Common.{rules, List, subst}
use Rattle.store_check.specs.declared.half.CheckedTable.{CheckedTable}
use Rattle.paged_checkpoints.proofs.Behind.{IsUnderWay, none_added, one_added}
use Rattle.paged_checkpoints.proofs.opening.add_tables.Goals as goal

pub loop-table-init : goal.loop-table-init
loop-table-init c = none_added c.args.checked.items c.into_iter-table-iterator.result.rest.items c.new-tables.result.tables (search rules) c.new-tables.ensures.tables c.requires.good c.requires.rise

pub loop-table-preserved : goal.loop-table-preserved
loop-table-preserved c =
    one_added c.args.checked.items c.in-Some.table c.next.new.self.rest.items c.loop-table.tables.tables c.add_table.new.tables.tables
    (subst (λ (l : List CheckedTable). IsUnderWay c.args.checked.items l c.loop-table.tables.tables) c.in-Some.ensures.steps.0 c.loop-table.invariant) c.in_ok-add_table.ensures.added c.in_ok-add_table.ensures.pages

pub returns-clause-stand : goal.returns-clause-stand
returns-clause-stand c file stand = (c.loop-table.invariant.stand file stand).0

pub returns-clause-inside : goal.returns-clause-inside
returns-clause-inside c size below = (c.loop-table.invariant.inside size below).0

pub returns-clause-apart : goal.returns-clause-apart
returns-clause-apart c from end apart = (c.loop-table.invariant.apart from end apart).0
