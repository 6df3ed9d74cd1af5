-- The table that is lent lies inside, and so do those that are left.
use Rattle.paged_tables_tests.proofs.Laying.{left_inside, lent_inside}
use Rattle.paged_tables_tests.proofs.lent.lent.Goals as goal

pub loop-table-init : goal.loop-table-init
loop-table-init c = λ size inside. c.lend-left.ensures.pages.inside size inside

pub returns-then-eq : goal.returns-then-eq
returns-then-eq c = λ size inside. lent_inside size c.loop-table.left c.next_table.new.self c.in-Some.ensures.0 c.in-Some.table c.in-Some.ensures.1 c.in-Some.ensures.2 (c.loop-table.invariant size inside)

pub loop-table-preserved : goal.loop-table-preserved
loop-table-preserved c = λ size inside. left_inside size c.loop-table.left c.next_table.new.self c.in-Some.ensures.0 c.in-Some.ensures.2 (c.loop-table.invariant size inside)
