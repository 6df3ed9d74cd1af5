use Rattle.table_map.proofs.Passed.{none_rest, one_rest}
use Rattle.table_map.proofs.page_scan.push_changes.Goals as goal

pub loop-entry-preserved : goal.loop-entry-preserved
loop-entry-preserved c = λ end rest.
    c.loop-entry.invariant end (one_rest c.changes_and_rows_in_turn.ensures.change c.loop-entry.changes c.take.new.self c.in-Some.entry c.loop-entry.rows c.push_change.new.rows end c.in-Some.ensures c.in_ok-push_change.ensures rest)

pub returns : goal.returns
returns c = c.loop-entry.invariant c.loop-entry.rows (none_rest c.loop-entry.changes c.loop-entry.rows c.in_default.ensures.0)
