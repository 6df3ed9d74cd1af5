-- The next record's changes have their places, or not all have; where none is left, all have theirs.
use Rattle.std.proofs.Common.{List, subst}
use Rattle.unit_journal.specs.Record.{entries_of, entry_of}
use Rattle.unit_journal.specs.declared.record.Record.{Record}
use Rattle.unit_records.proofs.Lengths.{first_left}
use Rattle.paged_tables.specs.PagedTables.{store_in}
use Rattle.recovery.specs.Laying.{are_placed}
use Rattle.recovery.proofs.Prepares.{AreLeft, all_placed, one_more_placed, one_not_placed}
use Rattle.recovery.proofs.laid.find_places.Goals as goal

pub returns-in-Err : goal.returns-in-Err
returns-in-Err c = λ doubts good same.
    let store = store_in c.args.store.now in
    let first = first_left c.loop-left.left.now c.entry-item.result c.in-len1-up.len_at_least c.entry-item.is in
    one_not_placed store (entry_of c.entry-item.result) _ (are_placed doubts store) c.in-Err.error c.in-Err.ensures
    (subst (λ (l : List Record). AreLeft store (entries_of l) (are_placed doubts store)) first (c.loop-left.invariant doubts good same))

pub loop-left-preserved : goal.loop-left-preserved
loop-left-preserved c = λ doubts good same.
    let store = store_in c.args.store.now in
    let first = first_left c.loop-left.left.now c.entry-item.result c.in-len1-up.len_at_least c.entry-item.is in
    one_more_placed store (entry_of c.entry-item.result) _ (are_placed doubts store) c.in-Ok.ensures
    (subst (λ (l : List Record). AreLeft store (entries_of l) (are_placed doubts store)) first (c.loop-left.invariant doubts good same))

pub returns : goal.returns
returns c = λ doubts good same. all_placed (store_in c.args.store.now) c.loop-left.left.now (are_placed doubts (store_in c.args.store.now)) c.in_default.len_below (c.loop-left.invariant doubts good same)
