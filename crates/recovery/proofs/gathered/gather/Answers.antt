-- The next change has its place behind the others, or the journal is damaged.
use Rattle.std.proofs.Common.{List, ap, map}
use Rattle.tables.specs.Change.{Change}
use Rattle.tables.specs.ChangeView.{change_of}
use Rattle.paged_tables.specs.PagedTables.{store_in}
use Rattle.recovery.proofs.Placing.{all_more, not_placed, placed_more}
use Rattle.recovery.proofs.gathered.gather.Goals as goal

pub loop-change-preserved : goal.loop-change-preserved
loop-change-preserved c =
    let left : List Change = map change_of c.loop-change.change-iterator.rest.items in
    let rest : List Change = map change_of c.next.new.self.rest.items in
    let is = ap (map change_of) c.in-Some.ensures.steps.0 in
    record {
      can = tt;
      finite = tt;
      unit = all_more c.loop-change.unit left rest (change_of c.in-Some.change) (store_in c.args.store.now) is c.add_placed.new.unit _ c.in-Ok.ensures.added c.loop-change.invariant.unit;
      places = placed_more c.loop-change.unit left rest (change_of c.in-Some.change) (store_in c.args.store.now) is c.add_placed.new.unit _ c.in-Ok.ensures.added c.in-Ok.ensures.judges
          c.loop-change.invariant.places;
    }

pub returns-in-Err-clause-judges : goal.returns-in-Err-clause-judges
returns-in-Err-clause-judges c =
    let left : List Change = map change_of c.loop-change.change-iterator.rest.items in
    let rest : List Change = map change_of c.next.new.self.rest.items in
    not_placed c.loop-change.unit left rest (change_of c.in-Some.change) (store_in c.args.store.now) (ap (map change_of) c.in-Some.ensures.steps.0)
    c.in-Err.error _ c.in-Err.ensures.judges c.loop-change.invariant.places
