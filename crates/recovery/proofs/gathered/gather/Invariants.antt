-- The unit with the changes that are left has all, and those that are left have their places behind it.
use Rattle.std.proofs.Common.{◌≡◌, ◌++◌, map}
use Rattle.tables.specs.ChangeView.{change_of}
use Rattle.paged_tables.specs.PagedTables.{store_in}
use Rattle.core_model.specs.Units.{apply_all}
use Rattle.recovery.specs.Durable.{have_places}
use Rattle.recovery.proofs.gathered.gather.Given as goal

abbrev pub invariant-loop-change : goal.invariant-loop-change
invariant-loop-change l = record {
  can : (goal.iterator-loop-change).can_next l.change-iterator;
  finite : (goal.iterator-loop-change).is_finite l.change-iterator;
  unit : l.unit ++ map change_of l.change-iterator.rest.items ≡ map change_of l.fn.changes.items;
  places : have_places (map change_of l.change-iterator.rest.items) (apply_all l.unit (store_in l.store)) ≡ have_places (map change_of l.fn.changes.items) (store_in l.store);
}
