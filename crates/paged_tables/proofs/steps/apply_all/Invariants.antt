-- What is left has room, and leaves what all changes leave.
use Rattle.std.proofs.Common.{◌≡◌, drop, map}
use Rattle.tables.specs.Applied.{apply_all}
use Rattle.tables.specs.ChangeView.{change_of}
use Rattle.paged_tables.specs.Steps.{forms_of}
use Rattle.paged_tables.specs.TablesByName.{AreReady, PagesStay, store_of}
use Rattle.paged_tables.proofs.steps.apply_all.Given as goal

abbrev pub invariant-loop-change : goal.invariant-loop-change
invariant-loop-change l = record {
  can : (goal.iterator-loop-change).can_next l.change-iterator;
  finite : (goal.iterator-loop-change).is_finite l.change-iterator;
  room : AreReady (map change_of l.change-iterator.rest.items) (drop l.i (forms_of l.steps)) (store_of l.tables) l.tables;
  made : apply_all (map change_of l.change-iterator.rest.items) (store_of l.tables) ≡ apply_all (map change_of l.fn.changes.items) (store_of l.fn.tables);
  pages : PagesStay l.fn.tables l.tables;
}
