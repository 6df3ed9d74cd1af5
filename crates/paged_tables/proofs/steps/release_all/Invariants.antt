use Rattle.std.proofs.Common.{◌≡◌}
use Rattle.paged_tables.specs.TablesByName.{PagesStay, store_of}
use Rattle.paged_tables.proofs.steps.release_all.Given as goal

abbrev pub invariant-loop-step : goal.invariant-loop-step
invariant-loop-step l = record {
  same : store_of l.tables ≡ store_of l.fn.tables;
  pages : PagesStay l.fn.tables l.tables;
}
