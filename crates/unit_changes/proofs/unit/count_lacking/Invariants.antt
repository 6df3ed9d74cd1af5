-- The tables that were lacking so far, and those behind them.
use Rattle.std.proofs.Common.{◌≡◌, ◌≤◌, ◌+◌, drop, map}
use Rattle.std.specs.Bool.{IsTrue}
use Rattle.unit_changes.specs.TableChanges.{table_of}
use Rattle.unit_changes.specs.Index.{AreNew, lacking}
use Rattle.unit_changes.proofs.unit.count_lacking.Given as goal

abbrev pub invariant-loop-i : goal.invariant-loop-i
invariant-loop-i g l = record {
  store : g.V.TableView.store l.base ≡ g.V.TableView.store l.fn.base;
  small : l.count ≤ l.i;
  count : IsTrue g.V.TableView.is_faithful → l.count + lacking (map table_of (drop l.i l.tables)) (g.V.TableView.store l.fn.base) ≡ lacking (map table_of l.tables) (g.V.TableView.store l.fn.base);
  new : IsTrue g.V.TableView.is_faithful → AreNew (map table_of (drop l.i l.tables)) (g.V.TableView.store l.fn.base) → AreNew (map table_of l.tables) (g.V.TableView.store l.fn.base);
}
