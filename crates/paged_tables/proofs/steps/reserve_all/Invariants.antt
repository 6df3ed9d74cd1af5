-- The changes so far have room, and the schemas are those that they leave.
use Rattle.std.proofs.Common.{◌≡◌, ℕ, List, map, take}
use Rattle.tables.specs.Applied.{apply_all}
use Rattle.tables.specs.ChangeView.{change_of}
use Rattle.tables.specs.Tables.{schema_of}
use Rattle.paged_tables.specs.Steps.{forms_of}
use Rattle.paged_tables.specs.TablesByName.{AreReady, PagesStay, schema_at, store_of}
use Rattle.paged_tables.proofs.steps.reserve_all.Given as goal

abbrev pub invariant-loop-change : goal.invariant-loop-change
invariant-loop-change l = record {
  store : store_of l.tables ≡ store_of l.fn.tables;
  pages : PagesStay l.fn.tables l.tables;
  room : AreReady (map change_of (take l.change-index l.changes)) (forms_of l.steps.items) (store_of l.fn.tables) l.tables;
  known : (q : List ℕ) → schema_of (apply_all (map change_of (take l.change-index l.changes)) (store_of l.fn.tables)) q ≡ schema_at l.tables q;
}
