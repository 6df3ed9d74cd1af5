use Rattle.std.proofs.Common.{◌≡◌, ◌≤◌, ℕ, List, ◌+◌, true, length}
use Rattle.std.specs.List.{list_all}
use Rattle.row_pages.specs.Laying.{counted, pages_with}
use Rattle.checkpoint_writer.specs.Catalogue.{rows_of}
use Rattle.store_check.specs.Room.{entries_from, pages_of_catalogue, pages_of_tables}
use Rattle.store_check.proofs.Moving.{is_good}
use Rattle.paged_tables.specs.TablesByName.{AreOnPages}
use Rattle.paged_checkpoints.specs.Laying.{all_shown}
use Rattle.paged_checkpoints.proofs.counting.most_bytes.Given as goal

abbrev pub invariant-loop-table : goal.invariant-loop-table
invariant-loop-table l = record {
  good : list_all is_good (all_shown l.left) ≡ true;
  stand : (file : List ℕ) → AreOnPages file l.fn.tables → AreOnPages file l.left;
  tables : (file : List ℕ) → AreOnPages file l.fn.tables → counted (pages_of_tables (all_shown l.fn.tables)) ≤ counted (l.pages.tables + pages_of_tables (all_shown l.left));
  catalogue : (next : ℕ) × (pages_with l.pages.catalogue (rows_of (entries_from next (all_shown l.left))) ≡ counted (pages_of_catalogue (all_shown l.fn.tables)));
}

abbrev pub decreases-loop-table : goal.decreases-loop-table
decreases-loop-table l = length l.left
