-- What is copied, with what is left, is all; reads were made, after which the pages can still be read.
use Rattle.std.proofs.Common.{length}
use Rattle.paged_tables.specs.PagedTables.{store_in}
use Rattle.rdb_core.specs.Copied.{ReadsOn}
use Rattle.rdb_core.proofs.Copying.{IsCopying}
use Rattle.rdb_core.proofs.plain_tables.copied_tables.Given as goal

abbrev pub invariant-loop-table : goal.invariant-loop-table
invariant-loop-table g l = record {
  copying : IsCopying (store_in l.tables) l.left g.S.Source.is_told l.view;
  read : ReadsOn g.S.Source.reads l.fn.source l.source;
  holds : g.S.Source.holds l.source l.tables.tables;
}

abbrev pub decreases-loop-table : goal.decreases-loop-table
decreases-loop-table g l = length l.left
