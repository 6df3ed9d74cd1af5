use Rattle.std.proofs.Common.{◌≡◌, ℕ, List, ◌++◌, drop, Some, map, option_map}
use Rattle.std.specs.Arc.{arc_value}
use Rattle.std.specs.List.{slice_get}
use Rattle.std.specs.Prelude.{IsTrue}
use Rattle.drda_disk.specs.Disk.{Stays}
use Rattle.key_map.specs.Overlay.{change_of, changes_of}
use Rattle.row_values.specs.Schema.{Schema}
use Rattle.table_map.specs.Judged.{RiseByKeys}
use Rattle.table_map.proofs.Joined.{IsJoined}
use Rattle.table_map.specs.Stored.{IsStored}
use Rattle.table_map.specs.Table.{rows_of_table, without_keys}
use Rattle.table_map.proofs.Passed.{IsPassed}
use Rattle.table_map.proofs.table.TableMap.scan_judged.Given as goal

abbrev pub invariant-loop-page : goal.invariant-loop-page
invariant-loop-page g l = record {
  stays : Stays (g.D.Disk.life l.fn.pager) (g.D.Disk.life l.pager);
  faults : (g.D.Disk.life l.pager).faults ≡ (g.D.Disk.life l.fn.pager).faults;
  rows : (pages : List (List (List ℕ))) → IsTrue g.D.Disk.is_modelled → IsStored (g.K.RowKeys.key_of l.keys) l.fn.self.places pages (g.D.Disk.life l.fn.pager).seen
      → IsPassed (g.K.RowKeys.key_of l.keys) (drop l.page pages) l.changes l.rows (l.fn.rows ++ without_keys (rows_of_table (g.K.RowKeys.key_of l.keys) l.fn.self pages));
  judged : (schema : Schema) → option_map (λ s. arc_value s.now) l.fn.by ≡ Some schema → RiseByKeys (g.K.RowKeys.key_of l.keys) schema → IsTrue l.judged
      → IsJoined (g.K.RowKeys.key_of l.keys) schema (slice_get l.fn.self.places.keys l.page) l.initial.changes l.changes l.fn.rows l.rows;
  from : map change_of l.initial.changes ≡ changes_of l.fn.self.overlay;
}
