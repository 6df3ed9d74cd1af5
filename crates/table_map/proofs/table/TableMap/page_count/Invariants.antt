use Rattle.std.proofs.Common.{◌≡◌, ◌≤◌, ℕ, List, ◌+◌, ◌*◌, length}
use Rattle.std.specs.Prelude.{IsTrue}
use Rattle.drda_disk.specs.Disk.{Stays}
use Rattle.table_map.specs.Cursor.{weight}
use Rattle.table_map.specs.Stored.{IsStored}
use Rattle.table_map.specs.Table.{rows_of_table, without_keys}
use Rattle.table_map.proofs.Given.{IsCounted}
use Rattle.table_map.proofs.table.TableMap.page_count.Given as goal

abbrev pub invariant-loop-cursor : goal.invariant-loop-cursor
invariant-loop-cursor g l = record {
  stays : Stays (g.D.Disk.life l.fn.disk) (g.D.Disk.life l.disk);
  faults : (g.D.Disk.life l.disk).faults ≡ (g.D.Disk.life l.fn.disk).faults;
  end : l.cursor.base.at + 8192 * l.cursor.base.pages ≡ l.fn.self.places.at + 8192 * length l.fn.self.places.keys;
  forward : l.fn.self.places.at ≤ l.cursor.base.at;
  rows : (pages : List (List (List ℕ))) → IsTrue g.D.Disk.is_modelled → IsStored (g.K.RowKeys.key_of l.keys) l.fn.self.places pages (g.D.Disk.life l.fn.disk).seen
      → IsCounted (g.K.RowKeys.key_of l.keys) (g.D.Disk.life l.fn.disk).seen l.cursor l.count (without_keys (rows_of_table (g.K.RowKeys.key_of l.keys) l.fn.self pages));
}

abbrev pub decreases-loop-cursor : goal.decreases-loop-cursor
decreases-loop-cursor g l = weight l.cursor
