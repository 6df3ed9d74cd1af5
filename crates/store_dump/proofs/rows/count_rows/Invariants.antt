-- The rows that are counted, with those that are left, are all.
use Rattle.std.proofs.Common.{◌≡◌, ◌<◌, ◌^◌, ℕ, List, ◌+◌, ◌*◌, length}
use Rattle.std.specs.Prelude.{IsTrue}
use Rattle.drda_disk.specs.Disk.{Stays}
use Rattle.key_map.specs.RowForm.{row_form}
use Rattle.table_map.specs.Cursor.{weight}
use Rattle.table_map.specs.Stored.{IsStored}
use Rattle.table_map.specs.Table.{rows_of_table, without_keys}
use Rattle.store_dump.proofs.Counting.{IsCounting}
use Rattle.store_dump.proofs.rows.count_rows.Given as goal

abbrev pub invariant-loop-cursor : goal.invariant-loop-cursor
invariant-loop-cursor g l = record {
  stays : Stays (g.D.Disk.life l.fn.disk) (g.D.Disk.life l.disk);
  end : l.cursor.base.at + 8192 * l.cursor.base.pages ≡ l.table.rows.now.places.at + 8192 * length l.table.rows.now.places.keys;
  small : l.count < 2 ^ 64;
  rows : (pages : List (List (List ℕ))) → IsTrue g.D.Disk.is_modelled → IsStored (row_form l.table.schema.now) l.table.rows.now.places pages (g.D.Disk.life l.fn.disk).seen
      → IsCounting (row_form l.table.schema.now) (g.D.Disk.life l.fn.disk).seen l.cursor l.count (without_keys (rows_of_table (row_form l.table.schema.now) l.table.rows.now pages));
}

abbrev pub decreases-loop-cursor : goal.decreases-loop-cursor
decreases-loop-cursor g l = weight l.cursor
