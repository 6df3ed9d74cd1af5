use Rattle.std.proofs.Common.{◌≡◌, ◌+◌, ◌*◌, ◌≤◌}
use Rattle.std.specs.Prelude.{IsTrue}
use Rattle.drda_disk.specs.Disk.{Stays}
use Rattle.key_map.specs.Merging.{Rows}
use Rattle.table_map.specs.Cursor.{IsLeft, weight}
use Rattle.table_map.proofs.cursor.RowCursor.advance.Given as goal

abbrev pub invariant-loop-self : goal.invariant-loop-self
invariant-loop-self g l = record {
  stays : Stays (g.D.Disk.life l.fn.disk) (g.D.Disk.life l.disk);
  faults : (g.D.Disk.life l.disk).faults ≡ (g.D.Disk.life l.fn.disk).faults;
  end : l.self.base.at + 8192 * l.self.base.pages ≡ l.fn.self.base.at + 8192 * l.fn.self.base.pages;
  forward : l.fn.self.base.at ≤ l.self.base.at;
  fewer : weight l.self ≤ weight l.fn.self;
  left : (left : Rows) → IsTrue g.D.Disk.is_modelled → IsLeft (g.K.RowKeys.key_of l.keys) (g.D.Disk.life l.fn.disk).seen l.fn.self left
      → IsLeft (g.K.RowKeys.key_of l.keys) (g.D.Disk.life l.fn.disk).seen l.self left;
}

abbrev pub decreases-loop-self : goal.decreases-loop-self
decreases-loop-self g l = weight l.self
