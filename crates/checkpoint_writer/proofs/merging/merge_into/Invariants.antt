use Rattle.std.proofs.Common.{◌≡◌, ◌+◌, ◌*◌, ◌≤◌, length}
use Rattle.half_store.specs.Writing.{next_of}
use Rattle.table_map.specs.Cursor.{weight}
use Rattle.checkpoint_writer.specs.Adding.{AddsPages}
use Rattle.checkpoint_writer.proofs.MergedRows.{MergesNoted}
use Rattle.checkpoint_writer.proofs.merging.merge_into.Given as goal

abbrev pub invariant-loop-merging : goal.invariant-loop-merging
invariant-loop-merging g l = record {
  adds : AddsPages g.D.Disk.is_modelled (g.D.Disk.life l.fn.disk) (g.D.Disk.life l.disk) l.fn.image l.image;
  faults : (g.D.Disk.life l.disk).faults ≡ (g.D.Disk.life l.fn.disk).faults;
  end : l.merging.cursor.base.at + 8192 * l.merging.cursor.base.pages ≡ l.fn.table.places.at + 8192 * length l.fn.table.places.keys;
  forward : l.fn.table.places.at ≤ l.merging.cursor.base.at;
  at : l.at ≡ next_of l.fn.image;
  merges : MergesNoted g.D.Disk.is_modelled (g.K.RowKeys.key_of l.keys) l.fn.table (g.D.Disk.life l.fn.disk).seen l.fn.image (g.D.Disk.life l.disk).seen l.image l.merging.writer l.merging.cursor l.merging.noted.listed.value;
}

abbrev pub decreases-loop-merging : goal.decreases-loop-merging
decreases-loop-merging g l = weight l.merging.cursor
