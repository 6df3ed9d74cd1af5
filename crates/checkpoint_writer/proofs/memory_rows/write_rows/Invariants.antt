use Rattle.std.proofs.Common.{◌≡◌}
use Rattle.key_map.specs.Walk.{rows_left}
use Rattle.half_store.specs.Writing.{next_of}
use Rattle.checkpoint_writer.specs.Adding.{AddsPages}
use Rattle.checkpoint_writer.proofs.InMemory.{IsPart}
use Rattle.checkpoint_writer.proofs.memory_rows.write_rows.Given as goal

abbrev pub invariant-loop-key : goal.invariant-loop-key
invariant-loop-key g l = record {
  adds : AddsPages g.D.Disk.is_modelled (g.D.Disk.life l.fn.disk) (g.D.Disk.life l.disk) l.fn.image l.image;
  faults : (g.D.Disk.life l.disk).faults ≡ (g.D.Disk.life l.fn.disk).faults;
  at : l.at ≡ next_of l.fn.image;
  part : IsPart g.D.Disk.is_modelled (g.D.Disk.life l.disk).seen (next_of l.fn.image) l.image l.writer (rows_left l.left) (rows_left l.fn.rows);
}
