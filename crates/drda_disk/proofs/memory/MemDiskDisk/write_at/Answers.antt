use Rattle.std.proofs.Common.{List, length, replicate, sym, subst, ◌∙◌}
use Rattle.drda_disk.specs.Disk.{Tears}
use Rattle.drda_disk.specs.Count.{count_of}
use Rattle.drda_disk.specs.Replay.{Step, replayed}
use Rattle.drda_disk.specs.Images.{over_is}
use Rattle.drda_disk.proofs.Replaying.{tears}
use Rattle.drda_disk.proofs.memory.MemDiskDisk.write_at.Goals as goal

pub returns-in-Ok-clause-tears : goal.returns-in-Ok-clause-tears
returns-in-Ok-clause-tears c =
    let m = c.args.self.now in
    let zeros = replicate m.size 0 in
    subst (λ (s : List Step). Tears c.args.at (length c.args.bytes.now) (replayed zeros m.bytes.items m.history.steps.value (count_of m.faults)) (replayed zeros c.overwrite.new.file.items s (count_of m.faults))) (sym c.note_write.ensures)
    (tears zeros m.bytes.items c.overwrite.new.file.items c.args.at c.args.bytes.now m.history.steps.value (count_of m.faults) m.read (c.overwrite.ensures ∙ sym (over_is m.bytes.items c.args.at c.args.bytes.now c.requires)))
