use Rattle.std.proofs.Common.{◌≡◌, ℕ, List, length, replicate, sym, ◌∙◌, ap, subst}
use Rattle.drda_disk.specs.Disk.{Stays}
use Rattle.drda_disk.specs.Count.{count_of}
use Rattle.drda_disk.specs.Replay.{Step, replayed, read_after, synced_after, unsynced}
use Rattle.drda_disk.specs.Recorded.{steps_of, recorded_len}
use Rattle.drda_disk.specs.declared.replay.Write.{Write}
use Rattle.drda_disk.proofs.Replaying.{stays_synced, all_again}
use Rattle.drda_disk.proofs.memory.MemDiskDisk.sync.Goals as goal

pub invariant_of-self : goal.invariant_of-self
invariant_of-self c =
    let m = c.args.self.now in
    let zeros = replicate m.size 0 in
    let redone : c.redo_all.new.file.items ≡ read_after m.synced.items (steps_of m.writes.items m.written.items) =
    c.redo_all.ensures ∙ ap (λ (l : List Write). read_after m.synced.items (steps_of l c.deref-2.result.now)) c.deref.ensures.value ∙ ap (λ (l : List ℕ). read_after m.synced.items (steps_of m.writes.items l)) c.deref-2.ensures.value in
    record {
      whole = ap recorded_len c.clear.ensures.items ∙ sym (ap length c.clear-2.ensures.items);
      read = m.read ∙ sym (ap (λ (s : List Step). read_after zeros s) c.note_sync.ensures);
      durable = redone ∙ all_again zeros m.bytes.items m.synced.items m.history.steps.value (steps_of m.writes.items m.written.items) m.read m.durable m.since ∙ m.read ∙ sym (ap (λ (s : List Step). synced_after zeros s) c.note_sync.ensures);
      since = ap (λ (l : List Write). steps_of l c.clear-2.new.self.items) c.clear.ensures.items ∙ sym (ap (λ (s : List Step). unsynced s) c.note_sync.ensures);
    }

pub returns-clause-stays : goal.returns-clause-stays
returns-clause-stays c =
    let m = c.args.self.now in
    let zeros = replicate m.size 0 in
    subst (λ (s : List Step). Stays (replayed zeros m.bytes.items m.history.steps.value (count_of m.faults)) (replayed zeros m.bytes.items s (count_of m.faults))) (sym c.note_sync.ensures)
    (stays_synced zeros m.bytes.items m.history.steps.value (count_of m.faults) m.read)
