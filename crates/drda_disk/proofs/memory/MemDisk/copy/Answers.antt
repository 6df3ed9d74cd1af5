use Rattle.std.proofs.Common.{◌≡◌, ℕ, List, [], ◌∷◌, ◌++◌, length, replicate, sym, ◌∙◌, ap}
use Rattle.drda_disk.specs.Replay.{wrote, synced}
use Rattle.drda_disk.specs.Recorded.{steps_of, recorded_len}
use Rattle.drda_disk.specs.declared.replay.Write.{Write}
use Rattle.drda_disk.proofs.Replaying.{copy_read, copy_durable, copy_since, copy_images, copy_all_images}
use Rattle.drda_disk.proofs.memory.MemDisk.copy.Goals as goal

pub invariant_of-result : goal.invariant_of-result
invariant_of-result c =
    let m = c.args.self.now in
    let zeros = replicate m.size 0 in
    let pending = steps_of m.writes.items m.written.items in
    let bytes : c.in_ok-from_slice.field-0.items ≡ m.bytes.items = c.in_ok-from_slice.ensures.items ∙ c.deref.ensures.value in
    let durable : c.in_ok-from_slice-2.field-0.items ≡ m.synced.items = c.in_ok-from_slice-2.ensures.items ∙ c.deref-2.ensures.value in
    let writes : c.in_ok-from_slice-3.field-0.items ≡ m.writes.items = c.in_ok-from_slice-3.ensures.items ∙ c.deref-3.ensures.value in
    let written : c.in_ok-from_slice-4.field-0.items ≡ m.written.items = c.in_ok-from_slice-4.ensures.items ∙ c.deref-4.ensures.value in
    let copied : c.history_of.result.steps.value ≡ pending ++ synced ∷ (wrote 0 m.synced.items ∷ []) =
    c.history_of.ensures
    ∙ ap (λ (l : List ℕ). steps_of c.deref-6.result.now c.deref-7.result.now ++ synced ∷ (wrote 0 l ∷ [])) c.deref-5.ensures.value
    ∙ ap (λ (l : List Write). steps_of l c.deref-7.result.now ++ synced ∷ (wrote 0 m.synced.items ∷ [])) c.deref-6.ensures.value
    ∙ ap (λ (l : List ℕ). steps_of m.writes.items l ++ synced ∷ (wrote 0 m.synced.items ∷ [])) c.deref-7.ensures.value in
    record {
      whole = ap recorded_len writes ∙ m.whole ∙ sym (ap length written);
      read = bytes ∙ copy_read zeros m.bytes.items m.synced.items m.history.steps.value pending m.read m.durable m.since c.history_of.result.steps.value copied;
      durable = durable ∙ copy_durable zeros m.bytes.items m.synced.items m.history.steps.value pending m.read m.durable m.since c.history_of.result.steps.value copied;
      since = ap (λ (l : List Write). steps_of l c.in_ok-from_slice-4.field-0.items) writes ∙ ap (λ (l : List ℕ). steps_of m.writes.items l) written
          ∙ copy_since zeros m.bytes.items m.synced.items m.history.steps.value pending m.read m.durable m.since c.history_of.result.steps.value copied;
    }

pub returns-clause-copy : goal.returns-clause-copy
returns-clause-copy c =
    let m = c.args.self.now in
    let zeros = replicate m.size 0 in
    let pending = steps_of m.writes.items m.written.items in
    let copied : c.history_of.result.steps.value ≡ pending ++ synced ∷ (wrote 0 m.synced.items ∷ []) =
    c.history_of.ensures
    ∙ ap (λ (l : List ℕ). steps_of c.deref-6.result.now c.deref-7.result.now ++ synced ∷ (wrote 0 l ∷ [])) c.deref-5.ensures.value
    ∙ ap (λ (l : List Write). steps_of l c.deref-7.result.now ++ synced ∷ (wrote 0 m.synced.items ∷ [])) c.deref-6.ensures.value
    ∙ ap (λ (l : List ℕ). steps_of m.writes.items l ++ synced ∷ (wrote 0 m.synced.items ∷ [])) c.deref-7.ensures.value in
    record {
      read = c.in_ok-from_slice.ensures.items ∙ c.deref.ensures.value;
      synced = c.in_ok-from_slice-2.ensures.items ∙ c.deref-2.ensures.value;
      images = copy_images zeros m.bytes.items m.synced.items m.history.steps.value pending m.read m.durable m.since c.history_of.result.steps.value copied;
      all_images = copy_all_images zeros m.bytes.items m.synced.items m.history.steps.value pending m.read m.durable m.since c.history_of.result.steps.value copied;
    }
