use Rattle.std.proofs.Common.{◌≡◌, ℕ, List, [], ◌∷◌, length, replicate, sym, ◌∙◌, ap, subst, rules}
use Rattle.drda_disk.specs.Replay.{Step, wrote, synced, read_after, Reaches, LeftSince}
use Rattle.drda_disk.specs.Recorded.{steps_of, recorded_len}
use Rattle.drda_disk.specs.declared.replay.Write.{Write}
use Rattle.drda_disk.proofs.Replaying.{all_again, crash_len, crash_image, crash_read, crash_durable, crash_since}
use Rattle.drda_disk.proofs.memory.MemDisk.after_crash.Goals as goal

pub copy_from_slice-requires : goal.copy_from_slice-requires
copy_from_slice-requires c =
    let m = c.args.self in
    let zeros = replicate m.size 0 in
    let pending = steps_of m.writes.items m.written.items in
    let left = c.leave_all.new.file.items in
    let steps : steps_of c.deref.result.now c.deref-2.result.now ≡ pending = ap (λ (l : List Write). steps_of l c.deref-2.result.now) c.deref.ensures.value ∙ ap (λ (l : List ℕ). steps_of m.writes.items l) c.deref-2.ensures.value in
    let reaches : Reaches m.synced.items pending left = subst (λ (s : List Step). Reaches m.synced.items s left) steps c.leave_all.ensures.reaches in
    let long : length m.bytes.items ≡ length left = crash_len zeros m.bytes.items m.synced.items m.history.steps.value pending m.read m.durable m.since left reaches in
    let from : c.deref-3.result.now ≡ left = c.deref-3.ensures.value in
    search (rules, long, from)

pub invariant_of-result : goal.invariant_of-result
invariant_of-result c =
    let m = c.args.self in
    let zeros = replicate m.size 0 in
    let pending = steps_of m.writes.items m.written.items in
    let left = c.leave_all.new.file.items in
    let steps : steps_of c.deref.result.now c.deref-2.result.now ≡ pending = ap (λ (l : List Write). steps_of l c.deref-2.result.now) c.deref.ensures.value ∙ ap (λ (l : List ℕ). steps_of m.writes.items l) c.deref-2.ensures.value in
    let reaches : Reaches m.synced.items pending left = subst (λ (s : List Step). Reaches m.synced.items s left) steps c.leave_all.ensures.reaches in
    let copied : c.copy_from_slice.new.self.items ≡ left = c.copy_from_slice.ensures.items ∙ c.deref-3.ensures.value in
    let anew : c.of-history.result.steps.value ≡ synced ∷ (wrote 0 left ∷ []) = c.of-history.ensures ∙ ap (λ (l : List ℕ). synced ∷ (wrote 0 l ∷ [])) (c.deref-4.ensures.value ∙ copied) in
    record {
      whole = ap recorded_len c.clear.ensures.items ∙ sym (ap length c.clear-2.ensures.items);
      read = copied ∙ crash_read zeros m.bytes.items m.synced.items m.history.steps.value pending m.read m.durable m.since left reaches c.of-history.result.steps.value anew;
      durable = crash_durable zeros m.bytes.items m.synced.items m.history.steps.value pending m.read m.durable m.since left reaches c.of-history.result.steps.value anew;
      since = ap (λ (l : List Write). steps_of l c.clear-2.new.self.items) c.clear.ensures.items ∙ crash_since zeros m.bytes.items m.synced.items m.history.steps.value pending m.read m.durable m.since left reaches c.of-history.result.steps.value anew;
    }

pub returns-clause-image : goal.returns-clause-image
returns-clause-image c =
    let m = c.args.self in
    let zeros = replicate m.size 0 in
    let pending = steps_of m.writes.items m.written.items in
    let left = c.leave_all.new.file.items in
    let steps : steps_of c.deref.result.now c.deref-2.result.now ≡ pending = ap (λ (l : List Write). steps_of l c.deref-2.result.now) c.deref.ensures.value ∙ ap (λ (l : List ℕ). steps_of m.writes.items l) c.deref-2.ensures.value in
    let reaches : Reaches m.synced.items pending left = subst (λ (s : List Step). Reaches m.synced.items s left) steps c.leave_all.ensures.reaches in
    let copied : c.copy_from_slice.new.self.items ≡ left = c.copy_from_slice.ensures.items ∙ c.deref-3.ensures.value in
    subst (λ (l : List ℕ). LeftSince zeros m.history.steps.value (length m.history.steps.value) l) (sym copied)
    (crash_image zeros m.bytes.items m.synced.items m.history.steps.value pending m.read m.durable m.since left reaches)

pub returns-clause-all : goal.returns-clause-all
returns-clause-all c one =
    let m = c.args.self in
    let zeros = replicate m.size 0 in
    let pending = steps_of m.writes.items m.written.items in
    let steps : steps_of c.deref.result.now c.deref-2.result.now ≡ pending = ap (λ (l : List Write). steps_of l c.deref-2.result.now) c.deref.ensures.value ∙ ap (λ (l : List ℕ). steps_of m.writes.items l) c.deref-2.ensures.value in
    c.copy_from_slice.ensures.items ∙ c.deref-3.ensures.value ∙ c.leave_all.ensures.all one ∙ ap (λ (s : List Step). read_after m.synced.items s) steps
    ∙ all_again zeros m.bytes.items m.synced.items m.history.steps.value pending m.read m.durable m.since
