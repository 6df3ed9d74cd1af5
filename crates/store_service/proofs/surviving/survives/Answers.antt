use Rattle.std.proofs.Common.{rules, ◌≡◌, ℕ, List, [], Some, ap, ◌∙◌, subst}
use Rattle.counted_streams.specs.Counts.{sink_of, source_of}
use Rattle.drda_disk.specs.Disk.{Now}
use Rattle.drda_disk.specs.MemDisk.{life_of, read_of, synced_of}
use Rattle.drda_disk.specs.declared.memory.MemDisk.{MemDisk}
use Rattle.store_service.specs.Running.{RunsFrom}
use Rattle.store_service.specs.Surviving.{IsPicked, fused, fused_syncs}
use Rattle.store_service.proofs.Survivors.{behind_fuse, left_state, refused_so, run_refused, told_so}
use Rattle.store_service.proofs.surviving.survives.Goals as goal

pub returns-clause-ok : goal.returns-clause-ok
returns-clause-ok c name d store =
    let f = c.new-fuse.result in
    let left = c.run_store-left.result.0 in
    let image = read_of c.after_crash.result in
    let fused_store = behind_fuse name d c.args.disk f c.new-fuse.ensures.inner store in
    let picked : IsPicked c.args.pick left image = record {
      now = subst (λ (m : MemDisk). Now (life_of m) image) c.into_inner.ensures c.after_crash.ensures.image;
      none = λ zero. c.after_crash.ensures.none zero ∙ ap synced_of c.into_inner.ensures;
      all = λ one. c.after_crash.ensures.all one ∙ ap read_of c.into_inner.ensures;
    } in
    let came : (source_of c.new-reader.result).now ≡ c.args.input.now = search rules in
    let none : (sink_of c.new-writer.result).items ≡ [] = search rules in
    let ran : RunsFrom fused fused_syncs name d c.args.user.now c.args.password.now f (Some c.args.input.now) (Some []) left c.run_store-left.result.1 (Some (sink_of c.run_store-left.new.writer).items) =
    subst (λ (w : List ℕ). RunsFrom fused fused_syncs name d c.args.user.now c.args.password.now f (Some c.args.input.now) (Some w) left c.run_store-left.result.1 (Some (sink_of c.run_store-left.new.writer).items)) none
    (subst (λ (i : List ℕ). RunsFrom fused fused_syncs name d c.args.user.now c.args.password.now f (Some i) (Some (sink_of c.new-writer.result).items) left c.run_store-left.result.1 (Some (sink_of c.run_store-left.new.writer).items)) came (c.run_store-left.ensures.runs name d fused_store.store)) in
    let there = left_state name d c.args.user.now c.args.password.now c.args.input.now c.args.disk c.args.calls c.args.pick f left c.new-fuse.ensures.inner c.new-fuse.ensures.left fused_store (sink_of c.run_store-left.new.writer).items image picked c.run_store-left.result.1 ran in
    told_so name d c.args.user.now c.args.password.now c.args.disk c.args.calls c.args.pick c.args.input.now image c.run_store-left.result.1 there c.tell.result (c.tell.ensures.ok name there.state there.opens)

pub returns-clause-err : goal.returns-clause-err
returns-clause-err c name d store =
    let f = c.new-fuse.result in
    let left = c.run_store-left.result.0 in
    let image = read_of c.after_crash.result in
    let fused_store = behind_fuse name d c.args.disk f c.new-fuse.ensures.inner store in
    let picked : IsPicked c.args.pick left image = record {
      now = subst (λ (m : MemDisk). Now (life_of m) image) c.into_inner.ensures c.after_crash.ensures.image;
      none = λ zero. c.after_crash.ensures.none zero ∙ ap synced_of c.into_inner.ensures;
      all = λ one. c.after_crash.ensures.all one ∙ ap read_of c.into_inner.ensures;
    } in
    let came : (source_of c.new-reader.result).now ≡ c.args.input.now = search rules in
    let none : (sink_of c.new-writer.result).items ≡ [] = search rules in
    let ran : RunsFrom fused fused_syncs name d c.args.user.now c.args.password.now f (Some c.args.input.now) (Some []) left c.run_store-left.result.1 (Some (sink_of c.run_store-left.new.writer).items) =
    subst (λ (w : List ℕ). RunsFrom fused fused_syncs name d c.args.user.now c.args.password.now f (Some c.args.input.now) (Some w) left c.run_store-left.result.1 (Some (sink_of c.run_store-left.new.writer).items)) none
    (subst (λ (i : List ℕ). RunsFrom fused fused_syncs name d c.args.user.now c.args.password.now f (Some i) (Some (sink_of c.new-writer.result).items) left c.run_store-left.result.1 (Some (sink_of c.run_store-left.new.writer).items)) came (c.run_store-left.ensures.runs name d fused_store.store)) in
    let there = left_state name d c.args.user.now c.args.password.now c.args.input.now c.args.disk c.args.calls c.args.pick f left c.new-fuse.ensures.inner c.new-fuse.ensures.left fused_store (sink_of c.run_store-left.new.writer).items image picked c.run_store-left.result.1 ran in
    refused_so name c.tell.result (c.tell.ensures.err name there.state there.opens)

pub returns-clause-ran : goal.returns-clause-ran
returns-clause-ran c name d store =
    let f = c.new-fuse.result in
    let fused_store = behind_fuse name d c.args.disk f c.new-fuse.ensures.inner store in
    run_refused name d c.args.user.now c.args.password.now f c.run_store-left.result.0 _ _ _ c.run_store-left.result.1 (c.run_store-left.ensures.runs name d fused_store.store)
