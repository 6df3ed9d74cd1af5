use Rattle.std.proofs.Common.{◌≡◌, [], sym, ◌∙◌, ap, subst}
use Rattle.paged_tables.specs.TablesByName.{PagesStay, Tables}
use Rattle.recovery.specs.Replay.{doubts_in}
use Rattle.core_model.specs.Step.{CoreState}
use Rattle.unit_journal.specs.Staged.{IsAtRest}
use Rattle.unit_records.specs.MadeRecords.{MadeRecords}
use Rattle.recovery.specs.Part.{opened}
use Rattle.journal_recorder.specs.Recording.{disk_of, journal_of, layout_of, made_of, staged_of}
use Rattle.journal_recorder.specs.declared.recorder.DiskRecorder.{DiskRecorder}
use Rattle.rdb_core.specs.State.{pages_of, recorder_of, state_of}
use Rattle.durable_core.proofs.Opened.{has_pages, is_recorded}
use Rattle.durable_core.proofs.opening.begin_over.Goals as goal

pub invariant_of-result : goal.invariant_of-result
invariant_of-result g c =
    let recorder : recorder_of c.restore_all.new.core ≡ c.new-recorder.result = c.restore_all.ensures.recorder ∙ c.restored-core.ensures.recorder in
    let state = c.in-Ok.ensures.restored ∙ ap (λ (s : CoreState). opened (record { store = s.base.store; doubts = doubts_in c.args.found.units.items })) c.restored-core.ensures.state in
    let disk = ap (λ (r : DiskRecorder g.row.D.Denot). disk_of r) recorder ∙ c.new-recorder.ensures.disk in
    let journal = ap (λ (r : DiskRecorder g.row.D.Denot). journal_of r) recorder ∙ c.new-recorder.ensures.journal in
    let layout = ap (λ (r : DiskRecorder g.row.D.Denot). layout_of r) recorder ∙ c.new-recorder.ensures.layout in
    let none_begun : (made_of (recorder_of c.restore_all.new.core)).begun ≡ [] = ap (λ (r : DiskRecorder g.row.D.Denot). (made_of r).begun) recorder ∙ ap (λ (m : MadeRecords). m.begun) c.new-recorder.ensures.made in
    let rest : IsAtRest (staged_of (recorder_of c.restore_all.new.core)) = subst (λ (r : DiskRecorder g.row.D.Denot). IsAtRest (staged_of r)) (sym recorder) c.new-recorder.ensures.rest in (
      is_recorded g.D.Disk.is_modelled g.D.Disk.life c.openings_are_kept.ensures c.args.pager c.args.found c.requires (state_of c.restore_all.new.core) (recorder_of c.restore_all.new.core) state disk journal layout none_begun rest,
      has_pages g.D.Disk.is_modelled g.D.Disk.life c.openings_are_kept.ensures c.args.pager c.args.found c.requires (state_of c.restore_all.new.core) (recorder_of c.restore_all.new.core) state disk journal layout
          (pages_of c.restore_all.new.core) (subst (λ (t : Tables). PagesStay t (pages_of c.restore_all.new.core)) c.restored-core.ensures.pages c.restore_all.ensures.pages),
    )
