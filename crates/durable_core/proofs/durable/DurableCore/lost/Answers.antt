use Rattle.std.proofs.Common.{rules, ◌≡◌, true, false, string_bytes, subst}
use Rattle.core_calls.specs.Answer.{answer_of}
use Rattle.core_calls.specs.Call.{lost}
use Rattle.rdb_core.specs.State.{pages_of, recorder_of, state_of}
use Rattle.journal_recorder.specs.Recording.{has_failed}
use Rattle.recovery.specs.Journaled.{Journaled, OnDisk, shown_on}
use Rattle.durable_core.specs.Recorded.{core_on}
use Rattle.durable_core.proofs.Paged as pages
use Rattle.durable_core.proofs.Recording.{stays_failed}
use Rattle.durable_core.proofs.Stepping.{taken_step}
use Rattle.durable_core.proofs.durable.DurableCore.lost.Goals as goal

pub invariant_of-self : goal.invariant_of-self
invariant_of-self g c =
    let going : has_failed (recorder_of c.self.inside.core) ≡ false = search rules in
    let is_done = taken_step g.D.Disk.is_modelled g.D.Disk.life (string_bytes c.self.inside.name)
    (record {
      keep = c.steps_are_recorded.ensures.keep;
      silent = c.steps_are_recorded.ensures.silent;
      lead = c.steps_are_recorded.ensures.lead;
      of_doubts = c.steps_are_recorded.ensures.decisions;
      known = c.steps_are_recorded.ensures.known;
      misread_keep = c.steps_are_recorded.ensures.misread_keep;
      misread_stays = c.steps_are_recorded.ensures.misread_stays;
      laws = record { held_for_doubts = c.doubts_hold_their_decisions.ensures; records_stay = c.records_stay.ensures; calls_made = c.calls_make_records.ensures };
    })
    (state_of c.self.inside.core) (recorder_of c.self.inside.core) c.self.invariant.0 going c.args.conversation lost (answer_of c.lost.result) (state_of c.lost.new.self) (recorder_of c.lost.new.self) c.lost.ensures.step in (
      is_done.recorded,
      pages.taken g.D.Disk.is_modelled g.D.Disk.life c.pages_are_kept.ensures (recorder_of c.self.inside.core) (pages_of c.self.inside.core) (pages_of c.lost.new.self) c.lost.ensures.pages c.self.invariant.1
          (state_of c.self.inside.core) c.args.conversation lost (answer_of c.lost.result) (state_of c.lost.new.self) (recorder_of c.lost.new.self) c.lost.ensures.step,
    )

pub returns-clause-journaled : goal.returns-clause-journaled
returns-clause-journaled g c =
    let going : has_failed (recorder_of c.self.inside.core) ≡ false = search rules in
    subst (λ (old : OnDisk g.row.D.Denot). Journaled g.D.Disk.is_modelled (shown_on g.D.Disk.life old) (shown_on g.D.Disk.life (core_on (string_bytes c.self.inside.name) (state_of c.lost.new.self) (recorder_of c.lost.new.self)))) c.self.view_is
    (taken_step g.D.Disk.is_modelled g.D.Disk.life (string_bytes c.self.inside.name)
    (record {
      keep = c.steps_are_recorded.ensures.keep;
      silent = c.steps_are_recorded.ensures.silent;
      lead = c.steps_are_recorded.ensures.lead;
      of_doubts = c.steps_are_recorded.ensures.decisions;
      known = c.steps_are_recorded.ensures.known;
      misread_keep = c.steps_are_recorded.ensures.misread_keep;
      misread_stays = c.steps_are_recorded.ensures.misread_stays;
      laws = record { held_for_doubts = c.doubts_hold_their_decisions.ensures; records_stay = c.records_stay.ensures; calls_made = c.calls_make_records.ensures };
    })
    (state_of c.self.inside.core) (recorder_of c.self.inside.core) c.self.invariant.0 going c.args.conversation lost (answer_of c.lost.result) (state_of c.lost.new.self) (recorder_of c.lost.new.self) c.lost.ensures.step).journaled

pub returns-then-is_failed-clause-journaled : goal.returns-then-is_failed-clause-journaled
returns-then-is_failed-clause-journaled g c =
    let failed : has_failed (recorder_of c.self.inside.core) ≡ true = search rules in
    subst (λ (s : OnDisk g.row.D.Denot). Journaled g.D.Disk.is_modelled (shown_on g.D.Disk.life s) (shown_on g.D.Disk.life s)) c.self.view_is
    (stays_failed g.D.Disk.is_modelled g.D.Disk.life c.calls_make_records.ensures (core_on (string_bytes c.self.inside.name) (state_of c.self.inside.core) (recorder_of c.self.inside.core)) failed)
