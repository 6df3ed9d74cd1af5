-- Calls that are made together leave a core that is recorded, and what is made of its disk is journaled.
use Rattle.std.proofs.Common.{inl, inr, ⊎_elim, ◌≡◌, ℕ, ◌+◌, ◌-◌, ◌≤◌, Bool, true, false, IsTrue, List, [], ◌∷◌, ◌++◌, length, map, Some, Result, Ok, Err, IfErr, OnErr, OnOk, refl, sym, ◌∙◌, ap, subst, arith, append-nil}
use Rattle.std.proofs.lemmas.Bool.{false≢true}
use Rattle.drda_disk.specs.Disk.{Life}
use Rattle.drda_disk.specs.Region.{end_of}
use Rattle.drda_disk.specs.declared.region.Region.{Region}
use Rattle.std.specs.List.{AllByRecursion}
use Rattle.half_store.specs.declared.header.Layout.{Layout}
use Rattle.unit_journal.specs.Journal.{held_of, region_of, room_of}
use Rattle.unit_journal.specs.declared.journal.Journal.{Journal}
use Rattle.unit_journal.specs.Record.{Entry, laid}
use Rattle.unit_journal.specs.Stands.{IsBeforeOrAfterAll, Stands}
use Rattle.unit_records.specs.MadeRecords.{MadeRecords}
use Rattle.unit_records.specs.Records.{UnitRecord, entry_of}
use Rattle.unit_records.specs.Room.{held_by, released_by, taken_by}
use Rattle.unit_records.specs.Together.{FailsTogether, all_made, may_make, records_of}
use Rattle.unit_records.specs.declared.group_call.GroupCall.{GroupCall}
use Rattle.unit_records.specs.declared.group_error.GroupError.{GroupError}
use Rattle.unit_records.specs.declared.group_error.GroupError.TheVariants.{DeviceFailed, Refused}
use Rattle.recovery.specs.Durable.{replayed_from}
use Rattle.recovery.specs.Known.{IsKnown, ReleaseAll}
use Rattle.recovery.specs.Laws.{HeldForAll, held_for}
use Rattle.recovery.specs.StepLaws.{GroupsAreKnown, GroupsAreOfDoubts, GroupsKeep, GroupsLead}
use Rattle.core_model.specs.Step.{CoreState}
use Rattle.recovery.specs.Part.{durable_part}
use Rattle.recovery.specs.Opens.{Holds}
use Rattle.recovery.specs.ImageLaws.{GroupsOpen, GroupsStay}
use Rattle.journal_recorder.specs.Ahead.{AllowsEarly}
use Rattle.durable_core.specs.Ahead.{LetsOpenEarly}
use Rattle.recovery.specs.Journaled.{CallsGoOn, IsDurable, Journaled, Made, OneCallIsMade, OneGroupIsMade, shown_on}
use Rattle.journal_recorder.specs.Recording.{AllowsAll, AreLeftOpen, RecordsAll, disk_of, has_failed, journal_of, layout_of, made_of}
use Rattle.journal_recorder.specs.declared.recorder.DiskRecorder.{DiskRecorder}
use Rattle.durable_core.specs.Recorded.{IsOnDisk, IsRecorded, core_on}
use Rattle.durable_core.proofs.Recording.{done_in, durable_from, no_faults, one_fault, there_left, there_stand}

-- the laws that it rests on
pub record GroupLaws {D : Type 0} (life : D → Life) : Type 0 where
  pub keep : GroupsKeep
  pub lead : GroupsLead
  pub of_doubts : GroupsAreOfDoubts
  pub known : GroupsAreKnown
  pub held : HeldForAll
  pub stay : GroupsStay
  pub calls : OneCallIsMade life
  pub groups : OneGroupIsMade life
  pub go_on : CallsGoOn life

-- records that find room fit behind the others, with the bytes that are held then
fits : (at len l need hold free before after room : ℕ) → room ≡ at + len - (at + l) - 1 - before → l + 1 + before ≤ len → need + hold ≤ room + free → after + free ≡ before + hold → l + need + 1 + after ≤ len
fits at len l need hold free before after room is inside less same = omega (arith, is, inside, less, same)

module _ {D : Type 0} (modelled : Bool) (life : D → Life) (name : List ℕ) (all : GroupLaws life) (s : CoreState) (r : DiskRecorder D) (is : IsRecorded modelled life name s r) (going : has_failed r ≡ false) where
  pub record IsLeft (new : CoreState) (after : DiskRecorder D) : Type 0 where
    pub recorded : IsRecorded modelled life name new after
    pub journaled : Journaled modelled (shown_on life (core_on name s r)) (shown_on life (core_on name new after))

  -- nothing was done
  pub same_left : IsLeft s r
  same_left = record { recorded = is; journaled = all.go_on.none modelled (core_on name s r) (λ modelled_disk still. durable_from modelled life name all.calls s r is modelled_disk still) }

  module _ (cs : List GroupCall) (may : may_make s cs ≡ true) where
    abbrev behind : CoreState
    behind = all_made cs s

    abbrev said : List UnitRecord
    said = records_of s.base.units cs

    leads : replayed_from (durable_part s) said ≡ Some (durable_part behind)
    leads = all.lead s cs is.kept may

    abbrev hold : ℕ
    hold = held_by (layout_of r) said

    abbrev free : ℕ
    free = released_by (layout_of r) said

    known : AllByRecursion (IsKnown (layout_of r)) said
    known = all.known (layout_of r) s cs

    releases : ReleaseAll (layout_of r) (durable_part s) said
    releases = (all.of_doubts (layout_of r) s cs is.kept may).1

    pub allowed : AllowsAll modelled life r said
    allowed = record {
      going = going;
      inside = is.inside;
      released_is_held = subst (λ (n : ℕ). free ≤ n) (sym is.held) (all.of_doubts (layout_of r) s cs is.kept may).0;
    }

    holds_for : held_for (layout_of r) (durable_part behind).doubts + free ≡ held_for (layout_of r) (durable_part s).doubts + hold
    holds_for = all.held (layout_of r) (durable_part s) (durable_part behind) said releases leads

    fit : (there : IsOnDisk modelled life name s r) → taken_by said + hold ≤ room_of (journal_of r) + free
        → length (laid there.entries) + taken_by said + 1 + held_for (layout_of r) (durable_part behind).doubts ≤ (region_of (journal_of r)).length
    fit there less = fits (region_of (journal_of r)).at (region_of (journal_of r)).length (length (laid there.entries)) (taken_by said) hold free (held_of (journal_of r)) (held_for (layout_of r) (durable_part behind).doubts) (room_of (journal_of r))
        (ap (λ (n : ℕ). end_of (region_of (journal_of r)) - n - 1 - held_of (journal_of r)) there.settled.next)
        (subst (λ (n : ℕ). length (laid there.entries) + 1 + n ≤ (region_of (journal_of r)).length) (sym is.held) there.holds.room)
        less (holds_for ∙ ap (λ (n : ℕ). n + hold) (sym is.held))

    -- ---- the records count before they are made

    -- an image that has the records and no others opens as what is read
    shown_holds : GroupsOpen → (there : IsOnDisk modelled life name s r) → (image : List ℕ) → IsBeforeOrAfterAll (region_of (journal_of r)) (life (disk_of r)).seen there.entries [] image
        → Holds name (layout_of r) (region_of (journal_of r)) there.entries (durable_part s) image
    shown_holds opened there image shown =
        ⊎_elim (λ before. before) (λ after. subst (λ (es : List Entry). Holds name (layout_of r) (region_of (journal_of r)) es (durable_part s) image) (append-nil there.entries) after)
        (opened name (layout_of r) (region_of (journal_of r)) there.entries (durable_part s) (durable_part s) [] (life (disk_of r)).seen image there.holds tt tt refl (omega (arith, there.holds.room)) shown)

    pub early : GroupsOpen → (allows : List ℕ → List ℕ → Type 0) → (IsTrue modelled → LetsOpenEarly allows) → AllowsEarly modelled life allows r said
    early opened allows lets honest good less =
        let there = is.on_disk honest going in
        record {
          es = there.entries;
          there = there.settled;
          allowed = λ base c shown either. lets honest base c (record {
            name = name;
            core = s;
            calls = cs;
            may = may;
            opens = (layout_of r, region_of (journal_of r), there.entries, shown_holds opened there base shown);
            either = ⊎_elim (λ before. inl (layout_of r, region_of (journal_of r), there.entries, before)) (λ after. inr (layout_of r, region_of (journal_of r), there.entries ++ map entry_of said, after))
                (opened name (layout_of r) (region_of (journal_of r)) there.entries (durable_part s) (durable_part behind) said (life (disk_of r)).seen c there.holds good known leads (fit there less) either);
          });
        }

    -- ---- the records are made

    module _ (after : DiskRecorder D) (made : RecordsAll modelled life r said after) where
      less : taken_by said + hold ≤ room_of (journal_of r) + free
      less = omega (arith, made.room)

      on_disk : IsTrue modelled → IsOnDisk modelled life name behind after
      on_disk modelled_disk =
          let there = is.on_disk modelled_disk going in
          let settled = made.settled there.entries there.settled in
          let here = subst (λ (g : Region). Stands g (there.entries ++ map entry_of said) (life (disk_of after)).seen) made.region (there_stand modelled life after (there.entries ++ map entry_of said) settled) in
          record {
            entries = there.entries ++ map entry_of said;
            settled = settled;
            holds = subst (λ (l : Layout). Holds name l (region_of (journal_of after)) (there.entries ++ map entry_of said) (durable_part behind) (life (disk_of after)).seen) (sym made.layout)
                (subst (λ (g : Region). Holds name (layout_of r) g (there.entries ++ map entry_of said) (durable_part behind) (life (disk_of after)).seen) (sym made.region)
                (all.stay name (layout_of r) (region_of (journal_of r)) there.entries (durable_part s) (durable_part behind) said (life (disk_of r)).seen (life (disk_of after)).seen
                there.holds made.good known leads (fit there less) made.others here));
            none_begun = ap (λ (m : MadeRecords). m.begun) made.made ∙ there.none_begun;
          }

      durable_after : IsTrue modelled → IsDurable (shown_on life (core_on name behind after))
      durable_after modelled_disk =
          let here = on_disk modelled_disk in
          all.calls.durable (core_on name behind after) (layout_of after) (region_of (journal_of after)) here.entries here.holds (there_left modelled life after here.entries here.settled) here.none_begun

      group_made : IsTrue modelled → Made (said ∷ []) [] (shown_on life (core_on name s r)) (shown_on life (core_on name behind after))
      group_made modelled_disk =
          let there = is.on_disk modelled_disk going in
          all.groups.made (core_on name s r) (core_on name behind after) (layout_of r) (region_of (journal_of r)) there.entries said
          there.holds made.good known leads (fit there less) (made.moments there.entries there.settled) refl (durable_after modelled_disk) made.made

      pub done_left : IsLeft behind after
      done_left = record {
        recorded = record {
          kept = all.keep s cs is.kept;
          held = (let sum : held_of (journal_of after) ≡ held_for (layout_of r) (durable_part behind).doubts = omega (arith, made.held, holds_for, is.held) in sum) ∙ ap (λ (l : Layout). held_for l (durable_part behind).doubts) (sym made.layout);
          inside = subst (λ (g : Region). end_of g ≤ length (life (disk_of after)).seen) (sym made.region) (subst (λ (n : ℕ). end_of (region_of (journal_of r)) ≤ n) (sym made.others.size) is.inside);
          on_disk = λ modelled_disk still. on_disk modelled_disk;
        };
        journaled = record {
          name = refl;
          more = map entry_of said ∷ [];
          done = ap done_in made.made;
          faults = λ still. no_faults modelled (has_failed after) (life (disk_of r)).faults (life (disk_of after)).faults made.going made.faults;
          failed = λ is_failed. absurd (false≢true (sym going ∙ is_failed));
          records = λ modelled_disk still. (said ∷ [], [], group_made modelled_disk);
        };
      }

    -- ---- the device failed: the core is as it was

    module _ (after : DiskRecorder D) (left : AreLeftOpen modelled life r said after) where
      left_begun : IsTrue modelled → Made [] (said ∷ []) (shown_on life (core_on name s r)) (shown_on life (core_on name s after))
      left_begun modelled_disk =
          let there = is.on_disk modelled_disk going in
          all.groups.begun (core_on name s r) (core_on name s after) (layout_of r) (region_of (journal_of r)) there.entries said
          (durable_part behind) there.holds left.good known leads (fit there left.fits) (left.moments there.entries there.settled) refl left.failed left.begun

      pub open_left : IsLeft s after
      open_left = record {
        recorded = record {
          kept = is.kept;
          held = ap (λ (j : Journal). held_of j) left.journal ∙ is.held ∙ ap (λ (l : Layout). held_for l (durable_part s).doubts) (sym left.layout);
          inside = subst (λ (j : Journal). end_of (region_of j) ≤ length (life (disk_of after)).seen) (sym left.journal) (subst (λ (n : ℕ). end_of (region_of (journal_of r)) ≤ n) (sym left.others.size) is.inside);
          on_disk = λ modelled_disk still. absurd (false≢true (sym still ∙ left.failed));
        };
        journaled = record {
          name = refl;
          more = [];
          done = ap done_in left.begun ∙ sym (append-nil (made_of r).done);
          faults = λ still. one_fault modelled (has_failed after) (life (disk_of r)).faults (life (disk_of after)).faults left.failed left.faults;
          failed = λ is_failed. absurd (false≢true (sym going ∙ is_failed));
          records = λ modelled_disk still. ([], said ∷ [], left_begun modelled_disk);
        };
      }

    kept_by : (fault : GroupError) (after : DiskRecorder D) → FailsTogether (AreLeftOpen modelled life) said fault r after → IsLeft s after
    kept_by Refused after same = subst (λ (x : DiskRecorder D). IsLeft s x) (sym same) same_left
    kept_by DeviceFailed after left = open_left after left

    -- whatever the core answers
    pub left_by : {X : Type 0} (result : Result X GroupError) (new : CoreState) (after : DiskRecorder D) → OnOk result (new ≡ behind) → OnOk result (RecordsAll modelled life r said after)
        → OnErr result (new ≡ s) → IfErr result (λ fault. FailsTogether (AreLeftOpen modelled life) said fault r after) → IsLeft new after
    left_by (Ok x) new after is_new made same refused = subst (λ (n : CoreState). IsLeft n after) (sym is_new) (done_left after made)
    left_by (Err fault) new after is_new made same refused = subst (λ (n : CoreState). IsLeft n after) (sym same) (kept_by fault after refused)
