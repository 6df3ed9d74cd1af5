-- What becomes of a core and of who records where a record is made, is refused, or none is due, and where rows are read: it
-- stays recorded.
use Rattle.std.proofs.Common.{◌≡◌, ◌⊎◌, inl, inr, ℕ, ◌+◌, ◌-◌, ◌≤◌, Bool, true, false, IsTrue, List, [], ◌∷◌, ◌++◌, length, Some, refl, sym, ◌∙◌, ap, subst, arith, append-nil}
use Rattle.std.proofs.lemmas.Bool.{false≢true}
use Rattle.drda_disk.specs.Disk.{Life, Now, Only, Stays}
use Rattle.drda_disk.specs.Region.{end_of}
use Rattle.drda_disk.specs.declared.region.Region.{Region}
use Rattle.drda_disk.proofs.Moments.{Stays-refl}
use Rattle.half_store.specs.declared.header.Layout.{Layout}
use Rattle.unit_journal.specs.Journal.{held_of, region_of, room_of}
use Rattle.unit_journal.specs.declared.journal.Journal.{Journal}
use Rattle.unit_journal.specs.Record.{Entry, laid}
use Rattle.unit_journal.specs.Staged.{IsAtRest, IsUnderWay, journal_of as journal_in}
use Rattle.unit_journal.specs.Stands.{IsBeforeOrAfterAll, Stands}
use Rattle.unit_journal.specs.declared.staged.Staged.{Staged}
use Rattle.unit_journal.proofs.Staging.{IsUnderWay-stays, ends_at_rest}
use Rattle.unit_records.specs.MadeRecords.{MadeRecords, with_done}
use Rattle.unit_records.specs.Records.{UnitRecord, entry_of}
use Rattle.unit_records.specs.Room.{held, released, taken}
use Rattle.recovery.specs.Durable.{Durable, next}
use Rattle.recovery.specs.Known.{IsKnown, Releases}
use Rattle.recovery.specs.Laws.{HeldForDoubts, held_for}
use Rattle.core_model.specs.Step.{CoreState}
use Rattle.recovery.specs.Part.{durable_part}
use Rattle.recovery.specs.Kept.{IsKept}
use Rattle.journal_recorder.specs.Recording.{AreThere, IsLeftOpen, Records, disk_of, has_failed, journal_of, layout_of, made_of, staged_of}
use Rattle.journal_recorder.specs.declared.recorder.DiskRecorder.{DiskRecorder}
use Rattle.recovery.specs.Opens.{Holds}
use Rattle.recovery.specs.ImageLaws.{RecordsStay}
use Rattle.recovery.specs.Journaled.{FaultsAfter, IsDurable, IsRead, IsUnchanged, IsUntouched, Journaled, Made, OnDisk, OneCallIsMade, shown_on}
use Rattle.durable_core.specs.Recorded.{IsOnDisk, IsRecorded, core_on}

-- the laws that it rests on
pub record Laws {D : Type 0} (life : D → Life) : Type 0 where
  pub held_for_doubts : HeldForDoubts
  pub records_stay : RecordsStay
  pub calls_made : OneCallIsMade life

-- a record that finds room fits behind the others, with the bytes that are held then
fits : (at len l need hold free before after room : ℕ) → room ≡ at + len - (at + l) - 1 - before → l + 1 + before ≤ len → need + hold ≤ room + free → after + free ≡ before + hold → l + need + 1 + after ≤ len
fits at len l need hold free before after room is inside less same = omega (arith, is, inside, less, same)

-- no call of the device has failed, or one more
pub no_faults : (modelled is_failed : Bool) (old new : ℕ) → is_failed ≡ false → new ≡ old → FaultsAfter modelled is_failed old new
no_faults modelled is_failed old new going same = subst (λ (f : Bool). FaultsAfter modelled f old new) (sym going) (inl (omega (arith, same)))

pub one_fault : (modelled is_failed : Bool) (old new : ℕ) → is_failed ≡ true → new ≡ old + 1 → FaultsAfter modelled is_failed old new
one_fault modelled is_failed old new failed more = subst (λ (f : Bool). FaultsAfter modelled f old new) (sym failed) (inl more)

-- a device that gives back what was written has failed in a call of it; any other may have given damage
pub some_fault : (modelled is_failed : Bool) (old new : ℕ) → is_failed ≡ true → (IsTrue modelled → new ≡ old + 1) → (new ≡ old + 1) ⊎ (new ≡ old) → FaultsAfter modelled is_failed old new
some_fault modelled is_failed old new failed told (inl more) = one_fault modelled is_failed old new failed more
some_fault true is_failed old new failed told (inr same) = one_fault true is_failed old new failed (told refl)
some_fault false is_failed old new failed told (inr same) = inr (record { untold = refl; failed = failed; faults = same })

-- no record was made
pub nothing_done : (m : MadeRecords) → m ≡ with_done m []
nothing_done m = λ i. record { done = sym (append-nil m.done) i; begun = m.begun }

-- the groups that were made stay in front
abbrev pub done_in : MadeRecords → List (List Entry)
done_in m = m.done

-- who records has its journal and what lies ahead, its layout and the records that were made, and nothing was written
pub record RestsOn {D : Type 0} (life : D → Life) (r after : DiskRecorder D) : Type 0 where
  pub disk : Stays (life (disk_of r)) (life (disk_of after))
  pub staged : staged_of after ≡ staged_of r
  pub layout : layout_of after ≡ layout_of r
  pub made : made_of after ≡ made_of r

pub same_journal : {D : Type 0} (life : D → Life) (r after : DiskRecorder D) → RestsOn life r after → journal_of after ≡ journal_of r
same_journal life r after rests = ap (λ (s : Staged). journal_in s) rests.staged

-- records that are there to stay are so where nothing is written
there_still : {D : Type 0} (modelled : Bool) (life : D → Life) (r after : DiskRecorder D) (es : List Entry) → RestsOn life r after → AreThere modelled life r es → AreThere modelled life after es
there_still modelled life r after es rests there =
    subst (λ (s : Staged). IsUnderWay modelled (life (disk_of after)) s es) (sym rests.staged)
    (IsUnderWay-stays modelled (life (disk_of r)) (life (disk_of after)) (staged_of r) es there rests.disk)

-- they are what is read
pub there_stand : {D : Type 0} (modelled : Bool) (life : D → Life) (r : DiskRecorder D) (es : List Entry) → AreThere modelled life r es → Stands (region_of (journal_of r)) es (life (disk_of r)).seen
there_stand modelled life r es there = there.stands

-- where nothing was written since the last sync, a crash leaves what is read
pub there_only : {D : Type 0} (modelled : Bool) (life : D → Life) (r : DiskRecorder D) → IsAtRest (staged_of r) → (es : List Entry) → AreThere modelled life r es → Only (life (disk_of r))
there_only modelled life r rest es there = (ends_at_rest modelled (life (disk_of r)) (staged_of r) rest es there).durable

-- and a crash leaves no others
pub there_left : {D : Type 0} (modelled : Bool) (life : D → Life) (r : DiskRecorder D) (es : List Entry) → AreThere modelled life r es
    → (c : List ℕ) → Now (life (disk_of r)) c → IsBeforeOrAfterAll (region_of (journal_of r)) (life (disk_of r)).seen es [] c
there_left modelled life r es there = there.images

-- a core that has failed does nothing
pub stays_failed : {D : Type 0} (modelled : Bool) (life : D → Life) → OneCallIsMade life → (s : OnDisk D) → s.is_failed ≡ true → Journaled modelled (shown_on life s) (shown_on life s)
stays_failed modelled life made s failed = record {
  name = refl;
  more = [];
  done = sym (append-nil s.made.done);
  faults = λ going. absurd (false≢true (sym going ∙ failed));
  failed = λ before. made.failed s s before refl;
  records = λ modelled_disk going. absurd (false≢true (sym going ∙ failed));
}

module _ {D : Type 0} (modelled : Bool) (life : D → Life) (name : List ℕ) where
  pub untouched : (r : DiskRecorder D) → IsUntouched (life (disk_of r)) (life (disk_of r))
  untouched r = record { stays = Stays-refl (life (disk_of r)); moment = refl; faults = refl }

  pub rests : (r : DiskRecorder D) → RestsOn life r r
  rests r = record { disk = Stays-refl (life (disk_of r)); staged = refl; layout = refl; made = refl }

  pub unchanged : (s : CoreState) (r : DiskRecorder D) → IsUnchanged (shown_on life (core_on name s r)) (shown_on life (core_on name s r))
  unchanged s r = record { name = refl; state = refl; disk = untouched r; layout = refl; room = refl; is_failed = refl; made = refl }

  -- all is as it was, whatever was read
  pub only_read : (s : CoreState) (r after : DiskRecorder D) → RestsOn life r after → (life (disk_of after)).faults ≡ (life (disk_of r)).faults → has_failed after ≡ has_failed r
      → IsRead (shown_on life (core_on name s r)) (shown_on life (core_on name s after))
  only_read s r after rests faults failed = record {
    name = refl;
    state = refl;
    disk = record { stays = rests.disk; faults = faults };
    layout = rests.layout;
    room = ap (λ (j : Journal). room_of j) (same_journal life r after rests);
    is_failed = failed;
    made = rests.made;
  }

  -- the core is durable until the device fails
  pub durable_from : OneCallIsMade life → (s : CoreState) (r : DiskRecorder D) → IsRecorded modelled life name s r → IsTrue modelled → has_failed r ≡ false → IsDurable (shown_on life (core_on name s r))
  durable_from made s r is modelled_disk going =
      let there = is.on_disk modelled_disk going in
      made.durable (core_on name s r) (layout_of r) (region_of (journal_of r)) there.entries there.holds (there_left modelled life r there.entries there.settled) there.none_begun

  module _ (laws : Laws life) (s : CoreState) (r : DiskRecorder D) (is : IsRecorded modelled life name s r) (going : has_failed r ≡ false) where
    -- ---- no record: nothing durable changes

    module _ (new : CoreState) (same : durable_part new ≡ durable_part s) where
      -- nothing was written, whatever was read
      module _ (after : DiskRecorder D) (stays : RestsOn life r after) where
        pub read_journaled : FaultsAfter modelled (has_failed after) (life (disk_of r)).faults (life (disk_of after)).faults → Journaled modelled (shown_on life (core_on name s r)) (shown_on life (core_on name new after))
        read_journaled faults = record {
          name = refl;
          more = [];
          done = ap done_in stays.made ∙ sym (append-nil (made_of r).done);
          faults = λ still. faults;
          failed = λ is_failed. absurd (false≢true (sym going ∙ is_failed));
          records = λ modelled_disk still. ([], [], laws.calls_made.silent (core_on name s r) (core_on name new after) (durable_from laws.calls_made s r is modelled_disk going) stays.disk same stays.made);
        }

        here : (there : IsOnDisk modelled life name s r) → Holds name (layout_of after) (region_of (journal_of after)) there.entries (durable_part new) (life (disk_of after)).seen
        here there =
            subst (λ (l : Layout). Holds name l (region_of (journal_of after)) there.entries (durable_part new) (life (disk_of after)).seen) (sym stays.layout)
            (subst (λ (j : Journal). Holds name (layout_of r) (region_of j) there.entries (durable_part new) (life (disk_of after)).seen) (sym (same_journal life r after stays))
            (subst (λ (d : Durable). Holds name (layout_of r) (region_of (journal_of r)) there.entries d (life (disk_of after)).seen) (sym same)
            (subst (λ (i : List ℕ). Holds name (layout_of r) (region_of (journal_of r)) there.entries (durable_part s) i) (sym stays.disk.same) there.holds)))

        pub read_recorded : IsKept new → IsRecorded modelled life name new after
        read_recorded kept = record {
          kept = kept;
          held = ap (λ (j : Journal). held_of j) (same_journal life r after stays) ∙ is.held ∙ ap (λ (d : Durable). held_for (layout_of r) d.doubts) (sym same) ∙ ap (λ (l : Layout). held_for l (durable_part new).doubts) (sym stays.layout);
          inside = subst (λ (j : Journal). end_of (region_of j) ≤ length (life (disk_of after)).seen) (sym (same_journal life r after stays))
              (subst (λ (i : List ℕ). end_of (region_of (journal_of r)) ≤ length i) (sym stays.disk.same) is.inside);
          on_disk = λ modelled_disk still.
              let there = is.on_disk modelled_disk going in
              record {
                entries = there.entries;
                settled = there_still modelled life r after there.entries stays there.settled;
                holds = here there;
                none_begun = ap (λ (m : MadeRecords). m.begun) stays.made ∙ there.none_begun;
              };
        }

      pub silent_journaled : Journaled modelled (shown_on life (core_on name s r)) (shown_on life (core_on name new r))
      silent_journaled = read_journaled r (rests r) (no_faults modelled (has_failed r) (life (disk_of r)).faults (life (disk_of r)).faults going refl)

      pub silent_recorded : IsKept new → IsRecorded modelled life name new r
      silent_recorded kept = read_recorded r (rests r) kept

    -- ---- a record that leads to what is durable of the new state

    module _ (new : CoreState) (said : UnitRecord) (leads : next (durable_part s) said ≡ Some (durable_part new))
        (known : IsOnDisk modelled life name s r → IsKnown (layout_of r) said) (releases : Releases (layout_of r) (durable_part s) said) where
      abbrev hold : ℕ
      hold = held (layout_of r) said

      abbrev free : ℕ
      free = released (layout_of r) said

      holds_for : held_for (layout_of r) (durable_part new).doubts + free ≡ held_for (layout_of r) (durable_part s).doubts + hold
      holds_for = laws.held_for_doubts (layout_of r) (durable_part s) (durable_part new) said releases leads

      fit : (there : IsOnDisk modelled life name s r) → taken said + hold ≤ room_of (journal_of r) + free
          → length (laid there.entries) + taken said + 1 + held_for (layout_of r) (durable_part new).doubts ≤ (region_of (journal_of r)).length
      fit there less = fits (region_of (journal_of r)).at (region_of (journal_of r)).length (length (laid there.entries)) (taken said) hold free (held_of (journal_of r)) (held_for (layout_of r) (durable_part new).doubts) (room_of (journal_of r))
          (ap (λ (n : ℕ). end_of (region_of (journal_of r)) - n - 1 - held_of (journal_of r)) there.settled.next)
          (subst (λ (n : ℕ). length (laid there.entries) + 1 + n ≤ (region_of (journal_of r)).length) (sym is.held) there.holds.room)
          less (holds_for ∙ ap (λ (n : ℕ). n + hold) (sym is.held))

      module _ (after : DiskRecorder D) (made : Records modelled life r said after) where
        less : taken said + hold ≤ room_of (journal_of r) + free
        less = omega (arith, made.room)

        record_on_disk : IsTrue modelled → IsOnDisk modelled life name new after
        record_on_disk modelled_disk =
            let there = is.on_disk modelled_disk going in
            let settled = made.settled there.entries there.settled in
            let here = subst (λ (g : Region). Stands g (there.entries ++ entry_of said ∷ []) (life (disk_of after)).seen) made.region (there_stand modelled life after (there.entries ++ entry_of said ∷ []) settled) in
            record {
              entries = there.entries ++ entry_of said ∷ [];
              settled = settled;
              holds = subst (λ (l : Layout). Holds name l (region_of (journal_of after)) (there.entries ++ entry_of said ∷ []) (durable_part new) (life (disk_of after)).seen) (sym made.layout)
                  (subst (λ (g : Region). Holds name (layout_of r) g (there.entries ++ entry_of said ∷ []) (durable_part new) (life (disk_of after)).seen) (sym made.region)
                  (laws.records_stay name (layout_of r) (region_of (journal_of r)) there.entries (durable_part s) (durable_part new) said (life (disk_of r)).seen (life (disk_of after)).seen
                  there.holds made.good (known there) leads (fit there less) made.others here));
              none_begun = ap (λ (m : MadeRecords). m.begun) made.made ∙ there.none_begun;
            }

        durable_after : IsTrue modelled → IsDurable (shown_on life (core_on name new after))
        durable_after modelled_disk =
            let here = record_on_disk modelled_disk in
            laws.calls_made.durable (core_on name new after) (layout_of after) (region_of (journal_of after)) here.entries here.holds (there_left modelled life after here.entries here.settled) here.none_begun

        record_made : IsTrue modelled → Made ((said ∷ []) ∷ []) [] (shown_on life (core_on name s r)) (shown_on life (core_on name new after))
        record_made modelled_disk =
            let there = is.on_disk modelled_disk going in
            laws.calls_made.recorded (core_on name s r) (core_on name new after) (layout_of r) (region_of (journal_of r)) there.entries said
            there.holds made.good (known there) leads (fit there less) (made.moments there.entries there.settled) refl (durable_after modelled_disk) made.made

        pub record_journaled : Journaled modelled (shown_on life (core_on name s r)) (shown_on life (core_on name new after))
        record_journaled = record {
          name = refl;
          more = (entry_of said ∷ []) ∷ [];
          done = ap done_in made.made;
          faults = λ still. no_faults modelled (has_failed after) (life (disk_of r)).faults (life (disk_of after)).faults made.going made.faults;
          failed = λ is_failed. absurd (false≢true (sym going ∙ is_failed));
          records = λ modelled_disk still. ((said ∷ []) ∷ [], [], record_made modelled_disk);
        }

        pub record_recorded : IsKept new → IsRecorded modelled life name new after
        record_recorded kept = record {
          kept = kept;
          held = (let sum : held_of (journal_of after) ≡ held_for (layout_of r) (durable_part new).doubts = omega (arith, made.held, holds_for, is.held) in sum) ∙ ap (λ (l : Layout). held_for l (durable_part new).doubts) (sym made.layout);
          inside = subst (λ (g : Region). end_of g ≤ length (life (disk_of after)).seen) (sym made.region) (subst (λ (n : ℕ). end_of (region_of (journal_of r)) ≤ n) (sym made.others.size) is.inside);
          on_disk = λ modelled_disk still. record_on_disk modelled_disk;
        }

      -- ---- the device failed: the core is as it was

      module _ (after : DiskRecorder D) (left : IsLeftOpen modelled life r said after) where
        left_begun : IsTrue modelled → Made [] ((said ∷ []) ∷ []) (shown_on life (core_on name s r)) (shown_on life (core_on name s after))
        left_begun modelled_disk =
            let there = is.on_disk modelled_disk going in
            laws.calls_made.begun (core_on name s r) (core_on name s after) (layout_of r) (region_of (journal_of r)) there.entries said
            (durable_part new) there.holds left.good (known there) leads (fit there left.fits) (left.moments there.entries there.settled) refl left.failed left.begun

        pub left_journaled : Journaled modelled (shown_on life (core_on name s r)) (shown_on life (core_on name s after))
        left_journaled = record {
          name = refl;
          more = [];
          done = ap done_in left.begun ∙ sym (append-nil (made_of r).done);
          faults = λ still. one_fault modelled (has_failed after) (life (disk_of r)).faults (life (disk_of after)).faults left.failed left.faults;
          failed = λ is_failed. absurd (false≢true (sym going ∙ is_failed));
          records = λ modelled_disk still. ([], (said ∷ []) ∷ [], left_begun modelled_disk);
        }

        pub left_recorded : IsRecorded modelled life name s after
        left_recorded = record {
          kept = is.kept;
          held = ap (λ (j : Journal). held_of j) left.journal ∙ is.held ∙ ap (λ (l : Layout). held_for l (durable_part s).doubts) (sym left.layout);
          inside = subst (λ (j : Journal). end_of (region_of j) ≤ length (life (disk_of after)).seen) (sym left.journal) (subst (λ (n : ℕ). end_of (region_of (journal_of r)) ≤ n) (sym left.others.size) is.inside);
          on_disk = λ modelled_disk still. absurd (false≢true (sym still ∙ left.failed));
        }
