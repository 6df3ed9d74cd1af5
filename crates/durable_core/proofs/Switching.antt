-- What a checkpoint leaves: at each moment the same tables and branches in doubt.
use Rattle.std.proofs.Common.{◌≡◌, ◌⊎◌, inl, inr, ℕ, ◌+◌, ◌-◌, ◌<◌, ◌≤◌, Bool, true, false, IsTrue, List, [], ◌∷◌, length, map, Result, Ok, Err, refl, sym, ◌∙◌, ap, subst, arith, append-nil}
use Rattle.std.proofs.lemmas.Bool.{false≢true}
use Rattle.drda_disk.specs.Disk.{LeavesOnly, Life}
use Rattle.drda_disk.specs.Region.{end_of}
use Rattle.drda_disk.specs.declared.region.Region.{Region}
use Rattle.drda_disk.proofs.Moments.{Stays-refl, weaker}
use Rattle.row_pages.specs.Laying.{counted}
use Rattle.half_store.specs.Active.{Store, active_of}
use Rattle.half_store.specs.Layout.{half_len, other_than}
use Rattle.half_store.specs.declared.header.Layout.{Layout}
use Rattle.half_store.specs.declared.header.Layout.TheVariants.{Two}
use Rattle.half_store.specs.declared.layout.Half.{Half}
use Rattle.half_store.specs.declared.layout.Half.TheVariants.{First, Second}
use Rattle.tables.specs.Tables.{Store as Tables}
use Rattle.unit_journal.specs.Journal.{IsSettled, held_of, region_of, room_of}
use Rattle.unit_journal.specs.declared.journal.Journal.{Journal}
use Rattle.unit_journal.specs.Record.{Entry}
use Rattle.unit_journal.specs.Staged.{IsAtRest}
use Rattle.unit_journal.proofs.Staging.{begins_at_rest}
use Rattle.unit_journal.specs.Stands.{StandsFrom}
use Rattle.unit_records.specs.MadeRecords.{MadeRecords}
use Rattle.unit_records.specs.Records.{entry_of}
use Rattle.store_check.specs.Checkpoint.{CheckpointsAreStores, half_pages}
use Rattle.store_check.specs.Holds as image
use Rattle.store_check.specs.Holds.{half_end, journal_at}
use Rattle.store_check.specs.Moment.{IsNew, IsOld, Moment, MomentsHold}
use Rattle.store_check.specs.Room.{need_of}
use Rattle.recovery.specs.Durable.{Durable, at_checkpoint}
use Rattle.recovery.specs.Journal.{AreGood, Leads}
use Rattle.recovery.specs.Known.{AreKnown}
use Rattle.recovery.specs.Laws.{held_for}
use Rattle.recovery.specs.Laying.{DoubtsAreLaid, are_placed, records_of}
use Rattle.recovery.specs.Sound.{IsSound, LeadsAreSound}
use Rattle.recovery.proofs.Laying.{records_good}
use Rattle.core_model.specs.Step.{CoreState}
use Rattle.recovery.specs.Part.{durable_part}
use Rattle.recovery.specs.Opens.{Holds, IsJournal, OpensTo}
use Rattle.recovery.specs.Journaled.{FaultsAfter, Journaled, Made, OneCallIsMade, OpensAfterSome, shown_on}
use Rattle.recovery.proofs.Going.{made_nothing}
use Rattle.recovery.proofs.Reading.{active_sized, half_large, one_store}
use Rattle.journal_recorder.specs.Checkpointing as recorder
use Rattle.journal_recorder.specs.Checkpointing.{HasStore, IsSwitched, KeepsOld, LeavesOldOrNew, LeavesOpen, OfStore, RestsWith, StaysOn, Switches}
use Rattle.journal_recorder.specs.Recording.{disk_of, has_failed, journal_of, layout_of, made_of, staged_of}
use Rattle.journal_recorder.specs.declared.checkpointing.CheckpointError.{CheckpointError}
use Rattle.journal_recorder.specs.declared.checkpointing.CheckpointError.TheVariants as error
use Rattle.journal_recorder.specs.declared.recorder.DiskRecorder.{DiskRecorder}
use Rattle.durable_core.specs.Checkpointing.{Becomes, Checkpoints, GoesOn, IsSameCore, LacksRoom, need_for, told_of}
use Rattle.durable_core.specs.Recorded.{IsOnDisk, IsRecorded, core_on}
use Rattle.durable_core.specs.declared.checkpointing.Checkpointed.{Checkpointed}
use Rattle.durable_core.specs.declared.checkpointing.Checkpointed.TheVariants.{DeviceFailed, Done, Full, NoMemory}
use Rattle.durable_core.proofs.Heads.{ends_in}
use Rattle.durable_core.proofs.Recording.{done_in, durable_from, no_faults, some_fault, there_only}

-- ---- images

-- all records are of layout 2
known_in_two : (es : List Entry) → AreKnown Two es
known_in_two [] = tt
known_in_two (e ∷ es) = (refl, known_in_two es)

-- what an image holds, it opens to
opens_from : (layout : Layout) (store : Store) (tables : Tables) (es : List Entry) (held : ℕ) (file : List ℕ) (name : List ℕ) (d : Durable) → image.Holds store tables es held file → store.name ≡ name → store.header.layout ≡ layout
    → AreKnown layout es → Leads (at_checkpoint tables) es d → held ≡ held_for layout d.doubts → OpensTo name d file
opens_from layout store tables es held file name d is named layout_is known leads bytes =
    let size : ℕ = length file in
    let large = half_large size (active_sized file store is.active) in
    let ends : half_end size store ≤ size = ends_in (half_len size) size store.half large.1 in
    let region : Region = record { at = journal_at size store; length = half_end size store - journal_at size store; ends = omega (arith, is.room, ends, large.2) } in
    let last : end_of region ≡ half_end size store = omega (arith, is.room) in (
      layout,
      region,
      es,
      record {
        store = store;
        active = is.active;
        named = named;
        layout_is = layout_is;
        journal = record { begins = refl; ends = last };
        checkpoint = tables;
        pages = is.pages;
        stands = subst (λ (n : ℕ). StandsFrom (journal_at size store) n es file) (sym last) is.stands;
        known = known;
        leads = leads;
        room = omega (arith, is.room, bytes);
      },
    )

-- a journal of a region stands where its store says, and back
from_region : (size : ℕ) (store : Store) (region : Region) (es : List Entry) (file : List ℕ) → IsJournal size store region → StandsFrom region.at (end_of region) es file → StandsFrom (journal_at size store) (half_end size store) es file
from_region size store region es file j stands =
    subst (λ (n : ℕ). StandsFrom n (half_end size store) es file) j.begins (subst (λ (n : ℕ). StandsFrom region.at n es file) j.ends stands)

to_region : (size : ℕ) (store : Store) (region : Region) (es : List Entry) (file : List ℕ) → IsJournal size store region → StandsFrom (journal_at size store) (half_end size store) es file → StandsFrom region.at (end_of region) es file
to_region size store region es file j stands =
    subst (λ (n : ℕ). StandsFrom n (end_of region) es file) (sym j.begins) (subst (λ (n : ℕ). StandsFrom (journal_at size store) n es file) (sym j.ends) stands)

never_other : (h : Half) → h ≡ other_than h → ⊥
never_other First same = absurd cc
never_other Second same = absurd cc

module _ (moments : MomentsHold) (name : List ℕ) (layout : Layout) (region : Region) (es : List Entry) (d : Durable) (seen : List ℕ) (was : Holds name layout region es d seen) where
  held_there : image.Holds was.store was.checkpoint es (held_for layout d.doubts) seen
  held_there = record {
    active = was.active;
    pages = was.pages;
    stands = from_region (length seen) was.store region es seen was.journal was.stands;
    room = omega (arith, was.room, was.journal.begins, was.journal.ends);
  }

  module _ (fs : List Entry) where
    after : (file : List ℕ) → Moment seen was.store d.store fs (held_for Two d.doubts) file → image.Holds was.store was.checkpoint es (held_for layout d.doubts) file ⊎ IsNew seen was.store d.store fs (held_for Two d.doubts) file
    after file m = moments seen was.store was.checkpoint d.store es fs (held_for layout d.doubts) (held_for Two d.doubts) file held_there m

    -- at each moment it opens to the same
    moment_opens : Leads (at_checkpoint d.store) fs d → (file : List ℕ) → Moment seen was.store d.store fs (held_for Two d.doubts) file → OpensTo name d file
    moment_opens leads file m = by_half (after file m)
      where
        by_half : image.Holds was.store was.checkpoint es (held_for layout d.doubts) file ⊎ IsNew seen was.store d.store fs (held_for Two d.doubts) file → OpensTo name d file
        by_half (inl h) = opens_from layout was.store was.checkpoint es (held_for layout d.doubts) file name d h was.named was.layout_is was.known was.leads refl
        by_half (inr n) = opens_from Two n.new d.store fs (held_for Two d.doubts) file name d n.holds (n.name ∙ was.named) n.layout (known_in_two fs) leads refl

    -- the old half goes on
    kept_there : (file : List ℕ) → IsOld seen was.store file → Holds name layout region es d file
    kept_there file old = by_half (after file (inl old))
      where
        by_half : image.Holds was.store was.checkpoint es (held_for layout d.doubts) file ⊎ IsNew seen was.store d.store fs (held_for Two d.doubts) file → Holds name layout region es d file
        by_half (inl h) =
            let journal : IsJournal (length file) was.store region = subst (λ (n : ℕ). IsJournal n was.store region) (sym old.others.size) was.journal in
            record {
              store = was.store;
              active = h.active;
              named = was.named;
              layout_is = was.layout_is;
              journal = journal;
              checkpoint = was.checkpoint;
              pages = h.pages;
              stands = to_region (length file) was.store region es file journal h.stands;
              known = was.known;
              leads = was.leads;
              room = was.room;
            }
        by_half (inr n) =
            let same : was.store ≡ n.new = one_store was.store n.new (active_of file) old.active n.holds.active in
            absurd (never_other was.store.half (ap (λ (x : Store). x.half) same ∙ n.half))

    -- the new half is there
    switched_there : Leads (at_checkpoint d.store) fs d → (modelled : Bool) (disk : Life) (journal : Journal) → IsSwitched modelled disk seen was.store d.store fs (held_for Two d.doubts) journal → Holds name Two (region_of journal) fs d disk.seen
    switched_there leads modelled disk journal s =
        let there : IsJournal (length disk.seen) s.is.new (region_of journal) = record { begins = s.begins; ends = s.ends } in
        record {
          store = s.is.new;
          active = s.is.holds.active;
          named = s.is.name ∙ was.named;
          layout_is = s.is.layout;
          journal = there;
          checkpoint = d.store;
          pages = s.is.holds.pages;
          stands = to_region (length disk.seen) s.is.new (region_of journal) fs disk.seen there s.is.holds.stands;
          known = known_in_two fs;
          leads = leads;
          room = omega (arith, s.is.holds.room, s.begins, s.ends);
        }

-- ---- cores

-- the laws that it rests on
pub record Laws : Type 0 where
  pub moments : MomentsHold
  pub laid : DoubtsAreLaid
  pub sound : LeadsAreSound
  pub stores : CheckpointsAreStores

-- the store over which it is written
module _ {D : Type 0} (modelled : Bool) (life : D → Life) (name : List ℕ) (s : CoreState) (r : DiskRecorder D) (is : IsRecorded modelled life name s r) (going : has_failed r ≡ false) (rest : IsAtRest (staged_of r)) where
  there : IsTrue modelled → IsOnDisk modelled life name s r
  there m = is.on_disk m going

  rests : (m : IsTrue modelled) → RestsWith modelled life r (there m).holds.store
  rests m = record {
    rests = record { modelled_disk = m; durable = there_only modelled life r rest (there m).entries (there m).settled; active = (there m).holds.active };
    journal = (there m).holds.journal.ends;
  }

  pub has_store : HasStore modelled life r
  has_store m = ((there m).holds.store, rests m)

module _ {D : Type 0} (modelled : Bool) (life : D → Life) (name : List ℕ) (laws : Laws) (s : CoreState) (r : DiskRecorder D) (is : IsRecorded modelled life name s r) (going : has_failed r ≡ false) (rest : IsAtRest (staged_of r))
    (fs : List Entry) (are : fs ≡ map entry_of (records_of (durable_part s).doubts)) (placed : AreGood (records_of (durable_part s).doubts) → are_placed (durable_part s).doubts s.base.store ≡ true)
    (hold : ℕ) (bytes : hold ≡ held_for Two (durable_part s).doubts) where
  abbrev tables : Tables
  tables = s.base.store

  abbrev disk_there : IsTrue modelled → IsOnDisk modelled life name s r
  disk_there m = there modelled life name s r is going rest m

  store_rests : (m : IsTrue modelled) → RestsWith modelled life r (disk_there m).holds.store
  store_rests m = rests modelled life name s r is going rest m

  leads : IsTrue modelled → Leads (at_checkpoint tables) fs (durable_part s)
  leads m =
      let h = (disk_there m).holds in
      let sound : IsSound (durable_part s) = laws.sound h.checkpoint (durable_part s) (disk_there m).entries (laws.stores (life (disk_of r)).seen (half_pages (length (life (disk_of r)).seen) h.store) h.checkpoint h.pages) h.leads in
      subst (λ (l : List Entry). Leads (at_checkpoint tables) l (durable_part s)) (sym are) (laws.laid.leads (durable_part s) sound (placed (records_good (durable_part s).doubts sound.good)))

  moments : (new : DiskRecorder D) → LeavesOldOrNew modelled life r tables fs hold new → (m : IsTrue modelled) → LeavesOnly (life (disk_of r)) (life (disk_of new)) (OpensTo name (durable_part s))
  moments new leaves m =
      let h = (disk_there m).holds in
      weaker (life (disk_of r)) (life (disk_of new)) _ _
      (subst (λ (n : ℕ). LeavesOnly (life (disk_of r)) (life (disk_of new)) (Moment (life (disk_of r)).seen h.store tables fs n)) bytes (leaves h.store (store_rests m)))
      (moment_opens laws.moments name (layout_of r) (region_of (journal_of r)) (disk_there m).entries (durable_part s) (life (disk_of r)).seen h fs (leads m))

  opens_here : (c : List ℕ) → OpensTo name (durable_part s) c → OpensAfterSome name (durable_part s) [] c
  opens_here c opens = record { count = 0; state = durable_part s; leads = refl; opens = opens }

  made : (new : DiskRecorder D) → LeavesOldOrNew modelled life r tables fs hold new → made_of new ≡ made_of r → IsTrue modelled → Made [] [] (shown_on life (core_on name s r)) (shown_on life (core_on name s new))
  made new leaves same m =
      let all = moments new leaves m in
      record {
        moments = weaker (life (disk_of r)) (life (disk_of new)) _ _ all opens_here;
        left = λ c now. inl (record { state = durable_part s; leads = refl; opens = all.now c now });
        state = refl;
        good = tt;
        made = same ∙ made_nothing (made_of r);
        settled = λ still. refl;
      }

  journaled : (new : DiskRecorder D) → LeavesOldOrNew modelled life r tables fs hold new → made_of new ≡ made_of r → FaultsAfter modelled (has_failed new) (life (disk_of r)).faults (life (disk_of new)).faults
      → Journaled modelled (shown_on life (core_on name s r)) (shown_on life (core_on name s new))
  journaled new leaves same faults = record {
    name = refl;
    more = [];
    done = ap done_in same ∙ sym (append-nil (made_of r).done);
    faults = λ still. faults;
    failed = λ failed. absurd (false≢true (sym going ∙ failed));
    records = λ m still. ([], [], made new leaves same m);
  }

  switched : (new : DiskRecorder D) → Switches modelled life r tables fs hold new → IsRecorded modelled life name s new
  switched new w = record {
    kept = is.kept;
    held = w.held ∙ bytes ∙ ap (λ (l : Layout). held_for l (durable_part s).doubts) (sym w.layout);
    inside = w.inside;
    on_disk = λ m still.
        let h = (disk_there m).holds in
        let after = subst (λ (n : ℕ). IsSwitched modelled (life (disk_of new)) (life (disk_of r)).seen h.store tables fs n (journal_of new)) bytes (w.switched h.store (store_rests m)) in
        record {
          entries = fs;
          settled = begins_at_rest modelled (life (disk_of new)) (staged_of new) w.stays.rest fs after.settled;
          holds = subst (λ (l : Layout). Holds name l (region_of (journal_of new)) fs (durable_part s) (life (disk_of new)).seen) (sym w.layout)
              (switched_there laws.moments name (layout_of r) (region_of (journal_of r)) (disk_there m).entries (durable_part s) (life (disk_of r)).seen h fs (leads m) modelled (life (disk_of new)) (journal_of new) after);
          none_begun = ap (λ (n : MadeRecords). n.begun) w.stays.made ∙ (disk_there m).none_begun;
        };
  }

  inside_still : (new : DiskRecorder D) → journal_of new ≡ journal_of r → length (life (disk_of new)).seen ≡ length (life (disk_of r)).seen → end_of (region_of (journal_of new)) ≤ length (life (disk_of new)).seen
  inside_still new journal size =
      subst (λ (n : ℕ). end_of (region_of (journal_of new)) ≤ n) (sym size) (subst (λ (j : Journal). end_of (region_of j) ≤ length (life (disk_of r)).seen) (sym journal) is.inside)

  still_held : (new : DiskRecorder D) → journal_of new ≡ journal_of r → layout_of new ≡ layout_of r → held_of (journal_of new) ≡ held_for (layout_of new) (durable_part s).doubts
  still_held new journal layout = ap (λ (j : Journal). held_of j) journal ∙ is.held ∙ ap (λ (l : Layout). held_for l (durable_part s).doubts) (sym layout)

  kept : (new : DiskRecorder D) → KeepsOld modelled life r tables fs hold new → IsRecorded modelled life name s new
  kept new k = record {
    kept = is.kept;
    held = still_held new k.journal k.layout;
    inside = inside_still new k.journal k.stays.size;
    on_disk = λ m still.
        let h = (disk_there m).holds in
        let old = (disk_there m).settled in
        let goes = k.goes_on h.store (store_rests m) in
        let holds : Holds name (layout_of r) (region_of (journal_of r)) (disk_there m).entries (durable_part s) (life (disk_of new)).seen =
        kept_there laws.moments name (layout_of r) (region_of (journal_of r)) (disk_there m).entries (durable_part s) (life (disk_of r)).seen h fs (life (disk_of new)).seen goes.is in
        record {
          entries = (disk_there m).entries;
          settled = begins_at_rest modelled (life (disk_of new)) (staged_of new) k.stays.rest (disk_there m).entries
              (subst (λ (j : Journal). IsSettled modelled (life (disk_of new)) j (disk_there m).entries) (sym k.journal)
              (record { modelled_disk = m; durable = goes.durable; stands = holds.stands; next = old.next }));
          holds = subst (λ (l : Layout). Holds name l (region_of (journal_of new)) (disk_there m).entries (durable_part s) (life (disk_of new)).seen) (sym k.layout)
              (subst (λ (j : Journal). Holds name (layout_of r) (region_of j) (disk_there m).entries (durable_part s) (life (disk_of new)).seen) (sym k.journal) holds);
          none_begun = ap (λ (n : MadeRecords). n.begun) k.stays.made ∙ (disk_there m).none_begun;
        };
  }

  left_open : (new : DiskRecorder D) → LeavesOpen modelled life r tables fs hold new → IsRecorded modelled life name s new
  left_open new l = record {
    kept = is.kept;
    held = still_held new l.journal l.layout;
    inside = inside_still new l.journal l.stays.size;
    on_disk = λ m still. absurd (false≢true (sym still ∙ l.failed));
  }

  -- ---- what becomes of the core

  -- what it takes, and what there is
  enough : need_for (shown_on life (core_on name s r)) ≡ need_of tables fs hold
  enough = ap (λ (l : List Entry). need_of tables l (held_for Two (durable_part s).doubts)) (sym are) ∙ ap (λ (n : ℕ). need_of tables fs n) (sym bytes)

  same_core : (new : DiskRecorder D) → StaysOn modelled life r new → IsSameCore (shown_on life (core_on name s r)) (shown_on life (core_on name s new))
  same_core new stays = record { name = refl; state = refl; made = stays.made }

  goes_on : (new : DiskRecorder D) → KeepsOld modelled life r tables fs hold new → GoesOn (shown_on life (core_on name s r)) (shown_on life (core_on name s new))
  goes_on new k = record { going = going; still = k.going; layout = k.layout; room = ap (λ (j : Journal). room_of j) k.journal; faults = k.faults }

  pub record IsLeft (told : Checkpointed) (t : CoreState) (new : DiskRecorder D) : Type 0 where
    pub recorded : IsRecorded modelled life name t new
    pub told_is : Checkpoints modelled told (shown_on life (core_on name s r)) (shown_on life (core_on name t new))
    pub journaled_is : Journaled modelled (shown_on life (core_on name s r)) (shown_on life (core_on name t new))

  laid_left : (new : DiskRecorder D) → Switches modelled life r tables fs hold new → IsLeft Done s new
  laid_left new w = record {
    recorded = switched new w;
    told_is = record {
      same = same_core new w.stays;
      becomes = record {
        going = going;
        still = w.going;
        layout = w.layout;
        leaves = λ m. ap (λ (n : ℕ). room_of (journal_of new) + n) enough ∙ (w.switched (disk_there m).holds.store (store_rests m)).leaves;
        faults = w.faults;
      };
    };
    journaled_is = journaled new w.moments w.stays.made (no_faults modelled (has_failed new) (life (disk_of r)).faults (life (disk_of new)).faults w.going w.faults);
  }

  kept_left : (told : Checkpointed) (new : DiskRecorder D) → KeepsOld modelled life r tables fs hold new → Becomes modelled told (shown_on life (core_on name s r)) (shown_on life (core_on name s new)) → IsLeft told s new
  kept_left told new k becomes = record {
    recorded = kept new k;
    told_is = record { same = same_core new k.stays; becomes = becomes };
    journaled_is = journaled new k.moments k.stays.made (no_faults modelled (has_failed new) (life (disk_of r)).faults (life (disk_of new)).faults k.going k.faults);
  }

  lacks : (need room : ℕ) (new : DiskRecorder D) → OfStore modelled life r (λ store. recorder.LacksRoom modelled life r tables fs hold need room new) → IsTrue modelled
      → LacksRoom (shown_on life (core_on name s r)) (shown_on life (core_on name s new)) need room
  lacks need room new of_store m =
      let there_is = of_store (disk_there m).holds.store (store_rests m) in
      record {
        less = subst (λ (n : ℕ). half_len (length (life (disk_of r)).seen) < n) (sym enough) there_is.less;
        needed = there_is.needed ∙ ap counted (sym enough);
        has = there_is.has;
        unwritten = there_is.unwritten;
      }

  failed_left : (new : DiskRecorder D) → LeavesOpen modelled life r tables fs hold new → IsLeft DeviceFailed s new
  failed_left new l =
      let faults : IsTrue modelled → (life (disk_of new)).faults ≡ (life (disk_of r)).faults + 1 = λ m. l.faults (disk_there m).holds.store (store_rests m) in
      record {
        recorded = left_open new l;
        told_is = record {
          same = same_core new l.stays;
          becomes = record {
            going = going;
            failed = l.failed;
            layout = l.layout;
            room = ap (λ (j : Journal). room_of j) l.journal;
            faults = some_fault modelled true (life (disk_of r)).faults (life (disk_of new)).faults refl faults l.at_most;
          };
        };
        journaled_is = journaled new l.moments l.stays.made (some_fault modelled (has_failed new) (life (disk_of r)).faults (life (disk_of new)).faults l.failed faults l.at_most);
      }

  all_left : {X : Type 0} (result : Result X CheckpointError) (new : DiskRecorder D) → recorder.Checkpoints modelled life r tables fs hold result new → IsLeft (told_of result) s new
  all_left (Ok x) new w = laid_left new w
  all_left (Err error.NoMemory) new k = kept_left NoMemory new k (goes_on new k)
  all_left (Err (error.Full need room)) new k = kept_left (Full need room) new k.0 (goes_on new k.0, lacks need room new k.1)
  all_left (Err error.DeviceFailed) new l = failed_left new l

  -- whatever comes of it, over tables that are the same
  pub left_by : {X : Type 0} (result : Result X CheckpointError) (t : CoreState) → t ≡ s → (new : DiskRecorder D) → recorder.Checkpoints modelled life r tables fs hold result new → IsLeft (told_of result) t new
  left_by result t same new is_so = subst (λ (x : CoreState). IsLeft (told_of result) x new) (sym same) (all_left result new is_so)

-- nothing was done
pub untouched_journaled : {D : Type 0} (modelled : Bool) (life : D → Life) (name : List ℕ) (made : OneCallIsMade life) (s t : CoreState) (r : DiskRecorder D) → IsRecorded modelled life name s r → has_failed r ≡ false → t ≡ s
    → Journaled modelled (shown_on life (core_on name s r)) (shown_on life (core_on name t r))
untouched_journaled modelled life name made s t r is going same =
    subst (λ (x : CoreState). Journaled modelled (shown_on life (core_on name s r)) (shown_on life (core_on name x r))) (sym same) (record {
      name = refl;
      more = [];
      done = sym (append-nil (made_of r).done);
      faults = λ still. no_faults modelled (has_failed r) (life (disk_of r)).faults (life (disk_of r)).faults going refl;
      failed = λ failed. absurd (false≢true (sym going ∙ failed));
      records = λ m still. ([], [], made.silent (core_on name s r) (core_on name s r) (durable_from modelled life name made s r is m going) (Stays-refl (life (disk_of r))) refl refl);
    })
