-- What was written over the half that is not active, and that it was read before changes nothing.
use Rattle.std.proofs.Common.{◌≡◌, ◌⊎◌, inl, ℕ, ◌+◌, ◌<◌, ◌≤◌, Bool, false, IsTrue, List, length, take, drop, Result, Ok, Err, sym, ◌∙◌, ap, subst, arith}
use Rattle.drda_disk.specs.Disk.{LeavesOnly, Life, Now, Stays}
use Rattle.drda_disk.specs.Region.{end_of}
use Rattle.drda_disk.proofs.Moments.{Only-stays, Stays-trans, stays_and}
use Rattle.half_store.specs.Active.{Store, active_of}
use Rattle.half_store.specs.Layout.{half_len, offset_of, other_than}
use Rattle.half_store.specs.Opened.{store_of}
use Rattle.half_store.specs.declared.active.Active.{Active}
use Rattle.tables.specs.Tables.{Store as Tables}
use Rattle.unit_journal.specs.Journal.{region_of}
use Rattle.unit_journal.specs.Record.{Entry}
use Rattle.unit_journal.specs.declared.journal.Journal.{Journal}
use Rattle.checkpoint_writer.specs.declared.ending.Switched.{Switched}
use Rattle.store_check.specs.Holds.{half_end, journal_at}
use Rattle.store_check.specs.Room.{need_of}
use Rattle.store_check.specs.Moment.{GoesOn, IsAnew, Moment, Rests}
use Rattle.paged_tables.specs.TablesByName.{Tables as Pages}
use Rattle.paged_checkpoints.specs.Apart.{StandApart}
use Rattle.journal_recorder.specs.Checkpointing.{Checkpoints, IsSwitched, KeepsOld, LeavesOldOrNew, OfStore, RestsWith, StaysOn}
use Rattle.journal_recorder.specs.Reading.{HasPages}
use Rattle.journal_recorder.specs.Recording.{disk_of, has_failed, journal_of, layout_of, made_of}
use Rattle.journal_recorder.specs.declared.checkpointing.CheckpointError.{CheckpointError}
use Rattle.journal_recorder.specs.declared.checkpointing.CheckpointError.TheVariants.{DeviceFailed, Full, NoMemory}
use Rattle.journal_recorder.specs.declared.recorder.DiskRecorder.{DiskRecorder}
use Rattle.journal_recorder.proofs.Standing.{away_from_other}

-- the journal of the half that was written lies where its header says
pub to_switched : (modelled : Bool) (disk : Life) (base : List ℕ) (store : Store) (tables : Tables) (es : List Entry) (held : ℕ) (s : Switched) → IsAnew modelled disk base store tables es held s → IsSwitched modelled disk base store tables es held s.journal
to_switched modelled disk base store tables es held s a = record {
  is = a.is;
  settled = a.settled;
  begins = a.begins ∙ a.behind.begins ∙ ap (λ (n : ℕ). journal_at n (store_of s.active)) (sym a.is.size) ∙ ap (λ (x : Store). journal_at (length disk.seen) x) (sym a.same);
  ends = a.ends ∙ a.behind.ends ∙ ap (λ (n : ℕ). half_end n (store_of s.active)) (sym a.is.size) ∙ ap (λ (x : Store). half_end (length disk.seen) x) (sym a.same);
  leaves = a.leaves;
}

module _ {D : Type 0} (modelled : Bool) (life : D → Life) (old : DiskRecorder D) where
  -- the tables stand apart from the half that is not active
  pub stands_apart : (tables : Pages) (store : Store) → HasPages modelled life old tables → has_failed old ≡ false → RestsWith modelled life old store → StandApart modelled (life (disk_of old)).seen store tables
  stands_apart tables store has going with =
      let region = region_of (journal_of old) in
      let m = with.rests.modelled_disk in
      record {
        modelled_disk = m;
        stand = has.stand m going;
        apart = away_from_other store.half (half_len (length (life (disk_of old)).seen)) region.at (end_of region) tables (omega arith) with.journal (has.front m) (has.behind m);
      }

  module _ (active : Active) (is : IsTrue modelled → active_of (life (disk_of old)).seen ≡ Ok (store_of active)) where
    -- the active half that was read is the store's
    one : (store : Store) → Rests modelled (life (disk_of old)) store → store_of active ≡ store
    one store rests = let same : Ok (store_of active) ≡ Ok store = sym (is rests.modelled_disk) ∙ rests.active in cc

    pub of_active : (store : Store) → RestsWith modelled life old store → RestsWith modelled life old (store_of active)
    of_active store with = subst (RestsWith modelled life old) (sym (one store with.rests)) with

    -- what is said of the half that was read is said of the store
    pub of_store : (tables : Pages) → HasPages modelled life old tables → has_failed old ≡ false → (P : Store → Type 0)
        → (Rests modelled (life (disk_of old)) (store_of active) → StandApart modelled (life (disk_of old)).seen (store_of active) tables → P (store_of active)) → OfStore modelled life old P
    of_store tables has going P said store with =
        let there = of_active store with in
        subst P (one store with.rests) (said there.rests (stands_apart tables (store_of active) has going there))

-- ---- a read before

module _ {D : Type 0} (modelled : Bool) (life : D → Life) (old mid : DiskRecorder D) (stays : Stays (life (disk_of old)) (life (disk_of mid))) (faults : (life (disk_of mid)).faults ≡ (life (disk_of old)).faults)
    (journal : journal_of mid ≡ journal_of old) (layout : layout_of mid ≡ layout_of old) (made : made_of mid ≡ made_of old) (tables : Tables) (es : List Entry) (hold : ℕ) (new : DiskRecorder D) where
  seen : (life (disk_of mid)).seen ≡ (life (disk_of old)).seen
  seen = stays.same

  pub rests : (store : Store) → RestsWith modelled life old store → RestsWith modelled life mid store
  rests store r = record {
    rests = record {
      modelled_disk = r.rests.modelled_disk;
      durable = Only-stays (life (disk_of old)) (life (disk_of mid)) stays r.rests.durable;
      active = ap active_of seen ∙ r.rests.active;
    };
    journal = ap (λ (j : Journal). end_of (region_of j)) journal ∙ r.journal ∙ ap (λ (l : List ℕ). half_end (length l) store) (sym seen);
  }

  abbrev from : Store → ℕ
  from store = offset_of (half_len (length (life (disk_of old)).seen)) (other_than store.half)

  here : (store : Store) → RestsWith modelled life old store → (c : List ℕ) → Now (life (disk_of old)) c → Moment (life (disk_of old)).seen store tables es hold c
  here store r c now = inl (record {
    active = ap active_of (r.rests.durable c now) ∙ r.rests.active;
    others = record {
      size = ap (λ (l : List ℕ). length l) (r.rests.durable c now);
      before = ap (λ (l : List ℕ). take (from store) l) (r.rests.durable c now);
      after = ap (λ (l : List ℕ). drop (from store + half_len (length (life (disk_of old)).seen)) l) (r.rests.durable c now);
    };
  })

  leaves : LeavesOldOrNew modelled life mid tables es hold new → LeavesOldOrNew modelled life old tables es hold new
  leaves all store r =
      let there : LeavesOnly (life (disk_of mid)) (life (disk_of new)) (Moment (life (disk_of old)).seen store tables es hold) =
      subst (λ (base : List ℕ). LeavesOnly (life (disk_of mid)) (life (disk_of new)) (Moment base store tables es hold)) seen (all store (rests store r)) in
      stays_and (life (disk_of old)) (life (disk_of mid)) (life (disk_of new)) _ stays there (here store r)

  same_stays : StaysOn modelled life mid new → StaysOn modelled life old new
  same_stays s = record {
    size = s.size ∙ ap (λ (l : List ℕ). length l) seen;
    rest = s.rest;
    made = s.made ∙ made;
  }

  keeps : KeepsOld modelled life mid tables es hold new → KeepsOld modelled life old tables es hold new
  keeps k = record {
    stays = same_stays k.stays;
    moments = leaves k.moments;
    goes_on = λ store r. subst (λ (base : List ℕ). GoesOn (life (disk_of new)) base store) seen (k.goes_on store (rests store r));
    journal = k.journal ∙ journal;
    layout = k.layout ∙ layout;
    faults = k.faults ∙ faults;
    going = k.going;
  }

  pub after_reading : (result : Result (Unit {0}) CheckpointError) → Checkpoints modelled life mid tables es hold result new → Checkpoints modelled life old tables es hold result new
  after_reading (Ok x) w = record {
    stays = same_stays w.stays;
    moments = leaves w.moments;
    switched = λ store r. subst (λ (base : List ℕ). IsSwitched modelled (life (disk_of new)) base store tables es hold (journal_of new)) seen (w.switched store (rests store r));
    held = w.held;
    layout = w.layout;
    inside = w.inside;
    faults = w.faults ∙ faults;
    going = w.going;
  }
  after_reading (Err NoMemory) k = keeps k
  after_reading (Err (Full need room)) k = (
    keeps k.0,
    λ store r. let lacks = k.1 store (rests store r) in
        record {
          less = subst (λ (base : List ℕ). half_len (length base) < need_of tables es hold) seen lacks.less;
          needed = lacks.needed;
          has = subst (λ (base : List ℕ). room ≡ half_len (length base)) seen lacks.has;
          unwritten = Stays-trans (life (disk_of old)) (life (disk_of mid)) (life (disk_of new)) stays lacks.unwritten;
        },
  )
  after_reading (Err DeviceFailed) l = record {
    stays = same_stays l.stays;
    moments = leaves l.moments;
    journal = l.journal ∙ journal;
    layout = l.layout ∙ layout;
    faults = λ store r. l.faults store (rests store r) ∙ ap (λ (n : ℕ). n + 1) faults;
    at_most = subst (λ (n : ℕ). ((life (disk_of new)).faults ≡ n + 1) ⊎ ((life (disk_of new)).faults ≡ n)) faults l.at_most;
    failed = l.failed;
  }
