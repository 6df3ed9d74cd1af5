-- From an image that was begun to the store: what is told of the image is true of the store.
use Rattle.std.proofs.Common.{◌≡◌, ℕ, ◌≤◌, Bool, List, Ok, length, sym, ap, subst, ◌∙◌}
use Rattle.std.specs.Prelude.{IsTrue, Result}
use Rattle.drda_disk.specs.Disk.{LeavesOnly, Life, Now, Only, Stays, Torn}
use Rattle.drda_disk.proofs.Moments.{and_stays}
use Rattle.half_store.specs.Active.{active_of}
use Rattle.half_store.specs.Active.{Store as Opened}
use Rattle.half_store.specs.Layout.{half_len, is_store_size, other_than}
use Rattle.half_store.specs.Opened.{store_of as opened_as}
use Rattle.half_store.specs.Writing.{IsKept, IsWriting, half_bytes_of, half_of}
use Rattle.half_store.specs.declared.active.Active.{Active}
use Rattle.half_store.specs.declared.image.ImageWriter.{ImageWriter}
use Rattle.unit_journal.specs.Record.{Entry}
use Rattle.tables.specs.Tables.{Store}
use Rattle.table_map.specs.Stored.{Places}
use Rattle.checkpoint_writer.specs.declared.ending.Switched.{Switched}
use Rattle.checkpoint_writer.specs.declared.errors.ImageError.{ImageError}
use Rattle.store_check.specs.Moment.{GoesOn, IsAnew, IsOld, Moment, Rests}
use Rattle.store_check.specs.Room.{TellsRoom, need_of}
use Rattle.store_check.proofs.Ending.{anew_before, begun_leaves, old_before, some_half}
use Rattle.paged_tables.specs.Stored.{IsOnPages}
use Rattle.paged_tables.specs.TablesByName.{AreLaid, Tables, created_of, store_of}
use Rattle.paged_checkpoints.specs.Apart.{AreReadable, StandApart, other_half}
use Rattle.paged_checkpoints.specs.Laying.{all_shown}
use Rattle.paged_checkpoints.proofs.Beside.{begun_readable}
use Rattle.paged_checkpoints.proofs.Framed.{shown_created}

-- tables that are lent show those that are created
pub lent_shown : (tables lent : Tables) → lent ≡ created_of tables → all_shown lent ≡ store_of tables
lent_shown tables lent is = ap all_shown is ∙ sym (shown_created tables)

-- The pages of the tables that are created are lent, and the image is of the half that is not active.
module _ (modelled : Bool) (first second : Life) (a : Active) (w : ImageWriter) (tables lent : Tables) (size : IsTrue (is_store_size (length first.seen)))
    (torn : Torn (other_half (length first.seen) (opened_as a)) 1 first.seen second.seen) (half : (half_of w ≡ other_than a.half) × (half_bytes_of w ≡ half_len (length first.seen)))
    (is : lent ≡ created_of tables) where
  abbrev store : Opened
  store = opened_as a

  some : 1 ≤ half_len (length first.seen)
  some = some_half (length first.seen) size

  pub readable : StandApart modelled first.seen store tables → AreReadable modelled second.seen w lent
  readable so = begun_readable modelled first.seen second.seen store w tables lent is half.0 half.1 some torn so

  pub room_told : {T : Type 0} (result : Result T ImageError) (es : List Entry) (held : ℕ) → (AreReadable modelled second.seen w lent → TellsRoom result (need_of (all_shown lent) es held) (half_bytes_of w)) → StandApart modelled first.seen store tables
      → TellsRoom result (need_of (store_of tables) es held) (half_len (length first.seen))
  room_told result es held told so =
      subst (λ (s : Store). TellsRoom result (need_of s es held) (half_len (length first.seen))) (lent_shown tables lent is)
      (subst (λ (n : ℕ). TellsRoom result (need_of (all_shown lent) es held) n) half.1 (told (readable so)))

  -- where it was begun in a store that rests
  module _ (begun : IsTrue modelled → Only first → active_of first.seen ≡ Ok store → IsWriting modelled second second.seen store w) (rests : Rests modelled first store) where
    writing : IsWriting modelled second second.seen store w
    writing = begun rests.modelled_disk rests.durable rests.active

    pub still_old : (third fourth : Life) → ((base : List ℕ) → IsWriting modelled second base store w → (c : List ℕ) → Now third c → IsOld base store c) → (IsTrue modelled → Now third third.seen) → Stays third fourth → Only fourth → GoesOn fourth first.seen store
    still_old third fourth refused read stays durable = record {
      durable = durable;
      is = old_before first.seen second.seen store some torn fourth.seen (subst (λ image. IsOld second.seen store image) (sym stays.same) (refused second.seen writing third.seen (read rests.modelled_disk)));
    }

    module _ (so : StandApart modelled first.seen store tables) where
      pub stand_then : (file : List ℕ) (places : List Places) → (AreReadable modelled second.seen w lent → (base : List ℕ) → IsWriting modelled second base store w → AreLaid (IsOnPages file) places lent) → AreLaid (IsOnPages file) places (created_of tables)
      stand_then file places laid = subst (λ (l : Tables). AreLaid (IsOnPages file) places l) is (laid (readable so) second.seen writing)

      module _ (third : Life) (es : List Entry) (held : ℕ) where
        pub anew_then : (s : Switched) → (AreReadable modelled second.seen w lent → (base : List ℕ) → IsWriting modelled second base store w → IsAnew modelled third base store (all_shown lent) es held s) → IsAnew modelled third first.seen store (store_of tables) es held s
        anew_then s done =
            subst (λ (l : Store). IsAnew modelled third first.seen store l es held s) (lent_shown tables lent is)
            (anew_before first.seen second.seen store some torn modelled third (all_shown lent) es held s (done (readable so) second.seen writing))

        module _ (began : IsTrue modelled → Only first → active_of first.seen ≡ Ok store → LeavesOnly first second (IsKept first.seen store (other_half (length first.seen) store) 1))
            (wrote : AreReadable modelled second.seen w lent → (base : List ℕ) → IsWriting modelled second base store w → LeavesOnly second third (Moment base store (all_shown lent) es held)) where
          pub leaves : LeavesOnly first third (Moment first.seen store (store_of tables) es held)
          leaves =
              subst (λ (l : Store). LeavesOnly first third (Moment first.seen store l es held)) (lent_shown tables lent is)
              (begun_leaves first.seen second.seen store some torn first second third (all_shown lent) es held (began rests.modelled_disk rests.durable rests.active) (wrote (readable so) second.seen writing))

          -- and synced
          pub leaves_synced : (fourth : Life) → Stays third fourth → LeavesOnly first fourth (Moment first.seen store (store_of tables) es held)
          leaves_synced fourth stays = and_stays first third fourth _ leaves stays
