-- What a checkpoint needs is counted before it is written: the disk was only read.
use Rattle.std.proofs.Common.{◌≡◌, inl, ℕ, ◌≤◌, Bool, List, length, Result, Ok, Err, sym, ap, subst, ◌∙◌, arith}
use Rattle.drda_disk.specs.Disk.{LeavesOnly, Life, Now, Stays}
use Rattle.drda_disk.specs.Images.{Torn-refl}
use Rattle.drda_disk.proofs.Moments.{Only-stays, stays_and, stays_leaves}
use Rattle.half_store.specs.Active.{active_of}
use Rattle.half_store.specs.Active.{Store as Opened}
use Rattle.half_store.specs.Layout.{half_len, offset_of, other_than}
use Rattle.unit_journal.specs.Record.{Entry}
use Rattle.tables.specs.Tables.{Store}
use Rattle.checkpoint_writer.specs.Errors.{DamagedWhere}
use Rattle.checkpoint_writer.specs.declared.errors.ImageError.{ImageError}
use Rattle.checkpoint_writer.specs.declared.errors.ImageError.TheVariants.{NoMemory, DeviceFailed, Damaged, Full}
use Rattle.store_check.specs.Moment.{GoesOn, IsOld, Moment, Rests}
use Rattle.store_check.specs.Room.{OnFull, SaysRoom, TellsRoom}
use Rattle.paged_tables.specs.TablesByName.{Tables}
use Rattle.paged_checkpoints.specs.Apart.{StandApart}
use Rattle.paged_checkpoints.specs.Written.{TellsExactly, TellsWriting}

module _ (modelled : Bool) (old mid : Life) (stays : Stays old mid) (store : Opened) where
  pub rests_still : Rests modelled old store → Rests modelled mid store
  rests_still rests = record {
    modelled_disk = rests.modelled_disk;
    durable = Only-stays old mid stays rests.durable;
    active = ap active_of stays.same ∙ rests.active;
  }

  pub apart_still : (tables : Tables) → StandApart modelled old.seen store tables → StandApart modelled mid.seen store tables
  apart_still tables so = subst (λ (image : List ℕ). StandApart modelled image store tables) (sym stays.same) so

  module _ (rests : Rests modelled old store) where
    as_it_was : IsOld old.seen store old.seen
    as_it_was = record { active = rests.active; others = Torn-refl (offset_of (half_len (length old.seen)) (other_than store.half)) (half_len (length old.seen)) old.seen }

    is_still : (c : List ℕ) → Now old c → IsOld old.seen store c
    is_still c now = subst (λ (image : List ℕ). IsOld old.seen store image) (sym (rests.durable c now)) as_it_was

    module _ (tables : Store) (es : List Entry) (held : ℕ) where
      pub leaves_then : (new : Life) → LeavesOnly mid new (Moment mid.seen store tables es held) → LeavesOnly old new (Moment old.seen store tables es held)
      leaves_then new leaves =
          stays_and old mid new (Moment old.seen store tables es held) stays
          (subst (λ (base : List ℕ). LeavesOnly mid new (Moment base store tables es held)) stays.same leaves) (λ c now. inl (is_still c now))

-- ---- what is told of room

-- what fits is never told to have no room
says_room : {T : Type 0} (result : Result T ImageError) (need room : ℕ) → need ≤ room → TellsRoom result need room → SaysRoom result need room
says_room (Ok x) need room fits told = told
says_room (Err NoMemory) need room fits told = tt
says_room (Err DeviceFailed) need room fits told = tt
says_room (Err Damaged) need room fits told = tt
says_room (Err (Full full)) need room fits told = absurd (omega (arith, fits, told.0, told.1))

never_full : {T : Type 0} (P : Type 0) (result : Result T ImageError) (need room : ℕ) → need ≤ room → TellsRoom result need room → OnFull result P
never_full P (Ok x) need room fits told = tt
never_full P (Err NoMemory) need room fits told = tt
never_full P (Err DeviceFailed) need room fits told = tt
never_full P (Err Damaged) need room fits told = tt
never_full P (Err (Full full)) need room fits told = absurd (omega (arith, fits, told.0, told.1))

-- what is told of room before anything is written
pub told_before : {S : Type 0} (e : ImageError) (result : Result S ImageError) (need room : ℕ) (P : Type 0) → result ≡ Err e → P → SaysRoom {T = Unit {0}} (Err e) need room → DamagedWhere {T = Unit {0}} ⊥ (Err e) → TellsExactly result need room P
told_before {S = S} e result need room P is rests says whole = subst (λ (r : Result S ImageError). TellsExactly r need room P) (sym is) (by_error e says whole)
  where
    by_error : (f : ImageError) → SaysRoom {T = Unit {0}} (Err f) need room → DamagedWhere {T = Unit {0}} ⊥ (Err f) → TellsExactly {T = S} (Err f) need room P
    by_error NoMemory so never = record { full = tt; unwritten = tt; damaged = tt }
    by_error DeviceFailed so never = record { full = tt; unwritten = tt; damaged = tt }
    by_error Damaged so never = record { full = tt; unwritten = tt; damaged = never }
    by_error (Full full) so never = record { full = so; unwritten = rests; damaged = tt }

-- and where there is
pub told_then : {T : Type 0} (result : Result T ImageError) (need room : ℕ) (P : Type 0) → need ≤ room → TellsWriting result need room → TellsExactly result need room P
told_then result need room P fits told = record { full = says_room result need room fits told.full; unwritten = never_full P result need room fits told.full; damaged = told.damaged }
