-- A store of a path that was moved into a new file, or was not.
use Rattle.std.proofs.Common.{◌≡◌, ◌∙◌, ap, inl, inr, refl, sym, subst, ℕ, Bool, IsTrue, List, Some, None, length, replicate}
use Rattle.std.proofs.lemmas.List.{length-replicate}
use Rattle.drda_disk.specs.Disk.{LeavesOnly, Life, Only, Stays}
use Rattle.drda_disk.proofs.Moments.{Stays-trans, weaker}
use Rattle.half_store.specs.Fresh.{IsUnmarked}
use Rattle.recovery.specs.Journaled.{OnDisk}
use Rattle.store_files.specs.Files.{FileCalls}
use Rattle.store_files.specs.Opening.{IsOver}
use Rattle.store_files.specs.declared.fault.Fault.{Fault}
use Rattle.store_files.specs.declared.fault.Fault.TheVariants.{NoRoom}
use Rattle.store_files.proofs.Zeros.{unmarked}
use Rattle.grown_stores.specs.Growing.{GrownStoresOpen, IsGrown, IsGrownFile, IsNoneOrAlike, IsNoneOrGrown, IsNotGrown, OpensAlike}

module _ {F D : Type 0} (modelled : Bool) (life : D → Life) (calls : FileCalls F D) (files : F) (path new : List ℕ) (size : ℕ) (core : OnDisk D) (mid : F) (there : (disk : D) × calls.opens files path (Some disk) mid × IsOver modelled life disk core) where
  pub no_room : IsNotGrown modelled life calls files path new size NoRoom mid
  no_room = inr (there.0, mid, there.1, inl (refl, refl))

  pub not_made : (fault : Fault) (files' : F) → calls.creates mid new size None files' → IsNotGrown modelled life calls files path new size fault files'
  not_made fault files' none = inr (there.0, mid, there.1, inr (inl none))

  module _ (opens : GrownStoresOpen) (from : D) (is_from : from ≡ core.disk) (made left old : D) (zeros : IsTrue modelled → (life made).seen ≡ replicate size 0) (durable : IsTrue modelled → Only (life made))
      (moments : IsTrue modelled → IsTrue modelled → IsUnmarked (life made) → LeavesOnly (life made) (life left) (IsNoneOrGrown (life from).seen)) (stays : Stays (life from) (life old)) where
    alike : (image : List ℕ) → IsGrown (life from).seen image → OpensAlike (life there.0).seen image
    alike image is = subst (λ (l : List ℕ). OpensAlike l image) (ap (λ (x : D). (life x).seen) is_from ∙ there.2.stays.same) (opens (life from).seen image is)

    either : (image : List ℕ) → IsNoneOrGrown (life from).seen image → IsNoneOrAlike (life there.0).seen image
    either image (inl none) = inl none
    either image (inr is) = inr (alike image is)

    unwritten : Stays (life there.0) (life old)
    unwritten = Stays-trans (life there.0) (life from) (life old) (subst (λ (x : D). Stays (life there.0) (life x)) (sym is_from) there.2.stays) stays

    on_the_way : IsTrue modelled → LeavesOnly (life made) (life left) (IsNoneOrAlike (life there.0).seen)
    on_the_way m = weaker (life made) (life left) (IsNoneOrGrown (life from).seen) _ (moments m m (unmarked (life made) size (zeros m) (durable m))) either

    pub taken_away : (fault : Fault) (later files' : F) → calls.creates mid new size (Some made) later → calls.discards later new files' → IsNotGrown modelled life calls files path new size fault files'
    taken_away fault later files' created removed =
        inr (there.0, mid, there.1, inr (inr (record { old = old; unwritten = unwritten; made = made; mid = later; created = created; left = left; moments = on_the_way; removed = removed })))

    pub is_grown_file : (files' : F) → calls.creates mid new size (Some made) files' → (IsTrue modelled → IsTrue modelled → Only (life left) × IsGrown (life from).seen (life left).seen)
        → length (life left).seen ≡ length (life made).seen → IsGrownFile modelled life calls files path new size files'
    is_grown_file files' created grown same_size = record {
      disk = there.0;
      mid = mid;
      opened = there.1;
      old = old;
      unwritten = unwritten;
      made = made;
      created = created;
      left = left;
      only = λ m. (grown m m).0;
      sized = λ m. same_size ∙ ap length (zeros m) ∙ length-replicate size 0;
      alike = λ m. alike (life left).seen (grown m m).1;
      moments = on_the_way;
    }
