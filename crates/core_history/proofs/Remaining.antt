-- A kept book lasts.
use Rattle.std.proofs.Common.{◌≡◌, ◌⊎◌, refl, subst, inl, inr, ℕ, Bool, true, false, List}
use Rattle.drda_disk.specs.Disk.{Life, Now}
use Rattle.unit_records.specs.Records.{UnitRecord}
use Rattle.recovery.specs.Journaled.{AnsweredStays, Made, shown_on}
use Rattle.core_history.specs.Books.{Told}
use Rattle.core_history.specs.Lasting.{KeptBooksLast, OpensToBook}

which : (b : Bool) → (b ≡ true) ⊎ (b ≡ false)
which true = inl refl
which false = inr refl

module _ {D : Type 0} (life : D → Life) (stays : AnsweredStays life) where
  opens : (book : Told D) (groups begun : List (List UnitRecord)) → Made groups begun (shown_on life book.opening) (shown_on life book.core) → (image : List ℕ) → Now (life book.core.disk) image → OpensToBook life book begun image
  opens book groups begun made image now = elim (which book.core.is_failed) [
    | inl failed ↦ elim (stays.failed groups begun book.opening book.core image made now) [
      | inl done ↦ inl done
      | inr more ↦ inr (failed, more.0, more.1, more.2)
    ]
    | inr going ↦ inl (stays.going groups book.opening book.core image (subst (λ (b : List (List UnitRecord)). Made groups b (shown_on life book.opening) (shown_on life book.core)) (made.settled going) made) now)
  ]

  pub kept_books_last : (modelled : Bool) → KeptBooksLast modelled life
  kept_books_last modelled book is kept going =
      let records = kept.journaled.records is going in
      record { lead = kept.leads is; groups = records.0; begun = records.1; made = records.2; left = opens book records.0 records.1 records.2 }
