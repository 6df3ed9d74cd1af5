-- What an image holds while a checkpoint is written.
use Rattle.std.proofs.Common.{◌≡◌, ◌⊎◌, inl, inr, ⊎_elim, ℕ, ◌+◌, ◌*◌, ◌<◌, ◌≤◌, List, length, sym, ◌∙◌, subst, arith}
use Rattle.drda_words.specs.Place.{part}
use Rattle.drda_disk.proofs.Parts.{part_outside}
use Rattle.half_store.specs.Active.{Store}
use Rattle.half_store.specs.Layout.{half_len, offset_of, other_than}
use Rattle.half_store.specs.declared.layout.Half.{Half}
use Rattle.half_store.specs.declared.layout.Half.TheVariants.{First, Second}
use Rattle.unit_journal.specs.Record.{Entry, laid}
use Rattle.unit_journal.specs.Stands.{StandsFrom}
use Rattle.tables.specs.Tables.{Store as Tables}
use Rattle.store_check.specs.Checkpoint.{CheckpointsAreFramed, HasCheckpoint, half_pages}
use Rattle.store_check.specs.Holds.{Holds, half_end, journal_at}
use Rattle.store_check.specs.Moment.{IsOld, MomentsHold}

-- what lies in a half lies outside of the other one
apart : (h : ℕ) (half : Half) (i m : ℕ) → offset_of h half ≤ i → i + m ≤ offset_of h half + h → (i + m ≤ offset_of h (other_than half)) ⊎ (offset_of h (other_than half) + h ≤ i)
apart h First i m low high = inl (omega (arith, high))
apart h Second i m low high = inr (omega (arith, low))

-- records stay where their bytes do
stand_still : (at limit : ℕ) (es : List Entry) (base image : List ℕ) → length image ≡ length base → part image at (length (laid es) + 1) ≡ part base at (length (laid es) + 1) → StandsFrom at limit es base → StandsFrom at limit es image
stand_still at limit es base image size same s = record { gate = s.gate; shut = s.shut; spelled = same ∙ s.spelled; within = s.within; inside = omega (arith, s.inside, size); short = s.short }

-- the half that is active, where the other one alone has changed
old_holds : CheckpointsAreFramed → (base : List ℕ) (store : Store) (tables : Tables) (es : List Entry) (held : ℕ) (image : List ℕ) → Holds store tables es held base → IsOld base store image → Holds store tables es held image
old_holds framed base store tables es held image was kept =
    let h : ℕ = half_len (length base) in
    let size : length image ≡ length base = kept.others.size in
    let outside : (i m : ℕ) → offset_of h store.half ≤ i → i + m ≤ offset_of h store.half + h → part image i m ≡ part base i m = λ i m low high.
    part_outside (offset_of h (other_than store.half)) h i m base image kept.others (apart h store.half i m low high) in
    let room : 8192 * (1 + store.header.pages) < h = omega (arith, was.stands.within) in
    let pages : HasCheckpoint image (half_pages (length base) store) tables =
    framed base image (half_pages (length base) store) tables (outside (offset_of h store.half + 8192) (8192 * store.header.pages) (omega arith) (omega (arith, room))) was.pages in
    let stands : StandsFrom (journal_at (length base) store) (half_end (length base) store) es image =
    stand_still (journal_at (length base) store) (half_end (length base) store) es base image size (outside (journal_at (length base) store) (length (laid es) + 1) (omega arith) (omega (arith, was.stands.within))) was.stands in
    record {
      active = kept.active;
      pages = subst (λ n. HasCheckpoint image (half_pages n store) tables) (sym size) pages;
      stands = subst (λ n. StandsFrom (journal_at n store) (half_end n store) es image) (sym size) stands;
      room = subst (λ n. journal_at n store + (length (laid es) + held + 1) ≤ half_end n store) (sym size) was.room;
    }

pub moments : CheckpointsAreFramed → MomentsHold
moments framed base store tables new es fs held more image was moment = ⊎_elim
    (λ kept. inl (old_holds framed base store tables es held image was kept))
    (λ is. inr is)
    moment
