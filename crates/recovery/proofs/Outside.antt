-- What changes in its journal leaves a store as it is.
use Rattle.std.proofs.Common.{◌≡◌, ◌⊎◌, inl, inr, ℕ, ◌+◌, ◌*◌, ◌≤◌, List, length, ◌∙◌, sym, ap, subst, arith}
use Rattle.drda_words.specs.Place.{part}
use Rattle.drda_disk.specs.Disk.{Torn}
use Rattle.drda_disk.specs.Region.{SameOutside}
use Rattle.drda_disk.specs.declared.region.Region.{Region}
use Rattle.drda_disk.proofs.Parts.{part_before, part_outside}
use Rattle.half_store.specs.Active.{Store, active_of}
use Rattle.half_store.specs.Header.{half_in}
use Rattle.half_store.specs.Layout.{half_len, offset_of}
use Rattle.half_store.specs.declared.layout.Half.{Half}
use Rattle.half_store.specs.declared.layout.Half.TheVariants.{First, Second}
use Rattle.store_check.specs.Checkpoint.{CheckpointsAreFramed, HasCheckpoint, half_pages}
use Rattle.tables.specs.Tables.{Store as Tables}
use Rattle.half_store.proofs.Kept.{by_parts, by_parts_is, from_base, state_at}
use Rattle.recovery.specs.Opens.{IsJournal}

module _ (old new : List ℕ) (at n : ℕ) (torn : Torn at n old new) (low : 16384 ≤ at) where
  -- the head and both header pages lie outside of the range
  apart_active : (8192 + half_len (length old) + 8192 ≤ at) ⊎ (at + n ≤ 8192 + half_len (length old)) → active_of new ≡ active_of old
  apart_active away =
      let h : ℕ = half_len (length old) in
      from_base old new torn.size (part_before old new at 0 39 torn.before (omega (arith, low)))
      ∙ ap (λ (l : List ℕ). by_parts (length old) (part old 0 39) (half_in h l) (state_at h new (8192 + h))) (part_before old new at 8192 8192 torn.before (omega (arith, low)))
      ∙ ap (λ (l : List ℕ). by_parts (length old) (part old 0 39) (state_at h old 8192) (half_in h l)) (part_outside at n (8192 + h) 8192 old new torn away)
      ∙ sym (by_parts_is old)

begins_behind : (h : ℕ) (half : Half) (pages at : ℕ) → at ≡ offset_of h half + 8192 * (1 + pages) → 16384 ≤ at
begins_behind h First pages at begins = omega (arith, begins)
begins_behind h Second pages at begins = omega (arith, begins)

second_apart : (h : ℕ) (half : Half) (pages at n : ℕ) → at ≡ offset_of h half + 8192 * (1 + pages) → at + n ≡ offset_of h half + h → (8192 + h + 8192 ≤ at) ⊎ (at + n ≤ 8192 + h)
second_apart h First pages at n begins ends = inr (omega (arith, ends))
second_apart h Second pages at n begins ends = inl (omega (arith, begins))

-- the store is the same
pub active_outside : (old new : List ℕ) (store : Store) (region : Region) → IsJournal (length old) store region → SameOutside region old new → active_of new ≡ active_of old
active_outside old new store region journal same =
    let h : ℕ = half_len (length old) in
    apart_active old new region.at region.length same (begins_behind h store.half store.header.pages region.at journal.begins) (second_apart h store.half store.header.pages region.at region.length journal.begins journal.ends)

-- and so is its checkpoint, whose pages lie in front of the journal
pub checkpoint_outside : CheckpointsAreFramed → (old new : List ℕ) (store : Store) (region : Region) (tables : Tables) → IsJournal (length old) store region → SameOutside region old new
    → HasCheckpoint old (half_pages (length old) store) tables → HasCheckpoint new (half_pages (length new) store) tables
checkpoint_outside framed old new store region tables journal same laid =
    let at : ℕ = offset_of (half_len (length old)) store.half + 8192 in
    let count : ℕ = 8192 * store.header.pages in
    let before : at + count ≤ region.at = omega (arith, journal.begins) in
    subst (λ (n : ℕ). HasCheckpoint new (half_pages n store) tables) (sym same.size)
    (framed old new (half_pages (length old) store) tables (part_before old new region.at at count same.before before) laid)
