-- Pages that are kept, and what a disk reads.
use Rattle.std.proofs.Common.{◌≡◌, ◌⊎◌, ℕ, ◌+◌, ◌≤◌, true, cond, List, ◌∷◌, ◌++◌, length, drop, ◌∙◌, Option, Some, None, Result, Ok, Err, IfOk, take, Contains, refl, sym, ap, subst, inl, inr, arith}
use Rattle.std.specs.Prelude.{nat_eq, is_some, IsSome}
use Rattle.std.specs.Option.{option_map_or}
use Rattle.std.specs.Cmp.{nat_eq_equiv}
use Rattle.std.specs.Map.{lookup, lookup_entry, remove_entry}
use Rattle.std.proofs.lemmas.Bool.{eqb-true}
use Rattle.std.proofs.Math.Seq.{take-append_seam}
use Rattle.drda_words.specs.Place.{part}
use Rattle.drda_disk.specs.Disk.{Torn}
use Rattle.drda_disk.proofs.Parts.{part_outside}
use Rattle.lru.specs.LruCache.{LruCache, promoted, put_entries}
use Rattle.lru.proofs.CallerLemmas.{Contains-promoted, Contains-put_entries, Contains-take, Contains-lookup, Contains-lookup_entry, lookup-put_entries}
use Rattle.row_pages.specs.Page.{IsPage, Page}
use Rattle.row_pages.specs.Keeping.{AreRead, BeginWithin, CountsPageFault, Kept, TellsDamage}
use Rattle.row_pages.specs.Parsing.{ParsesKept}
use Rattle.row_pages.specs.declared.kept.PageFault.{PageFault}
use Rattle.row_pages.specs.declared.kept.PageFault.TheVariants.{NoMemory, DeviceFailed, Damaged}

pub promoted_read : (at : ℕ) (kept : Kept) (file : List ℕ) → AreRead kept file → AreRead (promoted (nat_eq at) kept) file
promoted_read at kept file read = record { each = λ e found. read.each e (Contains-promoted (nat_eq at) kept e found) }

pub put_read : (cache : LruCache ℕ Page) (at : ℕ) (page : Page) (file : List ℕ) → AreRead cache.entries file → IsPage page (part file at 8192) → AreRead (put_entries nat_eq cache at page) file
put_read cache at page file read is = record { each = λ e found. by_cases e (Contains-put_entries nat_eq cache at page e found) }
  where
    seen : (e : ℕ × Page) → e.1 ≡ page → e.0 ≡ at → IsPage e.1 (part file e.0 8192)
    seen e same place = subst (λ (p : Page). IsPage p (part file e.0 8192)) (sym same) (subst (λ (n : ℕ). IsPage page (part file n 8192)) (sym place) is)

    by_cases : (e : ℕ × Page) → Contains cache.entries e ⊎ ((e.1 ≡ page) × ((e.0 ≡ at) ⊎ ((w : Page) × Contains cache.entries (e.0, w) × (nat_eq at e.0 ≡ true)))) → IsPage e.1 (part file e.0 8192)
    by_cases e (inl was) = read.each e was
    by_cases e (inr (same, inl place)) = seen e same place
    by_cases e (inr (same, inr (w, there, equal))) = seen e same (sym (eqb-true at e.0 equal))

pub kept_read : (kept : Kept) (at : ℕ) (page : Page) (file : List ℕ) → AreRead kept file → lookup (nat_eq at) kept ≡ Some page → IsPage page (part file at 8192)
kept_read kept at page file read found =
    let there = Contains-lookup (nat_eq at) kept page found in
    subst (λ (n : ℕ). IsPage page (part file n 8192)) (sym (eqb-true at there.0 there.2)) (read.each (there.0, page) there.1)

-- the first of the pages that are kept
pub fewer_read : (n : ℕ) (kept : Kept) (file : List ℕ) → AreRead kept file → AreRead (take n kept) file
fewer_read n kept file read = record { each = λ e found. read.each e (Contains-take n kept e found) }

is_there : {X : Type 0} (o : Option X) (x : X) → o ≡ Some x → IsSome o
is_there o x e = ap is_some e

pub promoted_there : (at : ℕ) (kept : Kept) → is_some (lookup (nat_eq at) kept) ≡ true → IsSome (lookup (nat_eq at) (promoted (nat_eq at) kept))
promoted_there at kept there = by_entry (lookup_entry (nat_eq at) kept) refl
  where
    by_entry : (o : Option (ℕ × Page)) → lookup_entry (nat_eq at) kept ≡ o → IsSome (lookup (nat_eq at) (option_map_or (λ e. e ∷ remove_entry (nat_eq at) kept) o kept))
    by_entry None e = there
    by_entry (Some f) e = ap is_some (ap (λ b. cond b (Some f.1) (lookup (nat_eq at) (remove_entry (nat_eq at) kept))) (Contains-lookup_entry (nat_eq at) kept f e).1)

pub put_there : (cache : LruCache ℕ Page) (at : ℕ) (page : Page) → IsSome (lookup (nat_eq at) (put_entries nat_eq cache at page))
put_there cache at page = is_there (lookup (nat_eq at) (put_entries nat_eq cache at page)) page (lookup-put_entries nat_eq cache at page nat_eq_equiv)

-- ---- where pages begin

pub begin_wider : (first last earlier later : ℕ) (kept : Kept) → BeginWithin first last kept → earlier ≤ first → last ≤ later → BeginWithin earlier later kept
begin_wider first last earlier later kept begin low high = record { each = λ e there. let up = begin.each e there in (omega (arith, up.0, low), omega (arith, up.1, high)) }

pub promoted_begin : (at first last : ℕ) (kept : Kept) → BeginWithin first last kept → BeginWithin first last (promoted (nat_eq at) kept)
promoted_begin at first last kept begin = record { each = λ e found. begin.each e (Contains-promoted (nat_eq at) kept e found) }

pub fewer_begin : (n first last : ℕ) (kept : Kept) → BeginWithin first last kept → BeginWithin first last (take n kept)
fewer_begin n first last kept begin = record { each = λ e found. begin.each e (Contains-take n kept e found) }

pub put_begins : (cache : LruCache ℕ Page) (at : ℕ) (page : Page) (first last earlier later : ℕ) → BeginWithin first last cache.entries → earlier ≤ first → earlier ≤ at → last ≤ later → at ≤ later
    → BeginWithin earlier later (put_entries nat_eq cache at page)
put_begins cache at page first last earlier later begin low here_low high here_high = record { each = λ e found. by_cases e (Contains-put_entries nat_eq cache at page e found) }
  where
    by_cases : (e : ℕ × Page) → Contains cache.entries e ⊎ ((e.1 ≡ page) × ((e.0 ≡ at) ⊎ ((w : Page) × Contains cache.entries (e.0, w) × (nat_eq at e.0 ≡ true)))) → (earlier ≤ e.0) × (e.0 ≤ later)
    by_cases e (inl was) = let up = begin.each e was in (omega (arith, up.0, low), omega (arith, up.1, high))
    by_cases e (inr (same, inl place)) = (omega (arith, place, here_low), omega (arith, place, here_high))
    by_cases e (inr (same, inr (w, there, equal))) = let up = begin.each (e.0, w) there in (omega (arith, up.0, low), omega (arith, up.1, high))

-- pages apart from a range stay what is read while that range alone is torn
pub apart_read : (first last at n : ℕ) (kept : Kept) (old new : List ℕ) → BeginWithin first last kept → (at + n ≤ first) ⊎ (last + 8192 ≤ at) → Torn at n old new → AreRead kept old → AreRead kept new
apart_read first last at n kept old new begin apart torn read = record {
  each = λ e there. let up = begin.each e there in
      subst (IsPage e.1) (sym (part_outside at n e.0 8192 old new torn (away e up apart))) (read.each e there);
}
  where
    away : (e : ℕ × Page) → (first ≤ e.0) × (e.0 ≤ last) → (at + n ≤ first) ⊎ (last + 8192 ≤ at) → (e.0 + 8192 ≤ at) ⊎ (at + n ≤ e.0)
    away e up (inl low) = inr (omega (arith, low, up.0))
    away e up (inr high) = inl (omega (arith, high, up.1))

-- ---- a page that is read into memory

-- all bytes of a list are written over by what is read
pub read_over : (n at : ℕ) (items old new file : List ℕ) → n ≡ length items → length items ≡ 8192 → old ≡ items → length new ≡ length old → new ≡ part file at (length old) → take n (new ++ drop (length new) items) ≡ part file at 8192
read_over n at items old new file len size was same read =
    let all : n ≡ length new = omega (arith, len, same, ap length was) in
    ap (λ k. take k (new ++ drop (length new) items)) all
    ∙ take-append_seam new (drop (length new) items)
    ∙ read
    ∙ ap (part file at) (ap length was ∙ size)

-- the bytes that were read are those of the disk where it is modelled
pub parsed_is : (H : Type 0) (bytes there : List ℕ) (result : Result Page PageFault) → (H → bytes ≡ there) → ParsesKept bytes result → IfOk result (λ page. H → IsPage page there)
parsed_is H bytes there (Ok page) read parses = λ h. subst (IsPage page) (read h) parses
parsed_is H bytes there (Err fault) read parses = tt

pub parsed_tells : (H : Type 0) (bytes there : List ℕ) (result : Result Page PageFault) → (H → bytes ≡ there) → ParsesKept bytes result → H → TellsDamage there result
parsed_tells H bytes there (Ok page) read parses h = tt
parsed_tells H bytes there (Err NoMemory) read parses h = tt
parsed_tells H bytes there (Err DeviceFailed) read parses h = tt
parsed_tells H bytes there (Err Damaged) read parses h = subst (λ (b : List ℕ). (page : Page) → IsPage page b → ⊥) (read h) parses

-- ---- why there is no page

pub told_on : (T U : Type 0) (bytes : List ℕ) (fault : PageFault) → TellsDamage {T = T} bytes (Err fault) → TellsDamage {T = U} bytes (Err fault)
told_on T U bytes NoMemory told = tt
told_on T U bytes DeviceFailed told = tt
told_on T U bytes Damaged told = told

pub counted_on : (T U : Type 0) (fault : PageFault) (old new : ℕ) → CountsPageFault {T = T} (Err fault) old new → CountsPageFault {T = U} (Err fault) old new
counted_on T U NoMemory old new counts = counts
counted_on T U DeviceFailed old new counts = counts
counted_on T U Damaged old new counts = counts
