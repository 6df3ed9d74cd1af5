-- The records read so far.
use Rattle.std.proofs.Common.{◌≡◌, ◌≢◌, ℕ, ◌+◌, ◌<◌, ◌≤◌, List, [], ◌∷◌, ◌++◌, length, get_or, refl, sym, ◌∙◌, ap, subst, arith}
use Rattle.std.specs.Prelude.{Bool, IsTrue, Vec, Option, Some, None, Result, Ok, Err}
use Rattle.std.specs.declared.alloc.Global.{Global}
use Rattle.std.proofs.lemmas.List.{map_push}
use Rattle.drda_words.specs.Place.{part}
use Rattle.drda_disk.specs.Disk.{Life, Only}
use Rattle.drda_disk.specs.Region.{end_of}
use Rattle.drda_disk.specs.declared.region.Region.{Region}
use Rattle.drda_disk.proofs.Parts.{part-add}
use Rattle.unit_journal.specs.Record.{Entry, laid, AreShort, entry_of, entries_of}
use Rattle.unit_journal.specs.Stands.{Stands, IsDamagedAt, IsNoRecord}
use Rattle.unit_journal.specs.Journal.{region_of, next_of}
use Rattle.unit_journal.specs.Open.{IsAt, ReadsNext, IsWhole}
use Rattle.unit_journal.specs.Opened.{ArePlaced, IsOpened, ReadsRegion}
use Rattle.unit_journal.specs.declared.record.Record.{Record}
use Rattle.unit_journal.specs.declared.journal.Journal.{Journal}
use Rattle.unit_journal.specs.declared.errors.OpenError.{OpenError}
use Rattle.unit_journal.specs.declared.errors.OpenError.TheVariants.{Damaged, DeviceFailed, NoMemory}
use Rattle.unit_journal.proofs.Readings.{one_list, not_both}
use Rattle.unit_journal.proofs.Spelling.{laid-push, length-laid-push, length-laid-cons, short-push, stands_from}

pub record ReadSoFar (image : List ℕ) (start at : ℕ) (rs : List Record) : Type 0 where
  pub spelled : part image start (length (laid (entries_of rs))) ≡ laid (entries_of rs)
  pub place : at ≡ start + length (laid (entries_of rs))
  pub short : AreShort (entries_of rs)
  pub placed : ArePlaced start rs

placed_push : (start : ℕ) (rs : List Record) (r : Record) → ArePlaced start rs → r.at ≡ start + length (laid (entries_of rs)) → ArePlaced start (rs ++ r ∷ [])
placed_push start [] r all is = (is ∙ omega arith, tt)
placed_push start (d ∷ rs) r all is = (all.0, placed_push (start + 6 + length d.body.items) rs r all.1 (omega (arith, is, length-laid-cons (entry_of d) (entries_of rs))))

-- one record more
pub read_more : (image : List ℕ) (start at : ℕ) (rs : List Record) (r : Record) → ReadSoFar image start at rs → IsAt image at r → ReadSoFar image start (at + (6 + length r.body.items)) (rs ++ r ∷ [])
read_more image start at rs r so_far here =
    let pushed : entries_of (rs ++ r ∷ []) ≡ entries_of rs ++ entry_of r ∷ [] = map_push entry_of rs r in
    let size : length (laid (entries_of (rs ++ r ∷ []))) ≡ length (laid (entries_of rs)) + (6 + length r.body.items) =
    ap (λ (l : List Entry). length (laid l)) pushed ∙ length-laid-push (entries_of rs) (entry_of r) in
    record {
      spelled = ap (λ n. part image start n) size ∙ part-add image start (length (laid (entries_of rs))) (6 + length r.body.items)
          ∙ ap (λ (l : List ℕ). l ++ part image (start + length (laid (entries_of rs))) (6 + length r.body.items)) so_far.spelled
          ∙ ap (λ (l : List ℕ). laid (entries_of rs) ++ l) (ap (λ n. part image n (6 + length r.body.items)) (sym so_far.place) ∙ here.spelled)
          ∙ sym (ap (λ (l : List Entry). laid l) pushed ∙ laid-push (entries_of rs) (entry_of r));
      place = omega (arith, so_far.place, size);
      short = subst (λ (l : List Entry). AreShort l) (sym pushed) (short-push (entries_of rs) (entry_of r) so_far.short here.short);
      placed = placed_push start rs r so_far.placed (here.place ∙ so_far.place);
    }

module _ (region : Region) (image : List ℕ) (at : ℕ) (rs : List Record) (so_far : ReadSoFar image region.at at rs) (low : at < end_of region) (inside : end_of region ≤ length image) where
  -- a closed gate
  pub read_all : get_or image at 0 ≢ 165 → Stands region (entries_of rs) image
  read_all shut = stands_from region.at (end_of region) (entries_of rs) image so_far.spelled at so_far.place shut low inside so_far.short

  -- an open one with no record
  pub damaged : get_or image at 0 ≡ 165 → IsNoRecord image at (end_of region) → IsDamagedAt region at image
  damaged opened none = record {
    es = entries_of rs;
    spelled = so_far.spelled;
    short = so_far.short;
    place = so_far.place;
    within = low;
    inside = inside;
    is_open = opened;
    no_record = none;
  }

pub opened : (modelled : Bool) (disk : Life) (image : List ℕ) (journal : Journal) (rs : Vec Record Global) → IsTrue modelled → Only disk → disk.seen ≡ image
    → ReadSoFar image (region_of journal).at (next_of journal) rs.items → Stands (region_of journal) (entries_of rs.items) image → IsOpened modelled disk (region_of journal) (entries_of rs.items) (journal, rs)
opened modelled disk image journal rs honest only same so_far stands = record {
  records = refl;
  places = so_far.placed;
  settled = record {
    modelled_disk = honest;
    durable = only;
    stands = subst (λ (l : List ℕ). Stands (region_of journal) (entries_of rs.items) l) (sym same) stands;
    next = so_far.place;
  };
}

-- an image under another name
next_in : (old new : List ℕ) (at limit : ℕ) (result : Result (Option Record) OpenError) → new ≡ old → ReadsNext new at limit result → ReadsNext old at limit result
next_in old new at limit result same next = subst (λ (l : List ℕ). ReadsNext l at limit result) same next

-- a record that was found
pub next_some : (old new : List ℕ) (at limit : ℕ) (found : Option Record) (r : Record) → new ≡ old → found ≡ Some r → ReadsNext new at limit (Ok found) → IsAt old at r
next_some old new at limit found r same is next = subst (λ (f : Option Record). ReadsNext old at limit (Ok f)) is (next_in old new at limit (Ok found) same next)

-- the end of the records
pub next_none : (old new : List ℕ) (at limit : ℕ) (found : Option Record) → new ≡ old → found ≡ None → ReadsNext new at limit (Ok found) → get_or old at 0 ≢ 165
next_none old new at limit found same is next = subst (λ (f : Option Record). ReadsNext old at limit (Ok f)) is (next_in old new at limit (Ok found) same next)

-- what an error of reading says of the region
pub next_error : (region : Region) (modelled : Bool) (old new : List ℕ) (disk : Life) (at : ℕ) (rs : List Record) (e : OpenError) → new ≡ old → ReadSoFar old region.at at rs → at < end_of region → end_of region ≤ length old
    → ReadsNext new at (end_of region) (Err e) → ReadsRegion region modelled old disk (Err e)
next_error region modelled old new disk at rs e same so_far low inside next = go e (next_in old new at (end_of region) (Err e) same next)
  where
    go : (e : OpenError) → ReadsNext old at (end_of region) (Err e) → ReadsRegion region modelled old disk (Err e)
    go (Damaged gate) (place, opened, none) = let P : ℕ → Type 0 = λ n. IsDamagedAt region n old in subst P (sym place) (damaged region old at rs so_far low inside opened none)
    go DeviceFailed none = tt
    go NoMemory none = tt

pub whole_by : (region : Region) (modelled : Bool) (image : List ℕ) (disk : Life) (es : List Entry) (result : Result (Journal × Vec Record Global) OpenError) → Stands region es image → ReadsRegion region modelled image disk result → IsWhole result
whole_by region modelled image disk es (Ok found) s reads = tt
whole_by region modelled image disk es (Err (Damaged gate)) s reads = not_both region image es gate s reads
whole_by region modelled image disk es (Err DeviceFailed) s reads = tt
whole_by region modelled image disk es (Err NoMemory) s reads = tt

pub found_by : (region : Region) (modelled : Bool) (image : List ℕ) (disk : Life) (es : List Entry) (found : Journal × Vec Record Global) → Stands region es image → ReadsRegion region modelled image disk (Ok found) → IsOpened modelled disk region es found
found_by region modelled image disk es found s reads =
    subst (λ (l : List Entry). IsOpened modelled disk region l found) (one_list region image (entries_of found.1.items) es reads.0 s) reads.1
