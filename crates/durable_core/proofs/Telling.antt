-- What is told of a store that is not opened.
use Rattle.std.proofs.Common.{◌≡◌, inl, inr, ℕ, ◌+◌, ◌<◌, List, [], ◌∷◌, ◌++◌, length, Result, Ok, Err, refl, sym, ◌∙◌, ap, subst, arith}
use Rattle.std.specs.List.{AllByRecursion}
use Rattle.std.proofs.lemmas.List.{map-append}
use Rattle.drda_disk.specs.declared.region.Region.{Region}
use Rattle.store_check.specs.Checkpoint.{HasCheckpoint, forms}
use Rattle.store_check.specs.Half.{BreaksHalf, HalfPages, pages_of}
use Rattle.tables.specs.Tables.{Store as Tables}
use Rattle.half_store.specs.Opened.{store_of}
use Rattle.half_store.specs.declared.active.Active.{Active}
use Rattle.unit_journal.specs.Journal.{held_of, next_of, region_of, room_of}
use Rattle.unit_journal.specs.Opened.{ArePlaced}
use Rattle.unit_journal.specs.Record.{Entry, entries_of, entry_of, laid}
use Rattle.unit_journal.specs.Stands.{IsDamagedAt as HasNoRecord, Stands}
use Rattle.unit_journal.specs.declared.journal.Journal.{Journal}
use Rattle.unit_journal.specs.declared.record.Record.{Record}
use Rattle.unit_journal.proofs.Spelling.{length-laid-cons}
use Rattle.recovery.specs.Durable.{Doubts, Durable, at_checkpoint}
use Rattle.recovery.specs.Journal.{Leads, StopsAt}
use Rattle.recovery.specs.Known.{AreKnown}
use Rattle.recovery.specs.Laws.{held_for}
use Rattle.durable_core.specs.Damage.{HasJournal, HasNoRoom, HoldsForOne, IsDamagedAt, IsMisplaced}
use Rattle.durable_core.specs.Holders.{NoneHolds, TellsLast}
use Rattle.durable_core.specs.Reads.{IsHead, TellsDamage, TellsStore}
use Rattle.durable_core.specs.declared.errors.OpenError.{OpenError}
use Rattle.durable_core.specs.declared.errors.OpenError.TheVariants.{Damaged, DeviceFailed, NoMemory, NotAStore}
use Rattle.durable_core.proofs.Parts.{same_pages}
use Rattle.durable_core.proofs.LeftInDoubt.{none_held}

-- ---- what a part tells is told of the store

pub told : {T : Type 0} (image : List ℕ) (IsThere : ℕ → Type 0) → ((at : ℕ) → IsThere at → IsDamagedAt image at) → (r : Result T OpenError) → TellsDamage r IsThere → TellsStore r image
told image IsThere damages (Ok x) is = tt
told image IsThere damages (Err NotAStore) is = absurd is
told image IsThere damages (Err (Damaged at)) is = damages at is
told image IsThere damages (Err DeviceFailed) is = tt
told image IsThere damages (Err NoMemory) is = tt

pub handed_on : {T F : Type 0} (image : List ℕ) (r : Result T OpenError) (e : OpenError) (last : Result F OpenError) → r ≡ Err e → last ≡ Err e → TellsStore r image → TellsStore last image
handed_on {T} {F} image r e last is last_is tells = subst (λ (x : Result F OpenError). TellsStore x image) (sym last_is) (subst (λ (x : Result T OpenError). TellsStore x image) is tells)

-- ---- the journal

-- a record stands behind those before it
placed : (from : ℕ) (before behind : List Record) (here : Record) → ArePlaced from (before ++ (here ∷ behind)) → here.at ≡ from + length (laid (entries_of before))
placed from [] behind here are = omega (arith, are.0)
placed from (x ∷ before) behind here are =
    let rest : here.at ≡ from + 6 + length x.body.items + length (laid (entries_of before)) = placed (from + 6 + length x.body.items) before behind here are.1 in
    let size : length (laid (entry_of x ∷ entries_of before)) ≡ 6 + length x.body.items + length (laid (entries_of before)) = length-laid-cons (entry_of x) (entries_of before) in
    rest ∙ omega (arith, size)

split : (records before behind : List Record) (here : Record) → records ≡ before ++ (here ∷ behind) → entries_of records ≡ entries_of before ++ (entry_of here ∷ entries_of behind)
split records before behind here whole = ap (λ (l : List Record). entries_of l) whole ∙ map-append entry_of before (here ∷ behind)

none_entries : (doubts : Doubts) (records : List Record) → NoneHolds doubts records → AllByRecursion (λ e. HoldsForOne doubts e → ⊥) (entries_of records)
none_entries doubts [] none = tt
none_entries doubts (x ∷ records) none = (none.0, none_entries doubts records none.1)

module _ (image : List ℕ) (a : Active) (head : IsHead image a) where
  pub bad_page : (at : ℕ) → BreaksHalf forms image (pages_of a) at → IsDamagedAt image at
  bad_page at bad = inr (inl (record { store = store_of a; active = head.active; bad = subst (λ (h : HalfPages). BreaksHalf forms image h at) (same_pages image a head) bad }))

module _ (image : List ℕ) (a : Active) (head : IsHead image a) (tables : Tables) (laid_are : HasCheckpoint image (pages_of a) tables) where
  has_journal : HasJournal image a.layout tables a.region
  has_journal = record { store = store_of a; active = head.active; layout_is = refl; pages = subst (λ (h : HalfPages). HasCheckpoint image h tables) (same_pages image a head) laid_are; journal = head.journal }

  pub no_record : (at : ℕ) → HasNoRecord a.region at image → IsDamagedAt image at
  no_record at there = inr (inr (a.layout, tables, a.region, has_journal, inl there))

  module _ (records : List Record) (stands : Stands a.region (entries_of records) image) (placed_all : ArePlaced a.region.at records) where
    pub misplaced : (at : ℕ) → StopsAt a.layout (at_checkpoint tables) records at → IsDamagedAt image at
    misplaced at s =
        let is : IsMisplaced a.layout tables a.region image at = record {
          before = entries_of s.before;
          here = entry_of s.here;
          behind = entries_of s.behind;
          stands = subst (λ (l : List Entry). Stands a.region l image) (split records s.before s.behind s.here s.whole) stands;
          state = s.state;
          known = s.known;
          leads = s.leads;
          no_place = s.no_place;
          place = s.place ∙ placed a.region.at s.before s.behind s.here (subst (λ (l : List Record). ArePlaced a.region.at l) s.whole placed_all);
        } in
        inr (inr (a.layout, tables, a.region, has_journal, inr (inl is)))

    module _ (d : Durable) (known : AreKnown a.layout (entries_of records)) (leads : Leads (at_checkpoint tables) (entries_of records) d) (short : a.region.length < length (laid (entries_of records)) + 1 + held_for a.layout d.doubts) where
      last_one : (at : ℕ) → TellsLast d.doubts records at → HasNoRoom a.layout tables a.region image at
      last_one at (inl p) =
          let parts = split records p.before p.behind p.here p.whole in
          record {
            before = entries_of p.before;
            here = entry_of p.here;
            behind = entries_of p.behind;
            stands = subst (λ (l : List Entry). Stands a.region l image) parts stands;
            state = d;
            known = subst (λ (l : List Entry). AreKnown a.layout l) parts known;
            leads = subst (λ (l : List Entry). Leads (at_checkpoint tables) l d) parts leads;
            short = subst (λ (l : List Entry). a.region.length < length (laid l) + 1 + held_for a.layout d.doubts) parts short;
            holds = p.holds;
            none_behind = none_entries d.doubts p.behind p.none_behind;
            place = p.place ∙ placed a.region.at p.before p.behind p.here (subst (λ (l : List Record). ArePlaced a.region.at l) p.whole placed_all);
          }
      last_one at (inr none) = absurd (omega (arith, short, stands.within, none_held a.layout tables d (entries_of records) leads (none_entries d.doubts records none)))

      pub no_room : (at : ℕ) → TellsLast d.doubts records at → IsDamagedAt image at
      no_room at is = inr (inr (a.layout, tables, a.region, has_journal, inr (inr (last_one at is))))

-- the room of a journal that holds nothing yet
pub is_short : (region : Region) (j : Journal) (es : List Entry) (held : ℕ) → region_of j ≡ region → held_of j ≡ 0 → next_of j ≡ (region_of j).at + length (laid es) → room_of j < held → region.length < length (laid es) + 1 + held
is_short region j es held place none next less =
    let long : (region_of j).length ≡ region.length = ap (λ (g : Region). g.length) place in
    omega (arith, less, long, none, next)
