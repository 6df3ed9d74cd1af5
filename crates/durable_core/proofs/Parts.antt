-- The parts of a store that were read: they stand there, and what opens is not refused.
use Rattle.std.proofs.Common.{◌≡◌, ℕ, ◌+◌, ◌-◌, ◌*◌, ◌≤◌, Bool, true, IsTrue, string_bytes, List, length, Result, Ok, Err, sym, ◌∙◌, ap, subst, arith}
use Rattle.drda_disk.specs.Disk.{Life}
use Rattle.drda_disk.specs.Region.{end_of}
use Rattle.drda_disk.specs.declared.region.Region.{Region}
use Rattle.half_store.specs.Active.{Store, active_of}
use Rattle.half_store.specs.Layout.{half_len, offset_of}
use Rattle.half_store.specs.declared.header.Layout.{Layout}
use Rattle.half_store.specs.Opened.{store_of}
use Rattle.half_store.specs.declared.active.Active.{Active}
use Rattle.store_check.specs.Checkpoint.{HasCheckpoint, OneCheckpoint, half_pages}
use Rattle.store_check.specs.Half.{HalfPages, pages_of}
use Rattle.tables.specs.Tables.{Store as Tables}
use Rattle.tables.specs.View.{is_store}
use Rattle.paged_tables.specs.TablesByName.{PagesStay, Tables as PagesByName}
use Rattle.unit_journal.specs.Journal.{IsSettled, held_of, next_of, region_of, room_of}
use Rattle.unit_journal.specs.declared.journal.Journal.{Journal}
use Rattle.unit_journal.specs.Laws.{OneReading}
use Rattle.unit_journal.specs.Record.{Entry, laid}
use Rattle.unit_journal.specs.Stands.{Stands}
use Rattle.recovery.specs.Durable.{Doubts, Durable, at_checkpoint}
use Rattle.recovery.specs.Journal.{Leads, OneState}
use Rattle.recovery.specs.Known.{AreKnown}
use Rattle.recovery.specs.Laws.{held_for}
use Rattle.recovery.specs.Sound.{IsSound, LeadsAreSound}
use Rattle.recovery.specs.Opens.{Holds, IsJournal, OpensTo}
use Rattle.recovery.specs.ImageLaws.{IsThere, OpensThere, OpensToOne}
use Rattle.recovery.proofs.Reading.{one_store}
use Rattle.unit_journal.specs.Adding.{IsPlace}
use Rattle.durable_core.specs.Reads.{ArePagesInside, IsHead, IsPlain}
use Rattle.durable_core.specs.Found.{IsFound, StandInFront, StandsThere, durable_in, name_in}
use Rattle.durable_core.specs.declared.errors.OpenError.{OpenError}
use Rattle.durable_core.specs.declared.reading.Found.{Found}

pub passed_on : {T F : Type 0} (r : Result T OpenError) (e : OpenError) (last : Result F OpenError) → r ≡ Err e → last ≡ Err e → IsPlain r → IsPlain last
passed_on {T} {F} r e last is last_is plain = subst (λ (x : Result F OpenError). IsPlain x) (sym last_is) (subst (λ (x : Result T OpenError). IsPlain x) is plain)

-- the pages of the half that was read
pub same_pages : (image : List ℕ) (a : Active) → IsHead image a → pages_of a ≡ half_pages (length image) (store_of a)
same_pages image a head =
    let at : a.region.at - 8192 * a.pages ≡ offset_of (half_len (length image)) a.half + 8192 = omega (arith, head.journal.begins) in
    ap (λ (n : ℕ). let h : HalfPages = record { at = n; count = a.pages; first_catalogue = a.first_catalogue; catalogue_pages = a.catalogue_pages } in h) at

module _ (image : List ℕ) (name : List ℕ) (d : Durable) (opens : OpensTo name d image) where
  pub head_plain : {T : Type 0} (r : Result T OpenError) → ((store : Store) → active_of image ≡ Ok store → IsPlain r) → IsPlain r
  head_plain r plain = plain opens.3.store opens.3.active

  module _ (there_is : OpensThere) (a : Active) (head : IsHead image a) where
    there : IsThere name d image (store_of a) a.region
    there = there_is name d image (store_of a) a.region opens head.active head.journal

    laid_there : HasCheckpoint image (pages_of a) there.holds.checkpoint
    laid_there =
        let same : there.holds.store ≡ store_of a = one_store there.holds.store (store_of a) (active_of image) there.holds.active head.active in
        subst (λ (h : HalfPages). HasCheckpoint image h there.holds.checkpoint) (sym (same_pages image a head))
        (subst (λ (x : Store). HasCheckpoint image (half_pages (length image) x) there.holds.checkpoint) same there.holds.pages)

    pub tables_plain : {T : Type 0} (r : Result T OpenError) → ((tables : Tables) → HasCheckpoint image (pages_of a) tables → IsPlain r) → IsPlain r
    tables_plain r plain = plain there.holds.checkpoint laid_there

    pub journal_plain : {T : Type 0} (r : Result T OpenError) → ((es : List Entry) → Stands a.region es image → IsPlain r) → IsPlain r
    journal_plain r plain = plain there.es there.holds.stands

    module _ (checkpoints : OneCheckpoint) (readings : OneReading) (tables : Tables) (laid_are : HasCheckpoint image (pages_of a) tables) (es : List Entry) (stands : Stands a.region es image) where
      same : there.es ≡ es
      same = readings.records a.region image there.es es there.holds.stands stands

      leads : Leads (at_checkpoint tables) es d
      leads = subst (λ (t : Tables). Leads (at_checkpoint t) es d) (checkpoints image (pages_of a) there.holds.checkpoint tables laid_there laid_are)
          (subst (λ (l : List Entry). Leads (at_checkpoint there.holds.checkpoint) l d) same there.holds.leads)

      known : AreKnown a.layout es
      known = subst (λ (l : List Entry). AreKnown a.layout l) same there.holds.known

      pub units_plain : {T : Type 0} (r : Result T OpenError) → ((e : Durable) → AreKnown a.layout es → Leads (at_checkpoint tables) es e → IsPlain r) → IsPlain r
      units_plain r plain = plain d known leads

      pub held_plain : {T : Type 0} (r : Result T OpenError) (states : OneState) (e : Durable) → Leads (at_checkpoint tables) es e → (j : Journal) → region_of j ≡ a.region → held_of j ≡ 0 → next_of j ≡ (region_of j).at + length (laid es)
          → (doubts : Doubts) → doubts ≡ e.doubts → (held_for a.layout doubts ≤ room_of j → IsPlain r) → IsPlain r
      held_plain r states e led j place none next doubts same_doubts plain =
          let one : d ≡ e = states (at_checkpoint tables) d e es leads led in
          let held : held_for a.layout doubts ≡ held_for a.layout d.doubts = ap (λ (l : Doubts). held_for a.layout l) (same_doubts ∙ ap (λ (x : Durable). x.doubts) (sym one)) in
          let laid_is : length (laid there.es) ≡ length (laid es) = ap (λ (l : List Entry). length (laid l)) same in
          let long : (region_of j).length ≡ a.region.length = ap (λ (g : Region). g.length) place in
          let fits : held_for a.layout doubts ≤ room_of j = omega (arith, there.holds.room, held, laid_is, long, none, next) in
          plain fits

-- and it is what opens
pub finds_one : (modelled : Bool) (last : Life) (image : List ℕ) (f : Found) → OpensToOne → last.seen ≡ image → (name : List ℕ) (d : Durable) → OpensTo name d image → StandsThere modelled last f → (name_in f ≡ name) × (durable_in f ≡ d)
finds_one modelled last image f one seen name d opens there =
    one (name_in f) name (durable_in f) d image (f.layout, region_of f.journal, there.entries, subst (λ (i : List ℕ). Holds (name_in f) f.layout (region_of f.journal) there.entries (durable_in f) i) seen there.holds) opens

-- tables that have other rows stand on the same pages
pub in_front : (modelled : Bool) (image : List ℕ) (region : Region) (s t : PagesByName) → PagesStay s t → StandInFront modelled image region s → StandInFront modelled image region t
in_front modelled image region s t stays stand = record {
  inside = λ size behind. stays.inside size (stand.inside size behind);
  apart = stays.apart 0 (end_of region - half_len (length image)) stand.apart;
  stand = λ is. stays.stand image (stand.stand is);
}

-- what was read of a store is what stands there
module _ (modelled : Bool) (last : Life) (image : List ℕ) (a : Active) (tables : Tables) (es : List Entry) (d : Durable) (f : Found) (seen : last.seen ≡ image)
    (known : AreKnown a.layout es) (leads : Leads (at_checkpoint tables) es d) (same : durable_in f ≡ d) (region : region_of f.journal ≡ a.region) (layout : f.layout ≡ a.layout) (held : held_of f.journal ≡ held_for f.layout (durable_in f).doubts)
    (named : string_bytes a.name ≡ name_in f) where
  holds_there : IsHead image a → HasCheckpoint image (pages_of a) tables → IsSettled modelled last f.journal es → Holds (name_in f) f.layout (region_of f.journal) es (durable_in f) image
  holds_there head has settled = record {
    store = store_of a;
    active = head.active;
    named = named;
    layout_is = sym layout;
    journal = subst (λ (g : Region). IsJournal (length image) (store_of a) g) (sym region) head.journal;
    checkpoint = tables;
    pages = subst (λ (h : HalfPages). HasCheckpoint image h tables) (same_pages image a head) has;
    stands = subst (λ (i : List ℕ). Stands (region_of f.journal) es i) seen settled.stands;
    known = subst (λ (l : Layout). AreKnown l es) (sym layout) known;
    leads = subst (λ (x : Durable). Leads (at_checkpoint tables) es x) (sym same) leads;
    room = omega (arith, f.journal.fits, settled.next, held);
  }

  pub found_all : LeadsAreSound → is_store tables ≡ true → IsPlace (length image) a.region → ArePagesInside (length image) a → StandInFront modelled image a.region f.store.tables
      → (IsTrue modelled → IsHead image a) → (IsTrue modelled → HasCheckpoint image (pages_of a) tables) → (IsTrue modelled → IsSettled modelled last f.journal es) → IsFound modelled last f
  found_all sound good inside pages stand head has settled = record {
    sound = subst IsSound (sym same) (sound tables d es good leads);
    held = held;
    inside = subst (λ (i : List ℕ). end_of (region_of f.journal) ≤ length i) (sym seen) (subst (λ (g : Region). end_of g ≤ length image) (sym region) inside.inside);
    stands = λ is. record {
      entries = es;
      settled = settled is;
      holds = subst (λ (i : List ℕ). Holds (name_in f) f.layout (region_of f.journal) es (durable_in f) i) (sym seen) (holds_there (head is) (has is) (settled is));
    };
    front = subst (λ (i : List ℕ). (region_of f.journal).at ≤ length i) (sym seen) (subst (λ (g : Region). g.at ≤ length image) (sym region) pages.inside);
    pages = subst (λ (i : List ℕ). StandInFront modelled i (region_of f.journal) f.store.tables) (sym seen) (subst (λ (g : Region). StandInFront modelled image g f.store.tables) (sym region) stand);
  }

-- a journal that holds more stands as it did
pub settled_on : (modelled : Bool) (last : Life) (es : List Entry) (old new : Journal) → (region_of new ≡ region_of old) × (next_of new ≡ next_of old) → IsSettled modelled last old es → IsSettled modelled last new es
settled_on modelled last es old new same settled = record {
  modelled_disk = settled.modelled_disk;
  durable = settled.durable;
  stands = subst (λ (g : Region). Stands g es last.seen) (sym same.0) settled.stands;
  next = same.1 ∙ settled.next ∙ ap (λ (g : Region). g.at + length (laid es)) (sym same.0);
}
