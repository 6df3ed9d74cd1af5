-- An image opens to one state at most; a fresh store opens to none of tables.
use Rattle.std.proofs.Common.{◌≡◌, ℕ, ◌+◌, ◌-◌, ◌*◌, ◌<◌, ◌≤◌, Bool, true, false, cond, List, [], length, get_or, Result, Ok, Err, refl, sym, ◌∙◌, ap, subst, arith}
use Rattle.std.proofs.lemmas.Bool.Decides.{nat_tests}
use Rattle.drda_disk.specs.Region.{end_of}
use Rattle.drda_disk.specs.declared.region.Region.{Region}
use Rattle.half_store.specs.Active.{Store, Refusal, not_a_store, judged, active_of}
use Rattle.half_store.specs.Fresh.{first_header}
use Rattle.half_store.specs.Layout.{half_len, is_store_size, offset_of}
use Rattle.half_store.specs.declared.layout.Half.TheVariants.{First}
use Rattle.unit_journal.specs.Laws.{OneReading}
use Rattle.unit_journal.specs.Record.{Entry, laid}
use Rattle.half_store.specs.declared.header.Layout.{Layout}
use Rattle.unit_journal.specs.Stands.{Stands, StandsFrom}
use Rattle.unit_journal.proofs.Spelling.{byte_part}
use Rattle.tables.specs.Tables.{Store as Tables}
use Rattle.store_check.specs.Checkpoint.{HasCheckpoint, NoPagesHaveNoTables, OneCheckpoint, half_pages}
use Rattle.recovery.specs.Durable.{at_checkpoint}
use Rattle.recovery.specs.Journal.{Leads, OneState}
use Rattle.recovery.specs.Known.{AreKnown}
use Rattle.recovery.specs.Laws.{held_for}
use Rattle.recovery.specs.ImageLaws.{FreshStoresOpen, OpensThere, OpensToOne}
use Rattle.recovery.specs.Opens.{IsJournal}

-- ---- one state

pub one_store : (s t : Store) (r : Result Store Refusal) → r ≡ Ok s → r ≡ Ok t → s ≡ t
one_store s t r a b = let same : Ok s ≡ Ok t = sym a ∙ b in cc

-- a store's journal has one place
pub stands_there : (size : ℕ) (s t : Store) (a b : Region) (es : List Entry) (image : List ℕ) → s ≡ t → IsJournal size s a → IsJournal size t b → Stands a es image → Stands b es image
stands_there size s t a b es image same p q stands =
    let at : a.at ≡ b.at = p.begins ∙ ap (λ (x : Store). offset_of (half_len size) x.half + 8192 * (1 + x.header.pages)) same ∙ sym q.begins in
    let end : end_of a ≡ end_of b = p.ends ∙ ap (λ (x : Store). offset_of (half_len size) x.half + half_len size) same ∙ sym q.ends in
    subst (λ (n : ℕ). StandsFrom b.at n es image) end (subst (λ (n : ℕ). StandsFrom n (end_of a) es image) at stands)

module _ (readings : OneReading) (checkpoints : OneCheckpoint) (states : OneState) where
  pub opens_to_one : OpensToOne
  opens_to_one name other d e image (l, a, es, p) (m, b, fs, q) =
      let store : p.store ≡ q.store = one_store p.store q.store (active_of image) p.active q.active in
      let pages : HasCheckpoint image (half_pages (length image) q.store) p.checkpoint = subst (λ (s : Store). HasCheckpoint image (half_pages (length image) s) p.checkpoint) store p.pages in
      let tables : p.checkpoint ≡ q.checkpoint = checkpoints image (half_pages (length image) q.store) p.checkpoint q.checkpoint pages q.pages in
      let leads : Leads (at_checkpoint q.checkpoint) es d = subst (λ (t : Tables). Leads (at_checkpoint t) es d) tables p.leads in
      let entries : es ≡ fs = readings.records b image es fs (stands_there (length image) p.store q.store a b es image store p.journal q.journal p.stands) q.stands in
      (sym p.named ∙ ap (λ (s : Store). s.name) store ∙ q.named, states (at_checkpoint q.checkpoint) d e fs (subst (λ (l : List Entry). Leads (at_checkpoint q.checkpoint) l d) entries leads) q.leads)

-- what opens stands where the half says
pub opens_there : OpensThere
opens_there name d image store region (l, a, es, p) active journal =
    let same : p.store ≡ store = one_store p.store store (active_of image) p.active active in
    let old : IsJournal (length image) store a = subst (λ (s : Store). IsJournal (length image) s a) same p.journal in
    let len : region.length ≡ a.length = omega (arith, journal.begins, journal.ends, old.begins, old.ends) in
    let layout : l ≡ store.header.layout = sym p.layout_is ∙ ap (λ (s : Store). s.header.layout) same in
    let named : store.name ≡ name = ap (λ (s : Store). s.name) (sym same) ∙ p.named in
    record {
      named = named;
      es = es;
      holds = record {
        store = store;
        active = active;
        named = named;
        layout_is = refl;
        journal = journal;
        checkpoint = p.checkpoint;
        pages = subst (λ (s : Store). HasCheckpoint image (half_pages (length image) s) p.checkpoint) same p.pages;
        stands = stands_there (length image) p.store store a region es image same p.journal journal p.stands;
        known = subst (λ (m : Layout). AreKnown m es) layout p.known;
        leads = p.leads;
        room = subst (λ (m : Layout). length (laid es) + 1 + held_for m d.doubts ≤ region.length) layout (omega (arith, p.room, len));
      };
    }

-- ---- a fresh store

is_sized : (b : Bool) (x : Result Store Refusal) (s : Store) → cond b x (Err not_a_store) ≡ Ok s → b ≡ true
is_sized true x s is = refl
is_sized false x s is = absurd cc

pub active_sized : (image : List ℕ) (s : Store) → active_of image ≡ Ok s → is_store_size (length image) ≡ true
unfolding active_of
active_sized image s is = is_sized (is_store_size (length image)) (judged image) s is

-- a half lies in an image, and has more than its header page
pub half_large : (size : ℕ) → is_store_size size ≡ true → (8192 < half_len size) × (8192 + (half_len size + half_len size) ≤ size) × (size ≤ 1073741824)
unfolding half_len
half_large size is = let least : 2097152 ≤ size = grind (arith, nat_tests) in
    let most : size ≤ 1073741824 = grind (arith, nat_tests) in
    (omega (arith, least), omega (arith, least), most)

pub fresh_stores_open : NoPagesHaveNoTables → FreshStoresOpen
fresh_stores_open none name image is =
    let h : ℕ = half_len (length image) in
    let room = half_large (length image) (active_sized image _ is.active) in
    let region : Region = record { at = 16384; length = h - 8192; ends = omega (arith, room.0, room.1, room.2) } in
    let low : 16384 < length image = omega (arith, room.0, room.1) in
    let stands : Stands region [] image = record {
      gate = get_or image 16384 0;
      shut = λ opened. absurd (omega (arith, is.gate, opened));
      spelled = byte_part image 16384 low;
      within = omega (arith, room.0);
      inside = omega (arith, room.0, room.1);
      short = tt;
    } in (
      region,
      record {
        store = record { name = name; half = First; header = first_header };
        active = is.active;
        named = refl;
        layout_is = refl;
        journal = record { begins = refl; ends = omega (arith, room.0) };
        checkpoint = [];
        pages = none image 16384;
        stands = stands;
        known = tt;
        leads = refl;
        room = omega (arith, room.0);
      },
    )
