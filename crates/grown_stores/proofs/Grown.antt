-- A store that was moved opens to what it was.
use Rattle.std.proofs.Common.{◌≡◌, ◌∙◌, refl, sym, ap, subst, ℕ, ◌+◌, ◌-◌, ◌*◌, ◌<◌, ◌≤◌, List, length, Ok, Result, arith}
use Rattle.drda_words.specs.Place.{part}
use Rattle.drda_disk.proofs.Parts.{part-part}
use Rattle.drda_disk.specs.declared.region.Region.{Region}
use Rattle.half_store.specs.Active.{Refusal, Store, active_of}
use Rattle.half_store.specs.Layout.{half_len, offset_of}
use Rattle.half_store.specs.declared.layout.Half.TheVariants.{First}
use Rattle.store_check.specs.Checkpoint.{HasCheckpoint, forms, half_pages}
use Rattle.recovery.specs.Durable.{Durable}
use Rattle.recovery.specs.Opens.{Holds, OpensTo}
use Rattle.unit_journal.specs.Record.{laid}
use Rattle.grown_stores.specs.Growing.{IsGrown, GrownStoresOpen}
use Rattle.grown_stores.proofs.Moved.{half_moved, stands_moved}

abbrev there : Store → Result Store Refusal
there s = Ok s

same_store : (a b : Store) → there a ≡ there b → a ≡ b
same_store a b is = cc

pub opens : GrownStoresOpen
opens old new g name d (layout, region, es, h) =
    let n = half_len (length old) in
    let m = half_len (length new) in
    let store = h.store in
    let is_store : store ≡ g.store = same_store store g.store (sym h.active ∙ g.was) in
    let from = offset_of n store.half in
    let pages = store.header.pages in
    let begins = h.journal.begins in
    let ends = h.journal.ends in
    let room = h.room in
    let same : part new 8192 n ≡ part old from n = g.same ∙ ap (λ (s : Store). part old (offset_of n s.half) n) (sym is_store) in
    let fits : 8192 * (1 + pages) + length (laid es) + 1 ≤ n = omega (arith, begins, ends, room) in
    let within : (i k : ℕ) → i + k ≤ n → part new (8192 + i) k ≡ part old (from + i) k =
    λ i k high. sym (part-part new 8192 n i k high) ∙ ap (λ (l : List ℕ). part l i k) same ∙ part-part old from n i k high in
    let grown : Region = record { at = 8192 + 8192 * (1 + pages); length = m - 8192 * (1 + pages); ends = omega (arith, fits, g.wider, g.inside, g.small) } in
    let left = n - 8192 * (1 + pages) in
    let checkpoint : HasCheckpoint new (half_pages (length new) (record store { half = First })) h.checkpoint = record {
      tables = h.pages.tables;
      whole = half_moved forms old new (half_pages (length old) store) 16384 (within 8192 (8192 * pages) (omega (arith, fits))) h.pages.tables h.pages.whole;
      is = h.pages.is;
    } in (
      layout,
      grown,
      es,
      record {
        store = record store { half = First };
        active = g.is ∙ ap (λ (s : Store). let t : Result Store Refusal = Ok (record s { half = First }) in t) (sym is_store);
        named = h.named;
        layout_is = h.layout_is;
        journal = record { begins = refl; ends = omega (arith, fits, g.wider) };
        checkpoint = h.checkpoint;
        pages = checkpoint;
        stands = stands_moved old new region.at (region.at + region.length) (8192 + 8192 * (1 + pages)) (8192 + 8192 * (1 + pages) + (m - 8192 * (1 + pages))) left es
            (within (8192 * (1 + pages)) left (omega (arith, fits)) ∙ ap (λ (k : ℕ). part old k left) (sym begins)) (omega (arith, fits, begins, ends)) (omega (arith, fits, g.wider)) (omega (arith, fits, g.wider, g.inside)) h.stands;
        known = h.known;
        leads = h.leads;
        room = omega (arith, fits, begins, ends, room, g.wider);
      },
    )
