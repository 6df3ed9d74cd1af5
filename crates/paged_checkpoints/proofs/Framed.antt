-- Tables whose pages stand in an image that was written.
use Rattle.std.proofs.Common.{◌≡◌, ◌⊎◌, ℕ, ◌+◌, ◌-◌, ◌*◌, ◌≤◌, Bool, true, false, cond, Some, None, List, [], ◌∷◌, length, refl, sym, ap, subst, ◌∙◌, arith}
use Rattle.std.specs.List.{AllByRecursion}
use Rattle.drda_words.specs.Place.{part}
use Rattle.drda_disk.proofs.Parts.{part-part}
use Rattle.key_map.specs.RowForm.{row_form}
use Rattle.key_map.specs.Slots.{with_row}
use Rattle.row_pages.specs.Page.{IsPage}
use Rattle.row_pages.specs.Laying.{laid}
use Rattle.row_pages.specs.declared.page.PageKind.TheVariants as kind
use Rattle.tables.specs.Tables.{Store}
use Rattle.table_map.specs.Stored.{AreAt, Places}
use Rattle.table_map.specs.Table.{without_keys}
use Rattle.half_store.specs.Layout.{offset_of}
use Rattle.half_store.specs.Opened.{IsBehindPages, store_of as active_store}
use Rattle.half_store.specs.Active.{Store as Opened}
use Rattle.half_store.specs.Switching.{switched}
use Rattle.half_store.specs.Writing.{from_of, half_bytes_of, next_of, pages_of}
use Rattle.half_store.specs.declared.active.Active.{Active}
use Rattle.half_store.specs.declared.image.ImageWriter.{ImageWriter}
use Rattle.checkpoint_writer.proofs.MergedRows.{many_keys}
use Rattle.store_check.specs.Checkpoint.{forms}
use Rattle.store_check.specs.Half.{page_at}
use Rattle.store_check.specs.Half.{pages_of as pages_of_active}
use Rattle.store_check.specs.Written.{IsWritten}
use Rattle.store_check.specs.Laying.{laid_at, laid_from, rows_under}
use Rattle.store_check.specs.Room.{pages_of_table}
use Rattle.paged_tables.specs.Stored.{IsOnPages, LiesInside, LiesOutside, Stored, laid_anew, shown, table_in}
use Rattle.paged_tables.specs.TablesByName.{AreLaid, Tables, created_of, store_of}
use Rattle.paged_checkpoints.specs.Apart.{LiesAmong, LiesFrom}
use Rattle.paged_checkpoints.specs.Laying.{IsUnder, all_shown, created_entry, places_from}
use Rattle.paged_checkpoints.proofs.Beside.{half_outside}
use Rattle.paged_checkpoints.proofs.Laid.{lie_wider}

-- ---- tables that were laid

one_anew : (file : List ℕ) (at next : ℕ) (e : List ℕ × Stored) → IsWritten forms file at (laid_at at next (created_entry e)) → IsUnder e → IsOnPages file (laid_anew ((laid_at at next (created_entry e)).places) e.1)
one_anew file at next e is under = record {
  pages = laid (without_keys (rows_under (table_in e.1)));
  stand = is.image.stored;
  rows = under ∙ sym is.image.same;
}

pub all_anew : (file : List ℕ) (at next : ℕ) (tables : Tables) → AllByRecursion (IsWritten forms file at) (laid_from at next (all_shown tables)) → AllByRecursion IsUnder tables → AreLaid (IsOnPages file) (places_from at next (all_shown tables)) tables
all_anew file at next [] all under = tt
all_anew file at next (e ∷ es) all under = (one_anew file at next e all.0 under.0, all_anew file at (next + pages_of_table (table_in e.1)) es all.1 under.1)

-- ---- in an image that reads the same

module _ (file other : List ℕ) (low n : ℕ) (same : part other low n ≡ part file low n) where
  page_same : (at : ℕ) → low ≤ at → at + 8192 ≤ low + n → part other at 8192 ≡ part file at 8192
  page_same at from to =
      let there : low + (at - low) ≡ at = omega (arith, from) in
      let cut : (image : List ℕ) → part (part image low n) (at - low) 8192 ≡ part image at 8192 = λ image. part-part image low n (at - low) 8192 (omega (arith, from, to)) ∙ ap (λ i. part image i 8192) there in
      sym (cut other) ∙ ap (λ (l : List ℕ). part l (at - low) 8192) same ∙ cut file

  pages_same : (at : ℕ) (pages : List (List (List ℕ))) → low ≤ at → at + 8192 * length pages ≤ low + n → AreAt file at pages → AreAt other at pages
  pages_same at [] from to is = tt
  pages_same at (page ∷ pages) from to is = (
    subst (λ (l : List ℕ). IsPage (record { kind = kind.Rows; rows = page }) l) (sym (page_same at from (omega (arith, to)))) is.0,
    pages_same (at + 8192) pages (omega (arith, from)) (omega (arith, to)) is.1,
  )

  one_same : (t : Stored) → LiesFrom low (low + n) t.places → IsOnPages file t → IsOnPages other t
  one_same t lies is =
      let many : length t.places.keys ≡ length is.pages = ap length is.stand.first ∙ many_keys (row_form t.schema) is.pages in
      record {
        pages = is.pages;
        stand = record {
          stand = pages_same t.places.at is.pages lies.first (omega (arith, lies.last, many)) is.stand.stand;
          some = is.stand.some;
          first = is.stand.first;
          order = is.stand.order;
        };
        rows = is.rows;
      }

  -- the tables stand there, too
  pub anew_same : (places : List Places) (tables : Tables) → AllByRecursion (LiesFrom low (low + n)) places → AreLaid (IsOnPages file) places tables → AreLaid (IsOnPages other) places tables
  anew_same [] [] lie is = tt
  anew_same [] (e ∷ es) lie is = is
  anew_same (p ∷ ps) [] lie is = is
  anew_same (p ∷ ps) (e ∷ es) lie is = (one_same (laid_anew p e.1) lie.0 is.0, anew_same ps es lie.1 is.1)

-- ---- the half that became active

-- its pages are those of the image
pub lie_among : (w : ImageWriter) (store : Opened) (first catalogue : ℕ) (a : Active) (places : List Places) → IsBehindPages (half_bytes_of w) a → active_store a ≡ switched store w first catalogue → AllByRecursion (LiesFrom (from_of w + 8192) (next_of w)) places → AllByRecursion (LiesAmong (pages_of_active a)) places
lie_among w store first catalogue a places behind same lie =
    let offset : offset_of (half_bytes_of w) a.half ≡ from_of w = ap (λ (s : Opened). offset_of (half_bytes_of w) s.half) same in
    let count : a.pages ≡ pages_of w = ap (λ (s : Opened). s.header.pages) same in
    lie_wider (from_of w + 8192) (next_of w) (a.region.at - 8192 * a.pages) (page_at (a.region.at - 8192 * a.pages) a.pages) places (omega (arith, behind.begins, offset)) (omega (arith, behind.begins, offset, count)) lie

-- ---- the tables that are created

shown_step : (b : Bool) (e : List ℕ × Stored) (es : Tables) (more : Store) → e.1.is_created ≡ b → more ≡ all_shown es → with_row e.0 (shown e.1) more ≡ all_shown (cond b (e ∷ es) es)
shown_step true e es more is same = ap (λ c. with_row e.0 (cond c (Some (table_in e.1)) None) more) is ∙ ap (λ (l : Store). created_entry e ∷ l) same
shown_step false e es more is same = ap (λ c. with_row e.0 (cond c (Some (table_in e.1)) None) more) is ∙ same

pub shown_created : (tables : Tables) → store_of tables ≡ all_shown (created_of tables)
shown_created [] = refl
shown_created (e ∷ es) = shown_step e.1.is_created e (created_of es) (store_of es) refl (shown_created es)

-- ---- where they lie

module _ (P : Stored → Type 0) (low high : ℕ) (one : (p : Places) (t : Stored) → LiesFrom low high p → P (laid_anew p t)) where
  all_lie : (places : List Places) (tables : Tables) → length places ≡ length tables → AllByRecursion (LiesFrom low high) places → AreLaid P places tables
  all_lie [] [] count lie = tt
  all_lie [] (e ∷ es) count lie = absurd (omega (arith, count))
  all_lie (p ∷ ps) [] count lie = absurd (omega (arith, count))
  all_lie (p ∷ ps) (e ∷ es) count lie = (one p e.1 lie.0, all_lie ps es (omega (arith, count)) lie.1)

-- among the pages of a half: in front of its journal
module _ (a : Active) (fits : 8192 * a.pages ≤ a.region.at) (places : List Places) (tables : Tables) (count : length places ≡ length tables) (among : AllByRecursion (LiesAmong (pages_of_active a)) places) where
  pub laid_inside : AreLaid (LiesInside a.region.at) places tables
  laid_inside = all_lie (LiesInside a.region.at) (pages_of_active a).at (page_at (pages_of_active a).at a.pages) (λ p t is. omega (arith, fits, is.last)) places tables count among

  -- and outside of what ends in front of its pages or begins behind them
  pub laid_apart : (from end : ℕ) → (a.region.at ≤ from) ⊎ (end + 8192 * a.pages ≤ a.region.at) → AreLaid (LiesOutside from end) places tables
  laid_apart from end away = all_lie (LiesOutside from end) (pages_of_active a).at (page_at (pages_of_active a).at a.pages) (λ p t is. half_outside a from end (laid_anew p t) fits away is) places tables count among
