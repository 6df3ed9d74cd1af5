-- Pages and records that stand elsewhere.
use Rattle.std.proofs.Common.{◌≡◌, ◌∙◌, ℕ, ◌+◌, ◌*◌, ◌<◌, ◌≤◌, ◌==◌, ◌&&◌, Bool, cond, nat_le, true, false, List, [], ◌∷◌, ◌++◌, length, take, sym, ap, subst, arith}
use Rattle.std.proofs.lemmas.Bool.{and_parts, eqb-true, leb-true}
use Rattle.drda_words.specs.Place.{part}
use Rattle.drda_disk.proofs.Parts.{part-part}
use Rattle.row_pages.specs.Page.{IsPage}
use Rattle.row_pages.specs.declared.page.PageKind.TheVariants as kind
use Rattle.table_map.specs.Stored.{AreAt}
use Rattle.checkpoint_writer.specs.Catalogue.{Entry}
use Rattle.unit_journal.specs.Record.{Entry as Laid, laid}
use Rattle.unit_journal.specs.Stands.{StandsFrom}
use Rattle.store_check.specs.Listed.{EntriesAt, IsTablesPage, are_listed, entries_over, first_page_of, lie_from, names_rise}
use Rattle.store_check.specs.Half.{AreTables, HalfPages, IsCatalogue, IsTable, IsWholeHalf, KeysBySchema, TableRows, catalogue_end, entries_of, page_at}

-- ---- where the pages of the next table lie

low_place : (next first : ℕ) (b : Bool) → first ≡ cond b 0 next → first ≤ next
low_place next first true is = omega (arith, is)
low_place next first false is = omega (arith, is)

module _ (next last : ℕ) (e : Entry) (es : List Entry) (lie : lie_from next last (e ∷ es) ≡ true) where
  parts : ((e.first_page == first_page_of next e) ≡ true) × ((nat_le (next + e.pages) last && lie_from (next + e.pages) last es) ≡ true)
  parts = and_parts (e.first_page == first_page_of next e) (nat_le (next + e.pages) last && lie_from (next + e.pages) last es) lie

  next_first : e.first_page ≤ next
  next_first = low_place next e.first_page (e.pages == 0) (eqb-true e.first_page (first_page_of next e) parts.0)

  next_within : next + e.pages ≤ last
  next_within = leb-true (next + e.pages) last (and_parts (nat_le (next + e.pages) last) (lie_from (next + e.pages) last es) parts.1).0

  next_more : lie_from (next + e.pages) last es ≡ true
  next_more = (and_parts (nat_le (next + e.pages) last) (lie_from (next + e.pages) last es) parts.1).1

-- ---- what stands there

module _ (file other : List ℕ) (lo to n : ℕ) (same : part other to n ≡ part file lo n) where
  -- a part within
  part_same : (i m : ℕ) → i + m ≤ n → part other (to + i) m ≡ part file (lo + i) m
  part_same i m high = sym (part-part other to n i m high) ∙ ap (λ (l : List ℕ). part l i m) same ∙ part-part file lo n i m high

  rows_moved : (i : ℕ) (pages : List (List (List ℕ))) → i + 8192 * length pages ≤ n → AreAt file (lo + i) pages → AreAt other (to + i) pages
  rows_moved i [] high is = tt
  rows_moved i (page ∷ pages) high is =
      let there : lo + i + 8192 ≡ lo + (i + 8192) = omega arith in
      let here : to + (i + 8192) ≡ to + i + 8192 = omega arith in (
        subst (λ (l : List ℕ). IsPage (record { kind = kind.Rows; rows = page }) l) (sym (part_same i 8192 (omega (arith, high)))) is.0,
        subst (λ (k : ℕ). AreAt other k pages) here (rows_moved (i + 8192) pages (omega (arith, high)) (subst (λ (k : ℕ). AreAt file k pages) there is.1)),
      )

  entries_moved : (i : ℕ) (pages : List (List Entry)) → i + 8192 * length pages ≤ n → EntriesAt file (lo + i) pages → EntriesAt other (to + i) pages
  entries_moved i [] high is = tt
  entries_moved i (page ∷ pages) high is =
      let there : lo + i + 8192 ≡ lo + (i + 8192) = omega arith in
      let here : to + (i + 8192) ≡ to + i + 8192 = omega arith in (
        subst (λ (l : List ℕ). IsTablesPage l page) (sym (part_same i 8192 (omega (arith, high)))) is.0,
        subst (λ (k : ℕ). EntriesAt other k pages) here (entries_moved (i + 8192) pages (omega (arith, high)) (subst (λ (k : ℕ). EntriesAt file k pages) there is.1)),
      )

module _ (key_of : KeysBySchema) (file other : List ℕ) (half : HalfPages) (to : ℕ) (same : part other to (8192 * half.count) ≡ part file half.at (8192 * half.count)) where
  -- the pages of a half, elsewhere
  abbrev pub there_in : HalfPages
  there_in = record half { at = to }

  table_moved : (t : TableRows) → t.entry.first_page + t.entry.pages ≤ half.count → IsTable key_of file half.at t → IsTable key_of other to t
  table_moved t within is = record {
    whole = record {
      stand = rows_moved file other half.at to (8192 * half.count) same (8192 * t.entry.first_page) t.pages (omega (arith, within, is.many)) is.whole.stand;
      some = is.whole.some;
      fit = is.whole.fit;
      order = is.whole.order;
    };
    many = is.many;
  }

  tables_moved : (last next : ℕ) (tables : List TableRows) → last ≤ half.count → lie_from next last (entries_of tables) ≡ true → AreTables key_of file half.at tables → AreTables key_of other to tables
  tables_moved last next [] few lie all = all
  tables_moved last next (t ∷ tables) few lie all = (
    table_moved t (omega (arith, few, next_first next last t.entry (entries_of tables) lie, next_within next last t.entry (entries_of tables) lie)) all.0,
    tables_moved last (next + t.entry.pages) tables few (next_more next last t.entry (entries_of tables) lie) all.1,
  )

  catalogue_moved : (es : List Entry) → catalogue_end half ≡ half.count → IsCatalogue file half es → IsCatalogue other there_in es
  catalogue_moved es last is = (
    is.0,
    record {
      listed = record {
        stand = entries_moved file other half.at to (8192 * half.count) same (8192 * half.first_catalogue) is.0 (omega (arith, last, is.1.many)) is.1.listed.stand;
        listed = is.1.listed.listed;
      };
      many = is.1.many;
    },
    is.2,
  )

  listed_lie : (es : List Entry) → IsCatalogue file half es → lie_from 0 half.first_catalogue es ≡ true
  listed_lie es is = subst (λ (l : List Entry). lie_from 0 half.first_catalogue l ≡ true) is.2 (and_parts (names_rise (entries_over is.0)) (lie_from 0 half.first_catalogue (entries_over is.0)) is.1.listed.listed).1

  pub half_moved : (tables : List TableRows) → IsWholeHalf key_of file half tables → IsWholeHalf key_of other there_in tables
  half_moved tables is = record {
    catalogue = catalogue_moved (entries_of tables) is.last is.catalogue;
    whole = tables_moved half.first_catalogue 0 tables (omega (arith, is.last)) (listed_lie (entries_of tables) is.catalogue) is.whole;
    behind = is.behind;
    last = is.last;
  }

-- records, and the closed gate behind them, stand where the same bytes stand, also where the region goes on behind
pub stands_moved : (file other : List ℕ) (at limit to end n : ℕ) (es : List Laid) → part other to n ≡ part file at n → at + n ≡ limit → to + n ≤ end → end ≤ length other → StandsFrom at limit es file → StandsFrom to end es other
stands_moved file other at limit to end n es same whole wider inside is =
    let first : (l : List ℕ) (k : ℕ) → k + (length (laid es) + 1) ≤ k + n → part l k (length (laid es) + 1) ≡ part (part l k n) 0 (length (laid es) + 1) =
    λ l k low. sym (part-part l k n 0 (length (laid es) + 1) (omega (arith, low)) ∙ ap (λ (i : ℕ). part l i (length (laid es) + 1)) (omega arith)) in
    record {
      gate = is.gate;
      shut = is.shut;
      spelled = first other to (omega (arith, whole, is.within)) ∙ ap (λ (l : List ℕ). part l 0 (length (laid es) + 1)) same ∙ sym (first file at (omega (arith, whole, is.within))) ∙ is.spelled;
      within = omega (arith, whole, wider, is.within);
      inside = inside;
      short = is.short;
    }
