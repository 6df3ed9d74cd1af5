-- Pages that read the same.
use Rattle.std.proofs.Common.{◌≡◌, ℕ, ◌+◌, ◌-◌, ◌*◌, ◌≤◌, true, List, [], ◌∷◌, length, sym, ◌∙◌, ap, subst, arith}
use Rattle.drda_words.specs.Place.{part}
use Rattle.drda_disk.proofs.Parts.{part-part}
use Rattle.row_pages.specs.Page.{IsPage}
use Rattle.row_pages.specs.declared.page.PageKind.TheVariants as kind
use Rattle.table_map.specs.Stored.{AreAt}
use Rattle.checkpoint_writer.specs.Catalogue.{Entry}
use Rattle.store_check.specs.Listed.{EntriesAt, IsTablesPage, entries_over, lie_from}
use Rattle.store_check.specs.Half.{AreTables, HalfPages, IsCatalogue, IsTable, IsWholeHalf, KeysBySchema, TableRows, catalogue_end, entries_of, page_at}
use Rattle.store_check.proofs.Tables.{lie_first, next_first, next_more, next_within}

module _ (file other : List ℕ) (lo n : ℕ) (same : part other lo n ≡ part file lo n) where
  -- one page within
  page_same : (at : ℕ) → lo ≤ at → at + 8192 ≤ lo + n → part other at 8192 ≡ part file at 8192
  page_same at low high =
      let there : lo + (at - lo) ≡ at = omega (arith, low) in
      let cut : (image : List ℕ) → part (part image lo n) (at - lo) 8192 ≡ part image at 8192 = λ image. part-part image lo n (at - lo) 8192 (omega (arith, low, high)) ∙ ap (λ i. part image i 8192) there in
      sym (cut other) ∙ ap (λ (l : List ℕ). part l (at - lo) 8192) same ∙ cut file

  rows_framed : (at : ℕ) (pages : List (List (List ℕ))) → lo ≤ at → at + 8192 * length pages ≤ lo + n → AreAt file at pages → AreAt other at pages
  rows_framed at [] low high is = tt
  rows_framed at (page ∷ pages) low high is = (
    subst (λ (l : List ℕ). IsPage (record { kind = kind.Rows; rows = page }) l) (sym (page_same at low (omega (arith, high)))) is.0,
    rows_framed (at + 8192) pages (omega (arith, low)) (omega (arith, high)) is.1,
  )

  entries_framed : (at : ℕ) (pages : List (List Entry)) → lo ≤ at → at + 8192 * length pages ≤ lo + n → EntriesAt file at pages → EntriesAt other at pages
  entries_framed at [] low high is = tt
  entries_framed at (page ∷ pages) low high is = (
    subst (λ (l : List ℕ). IsTablesPage l page) (sym (page_same at low (omega (arith, high)))) is.0,
    entries_framed (at + 8192) pages (omega (arith, low)) (omega (arith, high)) is.1,
  )

module _ (key_of : KeysBySchema) (file other : List ℕ) (half : HalfPages) (same : part other half.at (8192 * half.count) ≡ part file half.at (8192 * half.count)) where
  table_framed : (t : TableRows) → t.entry.first_page + t.entry.pages ≤ half.count → IsTable key_of file half.at t → IsTable key_of other half.at t
  table_framed t within is = record {
    whole = record {
      stand = rows_framed file other half.at (8192 * half.count) same (page_at half.at t.entry.first_page) t.pages (omega arith) (omega (arith, within, is.many)) is.whole.stand;
      some = is.whole.some;
      fit = is.whole.fit;
      order = is.whole.order;
    };
    many = is.many;
  }

  tables_framed : (last next : ℕ) (tables : List TableRows) → last ≤ half.count → lie_from next last (entries_of tables) ≡ true → AreTables key_of file half.at tables → AreTables key_of other half.at tables
  tables_framed last next [] few lie all = all
  tables_framed last next (t ∷ tables) few lie all = (
    table_framed t (omega (arith, few, next_first next last t.entry (entries_of tables) lie, next_within next last t.entry (entries_of tables) lie)) all.0,
    tables_framed last (next + t.entry.pages) tables few (next_more next last t.entry (entries_of tables) lie) all.1,
  )

  catalogue_framed : (es : List Entry) → catalogue_end half ≡ half.count → IsCatalogue file half es → IsCatalogue other half es
  catalogue_framed es last is = (
    is.0,
    record {
      listed = record {
        stand = entries_framed file other half.at (8192 * half.count) same (page_at half.at half.first_catalogue) is.0 (omega arith) (omega (arith, last, is.1.many)) is.1.listed.stand;
        listed = is.1.listed.listed;
      };
      many = is.1.many;
    },
    is.2,
  )

  listed_lie : (es : List Entry) → IsCatalogue file half es → lie_from 0 half.first_catalogue es ≡ true
  listed_lie es is = subst (λ (l : List Entry). lie_from 0 half.first_catalogue l ≡ true) is.2 (lie_first half.first_catalogue (entries_over is.0) is.1.listed.listed)

  pub half_framed : (tables : List TableRows) → IsWholeHalf key_of file half tables → IsWholeHalf key_of other half tables
  half_framed tables is = record {
    catalogue = catalogue_framed (entries_of tables) is.last is.catalogue;
    whole = tables_framed half.first_catalogue 0 tables (omega (arith, is.last)) (listed_lie (entries_of tables) is.catalogue) is.whole;
    behind = is.behind;
    last = is.last;
  }
