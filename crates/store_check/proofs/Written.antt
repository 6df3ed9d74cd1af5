-- What was written is whole.
use Rattle.std.proofs.Common.{◌≡◌, ◌<◌, ℕ, suc, ◌+◌, true, List, [], ◌∷◌, ◌++◌, length, map, refl, sym, ap, subst, ◌∙◌, arith}
use Rattle.std.specs.List.{AllByRecursion}
use Rattle.drda_words.specs.Place.{part}
use Rattle.row_values.specs.Schema.{Schema}
use Rattle.row_values.specs.Row.{is_row}
use Rattle.row_pages.specs.Laying.{AreFilled, HasSome, IsShort, Laying, laid}
use Rattle.row_pages.specs.Page.{IsPage, Page}
use Rattle.row_pages.specs.Parsing.{OnePage}
use Rattle.row_pages.specs.declared.page.PageKind.TheVariants as kind
use Rattle.key_map.specs.Merging.{Rows}
use Rattle.table_map.specs.Stored.{AreAt, Places}
use Rattle.table_map.specs.Table.{without_keys}
use Rattle.table_map.specs.Keyed.{first_keys}
use Rattle.checkpoint_writer.specs.Catalogue.{AreEntries, CatalogueIsRead, Entry, HasEntries, IsEntryPage, rows_of}
use Rattle.checkpoint_writer.specs.Laying.{StandAt}
use Rattle.checkpoint_writer.specs.Stored.{IsImageOf}
use Rattle.store_check.specs.Whole.{IsWhole}
use Rattle.store_check.specs.Listed.{EntriesAt, IsListing, IsTablesPage, are_listed, entries_over}
use Rattle.store_check.specs.Half.{AreTables, HalfPages, IsTable, IsWholeHalf, KeysBySchema, entries_of, page_at, pages_over}
use Rattle.store_check.proofs.Entries.{tables_there}
use Rattle.store_check.specs.Written.{IsWritten, IsWrittenHalf, WrittenTable, entries_written, laid_table}

many_first : (key_of : List ℕ → List ℕ) (pages : List (List (List ℕ))) → length (first_keys key_of pages) ≡ length pages
many_first key_of [] = refl
many_first key_of (page ∷ pages) = ap suc (many_first key_of pages)

pub table_whole : Laying → (schema : Schema) (key_of : List ℕ → List ℕ) (rows : Rows) (places : Places) (file : List ℕ) → IsImageOf key_of rows places file → AllByRecursion (λ row. is_row schema row ≡ true) (without_keys rows) → IsWhole schema key_of file places.at (length places.keys) (laid (without_keys rows))
table_whole law schema key_of rows places file image fit = record {
  whole = record {
    stand = image.stored.stand;
    some = image.stored.some;
    fit = subst (λ (l : List (List ℕ)). AllByRecursion (λ row. is_row schema row ≡ true) l) (sym (law (without_keys rows) image.short).same) fit;
    order = image.stored.order;
  };
  many = sym (many_first key_of (laid (without_keys rows))) ∙ ap (λ (keys : List (List ℕ)). length keys) (sym image.stored.first);
}

filled_some : (pages : List (List (List ℕ))) → AreFilled pages → AllByRecursion HasSome pages
filled_some [] filled = tt
filled_some (page ∷ pages) filled = (filled.0, filled_some pages filled.3)

-- a page of rows with tables has some
page_tables : OnePage → (bytes : List ℕ) (rows : List (List ℕ)) (es : List Entry) → IsPage (record { kind = kind.Catalogue; rows = rows }) bytes → HasSome rows → IsEntryPage bytes es → IsTablesPage bytes es
page_tables law bytes rows es page some is =
    let same = ap (λ (p : Page). p.rows) (law (record { kind = kind.Catalogue; rows = rows }) (record { kind = kind.Catalogue; rows = is.rows }) bytes page is.page) in
    record { is = is; some = tables_there is.rows es is.are (subst (λ (l : List (List ℕ)). HasSome l) same some) }

-- the tables of pages, page by page
apart : OnePage → (file : List ℕ) (at : ℕ) (laid_pages : List (List (List ℕ))) (es : List Entry) → StandAt kind.Catalogue file at laid_pages → AllByRecursion HasSome laid_pages → HasEntries file at (length laid_pages) es
    → (pages : List (List Entry)) × EntriesAt file at pages × (length pages ≡ length laid_pages) × (entries_over pages ≡ es)
apart law file at [] es stand some has = ([], tt, refl, sym has)
apart law file at (page ∷ laid_pages) es stand some has =
    let more = apart law file (at + 8192) laid_pages has.1 stand.1 some.1 has.3 in
    (has.0 ∷ more.0, (page_tables law (part file at 8192) page has.0 stand.0 some.0 has.2, more.1), ap suc more.2, ap (λ (l : List Entry). has.0 ++ l) more.3 ∙ sym has.4)

pub catalogue_listed : OnePage → Laying → CatalogueIsRead → (file : List ℕ) (at last : ℕ) (entries : List Entry) → AreEntries entries → AllByRecursion IsShort (rows_of entries) → StandAt kind.Catalogue file at (laid (rows_of entries)) → are_listed last entries ≡ true
    → (pages : List (List Entry)) × IsListing file at (length (laid (rows_of entries))) last pages × (entries_over pages ≡ entries)
catalogue_listed one laying read file at last entries good short stand listed =
    let found = apart one file at (laid (rows_of entries)) entries stand (filled_some (laid (rows_of entries)) (laying (rows_of entries) short).filled) (read file at entries good short stand) in
    (found.0, record { listed = record { stand = found.1; listed = ap (λ (es : List Entry). are_listed last es) found.3 ∙ listed }; many = found.2 }, found.3)

-- ---- a half

entries_laid : (tables : List WrittenTable) → entries_of (map laid_table tables) ≡ entries_written tables
entries_laid [] = refl
entries_laid (t ∷ tables) = ap (λ (es : List Entry). t.entry ∷ es) (entries_laid tables)

-- where there are pages they stand at one place
moved : (file : List ℕ) (at here : ℕ) (pages : List (List (List ℕ))) → (0 < length pages → at ≡ here) → AreAt file at pages → AreAt file here pages
moved file at here [] same stand = tt
moved file at here (page ∷ pages) same stand = subst (λ (n : ℕ). AreAt file n (page ∷ pages)) (same (omega arith)) stand

table_written : Laying → (key_of : KeysBySchema) (file : List ℕ) (at : ℕ) (t : WrittenTable) → IsWritten key_of file at t → IsTable key_of file at (laid_table t)
table_written law key_of file at t is =
    let whole = table_whole law t.entry.schema (key_of t.entry.schema) t.rows t.places file is.image is.fit in
    let many = whole.many ∙ is.many in
    record {
      whole = record {
        stand = moved file t.places.at (page_at at t.entry.first_page) (laid (without_keys t.rows)) (λ some. is.place (subst (λ (n : ℕ). 0 < n) many some)) whole.whole.stand;
        some = whole.whole.some;
        fit = whole.whole.fit;
        order = whole.whole.order;
      };
      many = many;
    }

tables_written : Laying → (key_of : KeysBySchema) (file : List ℕ) (at : ℕ) (tables : List WrittenTable) → AllByRecursion (IsWritten key_of file at) tables → AreTables key_of file at (map laid_table tables)
tables_written law key_of file at [] are = tt
tables_written law key_of file at (t ∷ tables) are = (table_written law key_of file at t are.0, tables_written law key_of file at tables are.1)

pub half_written : OnePage → Laying → CatalogueIsRead → (key_of : KeysBySchema) (file : List ℕ) (half : HalfPages) (tables : List WrittenTable) → IsWrittenHalf key_of file half tables → IsWholeHalf key_of file half (map laid_table tables)
half_written one law read key_of file half tables is =
    let first = half.first_catalogue in
    let found = catalogue_listed one law read file (page_at half.at first) first (entries_written tables) is.good is.short is.catalogue is.listed in
    record {
      catalogue = (found.0, subst (λ (n : ℕ). IsListing file (page_at half.at first) n first found.0) is.many found.1, found.2 ∙ sym (entries_laid tables));
      whole = tables_written law key_of file half.at tables is.written;
      behind = ap (λ (es : List Entry). pages_over es) (entries_laid tables) ∙ is.behind;
      last = is.last;
    }
