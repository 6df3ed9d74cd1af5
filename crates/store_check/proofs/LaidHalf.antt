-- A half into which all tables and their catalogue were written.
use Rattle.std.proofs.Common.{◌≡◌, ℕ, ◌+◌, ◌*◌, ◌^◌, ◌<◌, ◌≤◌, Bool, true, false, ◌&&◌, List, [], ◌∷◌, length, map, cond, refl, sym, ap, ap₂, subst, ◌∙◌, arith}
use Rattle.std.specs.Prelude.{bytes_eq, nat_le, nat_lt, ◌==◌}
use Rattle.std.specs.List.{AllByRecursion, list_all}
use Rattle.std.specs.Map.{keys_of, values_of}
use Rattle.std.specs.Ordering.{is_lt, match_ordering, nat_cmp}
use Rattle.std.specs.declared.cmp.Ordering.{Ordering}
use Rattle.std.proofs.Common.{Less, Equal, Greater}
use Rattle.std.specs.Cmp.Lexicographic.{slice_cmp}
use Rattle.std.proofs.lemmas.Bool.{le-leb, lt-ltb, eq-eqb}
use Rattle.drda_words.specs.Order.{rises}
use Rattle.drda_words.proofs.Precedes.{same_bytes}
use Rattle.row_values.specs.Schema.{Schema, is_name, is_schema}
use Rattle.row_values.specs.Row.{is_row}
use Rattle.row_values.specs.Key.{row_key}
use Rattle.row_values.proofs.ValueLaws.{both_true, first_true, second_true}
use Rattle.row_pages.specs.Laying.{IsShort, Laying, laid, rows_over}
use Rattle.row_pages.specs.declared.page.PageKind.TheVariants as kind
use Rattle.key_map.specs.RowForm.{row_form}
use Rattle.key_map.specs.Merging.{Rows}
use Rattle.tables.specs.Tables.{Store, Table}
use Rattle.tables.specs.View.{is_entry, is_store, is_table}
use Rattle.table_map.specs.Table.{without_keys}
use Rattle.half_store.specs.Writing.{from_of, next_of, pages_of}
use Rattle.half_store.specs.declared.image.ImageWriter.{ImageWriter}
use Rattle.checkpoint_writer.specs.Catalogue.{AreEntries, Entry, is_entry as is_catalogue_entry, rows_of}
use Rattle.checkpoint_writer.specs.Laying.{StandAt}
use Rattle.store_check.specs.Checkpoint.{HasCheckpoint, at_keys, forms, store_on}
use Rattle.store_check.specs.Half.{page_at, pages_over}
use Rattle.store_check.specs.Listed.{are_listed, first_page_of, is_before, lie_from, names_rise}
use Rattle.store_check.specs.Written.{IsWritten, IsWrittenHalf, WrittenHalfIsWhole, entries_written, laid_table}
use Rattle.store_check.specs.Laying.{laid_from, pages_with, rows_under}
use Rattle.store_check.specs.Room.{entries_from, entry_of_table, pages_of_table, pages_of_tables}
use Rattle.store_check.proofs.Placing.{all_short, bare_under, good_rows, table_parts}
use Rattle.store_check.proofs.Moving.{good_all, is_good}

-- ---- the entries

entries_laid : (at next : ℕ) (tables : Store) → entries_written (laid_from at next tables) ≡ entries_from next tables
entries_laid at next [] = refl
entries_laid at next (e ∷ tables) = ap (λ (l : List Entry). entry_of_table next e ∷ l) (entries_laid at (next + pages_of_table e.1) tables)

many_over : (next : ℕ) (tables : Store) → pages_over (entries_from next tables) ≡ pages_of_tables tables
many_over next [] = refl
many_over next (e ∷ tables) = ap (λ n. pages_of_table e.1 + n) (many_over (next + pages_of_table e.1) tables)

same_number : (n : ℕ) → (n == n) ≡ true
same_number n = eq-eqb n n refl

lie : (next last : ℕ) (tables : Store) → next + pages_of_tables tables ≤ last → lie_from next last (entries_from next tables) ≡ true
lie next last [] low = refl
lie next last (e ∷ tables) low =
    both_true (cond (pages_of_table e.1 == 0) 0 next == first_page_of next (entry_of_table next e))
    (nat_le (next + pages_of_table e.1) last && lie_from (next + pages_of_table e.1) last (entries_from (next + pages_of_table e.1) tables))
    (same_number (cond (pages_of_table e.1 == 0) 0 next))
    (both_true (nat_le (next + pages_of_table e.1) last) (lie_from (next + pages_of_table e.1) last (entries_from (next + pages_of_table e.1) tables))
    (le-leb (next + pages_of_table e.1) last (omega (arith, low))) (lie (next + pages_of_table e.1) last tables (omega (arith, low))))

is_less : (o : Ordering) → is_lt o ≡ true → match_ordering o true false false ≡ true
is_less Less h = refl
is_less Equal h = absurd cc
is_less Greater h = absurd cc

before_next : (e : List ℕ × Table) (n next : ℕ) (tables : Store) → list_all (λ later. is_lt (slice_cmp nat_cmp e.0 later)) (keys_of tables) ≡ true → is_before (entry_of_table n e) (entries_from next tables) ≡ true
before_next e n next [] h = refl
before_next e n next (f ∷ tables) h = is_less (slice_cmp nat_cmp e.0 f.0) (first_true (is_lt (slice_cmp nat_cmp e.0 f.0)) (list_all (λ later. is_lt (slice_cmp nat_cmp e.0 later)) (keys_of tables)) h)

names : (next : ℕ) (tables : Store) → rises (slice_cmp nat_cmp) (keys_of tables) ≡ true → names_rise (entries_from next tables) ≡ true
names next [] h = refl
names next (e ∷ tables) h =
    let first = first_true (list_all (λ later. is_lt (slice_cmp nat_cmp e.0 later)) (keys_of tables)) (rises (slice_cmp nat_cmp) (keys_of tables)) h in
    let more = second_true (list_all (λ later. is_lt (slice_cmp nat_cmp e.0 later)) (keys_of tables)) (rises (slice_cmp nat_cmp) (keys_of tables)) h in
    both_true (is_before (entry_of_table next e) (entries_from (next + pages_of_table e.1) tables)) (names_rise (entries_from (next + pages_of_table e.1) tables))
    (before_next e next (next + pages_of_table e.1) tables first) (names (next + pages_of_table e.1) tables more)

pub listed : (last : ℕ) (tables : Store) → pages_of_tables tables ≤ last → is_store tables ≡ true → are_listed last (entries_from 0 tables) ≡ true
listed last tables low h =
    both_true (names_rise (entries_from 0 tables)) (lie_from 0 last (entries_from 0 tables))
    (names 0 tables (second_true (list_all is_good tables) (rises (slice_cmp nat_cmp) (keys_of tables)) h))
    (lie 0 last tables (omega (arith, low)))

small_first : (b : Bool) (next : ℕ) → next < 2 ^ 32 → cond b 0 next < 2 ^ 32
small_first true next small = omega arith
small_first false next small = small

good_entry : (next : ℕ) (e : List ℕ × Table) → is_good e ≡ true → next + pages_of_table e.1 < 2 ^ 32 → is_catalogue_entry (entry_of_table next e) ≡ true
good_entry next e good small =
    let first = cond (pages_of_table e.1 == 0) 0 next in
    both_true (is_name e.0) (is_schema e.1.schema && (nat_lt first (2 ^ 32) && nat_lt (pages_of_table e.1) (2 ^ 32))) (first_true (is_name e.0) (is_table e.1) good)
    (both_true (is_schema e.1.schema) (nat_lt first (2 ^ 32) && nat_lt (pages_of_table e.1) (2 ^ 32)) (table_parts e.1 (second_true (is_name e.0) (is_table e.1) good)).0
    (both_true (nat_lt first (2 ^ 32)) (nat_lt (pages_of_table e.1) (2 ^ 32)) (lt-ltb first (2 ^ 32) (small_first (pages_of_table e.1 == 0) next (omega (arith, small)))) (lt-ltb (pages_of_table e.1) (2 ^ 32) (omega (arith, small)))))

good_entries : (next : ℕ) (tables : Store) → list_all is_good tables ≡ true → next + pages_of_tables tables < 2 ^ 32 → AreEntries (entries_from next tables)
good_entries next [] good small = tt
good_entries next (e ∷ tables) good small = (
  good_entry next e (first_true (is_good e) (list_all is_good tables) good) (omega (arith, small)),
  good_entries (next + pages_of_table e.1) tables (second_true (is_good e) (list_all is_good tables) good) (omega (arith, small)),
)

-- ---- the store that they are

keys_back : (schema : Schema) (rows : Rows) → list_all (is_entry schema) rows ≡ true → at_keys schema (values_of rows) ≡ rows
keys_back schema [] good = refl
keys_back schema (e ∷ rows) good =
    let key = same_bytes e.0 (row_key schema e.1) (second_true (is_row schema e.1) (bytes_eq e.0 (row_key schema e.1)) (first_true (is_entry schema e) (list_all (is_entry schema) rows) good)) in
    ap₂ (λ (k : List ℕ) (l : Rows). (k, e.1) ∷ l) (sym key) (keys_back schema rows (second_true (is_entry schema e) (list_all (is_entry schema) rows) good))

rows_back : Laying → (e : List ℕ × Table) → is_good e ≡ true → at_keys e.1.schema (rows_over (laid (without_keys (rows_under e.1)))) ≡ e.1.rows
rows_back law e good =
    ap (λ (l : List (List ℕ)). at_keys e.1.schema (rows_over (laid l))) (bare_under (row_form e.1.schema) (values_of e.1.rows))
    ∙ ap (λ (l : List (List ℕ)). at_keys e.1.schema l) (law (values_of e.1.rows) (all_short e.1.schema (values_of e.1.rows) (good_rows e good))).same
    ∙ keys_back e.1.schema e.1.rows (table_parts e.1 (second_true (is_name e.0) (is_table e.1) good)).1

same_store : Laying → (at next : ℕ) (tables : Store) → list_all is_good tables ≡ true → tables ≡ store_on (map laid_table (laid_from at next tables))
same_store law at next [] good = refl
same_store law at next (e ∷ tables) good =
    ap₂ (λ (r : Rows) (l : Store). (e.0, record { schema = e.1.schema; rows = r }) ∷ l) (sym (rows_back law e (first_true (is_good e) (list_all is_good tables) good)))
    (same_store law at (next + pages_of_table e.1) tables (second_true (is_good e) (list_all is_good tables) good))

-- ---- the checkpoint

small_pages : (w : ImageWriter) → pages_of w < 2 ^ 32
small_pages w = omega (arith, w.small, w.fits)

module _ (laying : Laying) (whole : WrittenHalfIsWhole) (old new : List ℕ) (w after : ImageWriter) (es : List Entry) (tables : Store) (h : is_store tables ≡ true) (from : from_of after ≡ from_of w)
    (same : es ≡ entries_from 0 tables) (count : pages_of w ≡ pages_of_tables tables) (next : next_of after ≡ next_of w + 8192 * length (laid (rows_of es))) where
  abbrev first : ℕ
  first = pages_of w

  abbrev at : ℕ
  at = from_of after + 8192

  entries_are : entries_written (laid_from at 0 tables) ≡ es
  entries_are = entries_laid at 0 tables ∙ sym same

  catalogue_pages : pages_of after ≡ first + length (laid (rows_of es))
  catalogue_pages = omega (arith, next, from)

  written_half : AllByRecursion IsShort (rows_of es) → StandAt kind.Catalogue new (next_of w) (laid (rows_of es)) → AllByRecursion (IsWritten forms new at) (laid_from at 0 tables) → IsWrittenHalf forms new (pages_with after first) (laid_from at 0 tables)
  written_half short stand written =
      let place : next_of w ≡ page_at at first = omega (arith, from) in
      record {
        written = written;
        good = subst (λ (l : List Entry). AreEntries l) (sym (entries_laid at 0 tables)) (good_entries 0 tables (good_all tables h) (omega (arith, count, small_pages w)));
        short = subst (λ (l : List Entry). AllByRecursion IsShort (rows_of l)) (sym entries_are) short;
        catalogue = subst (λ (l : List Entry). StandAt kind.Catalogue new (page_at at first) (laid (rows_of l))) (sym entries_are) (subst (λ n. StandAt kind.Catalogue new n (laid (rows_of es))) place stand);
        many = ap (λ (l : List Entry). length (laid (rows_of l))) entries_are ∙ omega (arith, catalogue_pages);
        listed = ap (λ (l : List Entry). are_listed first l) (entries_laid at 0 tables) ∙ listed first tables (omega (arith, count)) h;
        behind = ap pages_over (entries_laid at 0 tables) ∙ many_over 0 tables ∙ sym count;
        last = omega (arith, catalogue_pages);
      }

  pub checkpoint : AllByRecursion IsShort (rows_of es) → StandAt kind.Catalogue new (next_of w) (laid (rows_of es)) → AllByRecursion (IsWritten forms new at) (laid_from at 0 tables) → HasCheckpoint new (pages_with after first) tables
  checkpoint short stand written = record {
    tables = map laid_table (laid_from at 0 tables);
    whole = whole forms new (pages_with after first) (laid_from at 0 tables) (written_half short stand written);
    is = same_store laying at 0 tables (good_all tables h);
  }
