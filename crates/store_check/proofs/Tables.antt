-- Tables whose pages were checked, one behind another.
use Rattle.std.proofs.Common.{◌≡◌, ℕ, ◌+◌, ◌≤◌, Bool, true, false, ◌&&◌, ◌==◌, cond, nat_le, List, [], ◌∷◌, ◌++◌, Ok, map, refl, sym, ap, ◌∙◌, append_assoc, arith}
use Rattle.std.proofs.lemmas.Bool.{and_parts, eqb-true, leb-true}
use Rattle.std.proofs.lemmas.List.{map-append}
use Rattle.row_pages.specs.Laying.{rows_over}
use Rattle.table_map.specs.Stored.{Places}
use Rattle.table_map.specs.declared.noted.NotedPages.{NotedPages}
use Rattle.checkpoint_writer.specs.Catalogue.{Entry, entry_of}
use Rattle.checkpoint_writer.specs.declared.entry.StoredTable.{StoredTable}
use Rattle.store_check.specs.Listed.{are_listed, first_page_of, lie_from, names_rise}
use Rattle.store_check.specs.Whole.{ChecksTable}
use Rattle.store_check.specs.Half.{AreTables, IsTable, KeysBySchema, TableRows, entries_of, entry_in, noted_in, page_at, pages_over, placed, rows_in, told_of}
use Rattle.store_check.specs.declared.half.CheckedTable.{CheckedTable}
use Rattle.store_check.proofs.Standing.{all_more}

-- ---- where the pages of the next table lie

low_place : (next first : ℕ) (b : Bool) → first ≡ cond b 0 next → first ≤ next
low_place next first true is = omega (arith, is)
low_place next first false is = omega (arith, is)

pub next_first : (next last : ℕ) (e : Entry) (es : List Entry) → lie_from next last (e ∷ es) ≡ true → e.first_page ≤ next
next_first next last e es lie =
    let p = and_parts (e.first_page == first_page_of next e) (nat_le (next + e.pages) last && lie_from (next + e.pages) last es) lie in
    low_place next e.first_page (e.pages == 0) (eqb-true e.first_page (first_page_of next e) p.0)

pub next_within : (next last : ℕ) (e : Entry) (es : List Entry) → lie_from next last (e ∷ es) ≡ true → next + e.pages ≤ last
next_within next last e es lie =
    let p = and_parts (e.first_page == first_page_of next e) (nat_le (next + e.pages) last && lie_from (next + e.pages) last es) lie in
    leb-true (next + e.pages) last (and_parts (nat_le (next + e.pages) last) (lie_from (next + e.pages) last es) p.1).0

pub next_more : (next last : ℕ) (e : Entry) (es : List Entry) → lie_from next last (e ∷ es) ≡ true → lie_from (next + e.pages) last es ≡ true
next_more next last e es lie =
    let p = and_parts (e.first_page == first_page_of next e) (nat_le (next + e.pages) last && lie_from (next + e.pages) last es) lie in
    (and_parts (nat_le (next + e.pages) last) (lie_from (next + e.pages) last es) p.1).1

pub lie_first : (last : ℕ) (es : List Entry) → are_listed last es ≡ true → lie_from 0 last es ≡ true
lie_first last es listed = (and_parts (names_rise es) (lie_from 0 last es) listed).1

-- ---- tables behind others

entries_more : (tables : List TableRows) (t : TableRows) (es : List Entry) → entries_of tables ++ t.entry ∷ es ≡ entries_of (tables ++ t ∷ []) ++ es
entries_more [] t es = refl
entries_more (u ∷ tables) t es = ap (λ (l : List Entry). u.entry ∷ l) (entries_more tables t es)

pages_more : (tables : List TableRows) (t : TableRows) → pages_over (entries_of (tables ++ t ∷ [])) ≡ pages_over (entries_of tables) + t.entry.pages
pages_more [] t = omega arith
pages_more (u ∷ tables) t = omega (arith, pages_more tables t)

-- ---- the tables so far

-- These tables were checked, and those are left of all; so many pages are theirs.
pub record AreChecked (key_of : KeysBySchema) (file : List ℕ) (at : ℕ) (all left : List Entry) (next : ℕ) (done : List CheckedTable) : Type 0 where
  pub tables : List TableRows
  pub same : all ≡ entries_of tables ++ left
  pub whole : AreTables key_of file at tables
  pub pages : pages_over (entries_of tables) ≡ next
  pub told : map told_of done ≡ map (placed key_of at) tables
  pub noted : map noted_in done ≡ map rows_in tables

module _ (key_of : KeysBySchema) (file : List ℕ) (at first : ℕ) (all : List Entry) where
  -- a table more
  pub one_checked : (t : StoredTable) (pages : NotedPages) (more : List Entry) (next : ℕ) (old new : List CheckedTable) → AreChecked key_of file at all (entry_of t ∷ more) next old
      → (told : ChecksTable t.schema (key_of t.schema) file (page_at at t.first_page) t.pages (Ok pages.pages)) → pages.rows.listed.value ≡ rows_over told.0 → new ≡ old ++ (record { table = t; pages = pages }) ∷ []
      → AreChecked key_of file at all more (next + t.pages) new
  one_checked t pages more next old new so told rows_are behind =
      let rows : TableRows = record { entry = entry_of t; pages = told.0 } in
      record {
        tables = so.tables ++ rows ∷ [];
        same = so.same ∙ entries_more so.tables rows more;
        whole = all_more (IsTable key_of file at) so.tables rows so.whole told.1;
        pages = pages_more so.tables rows ∙ ap (λ (n : ℕ). n + t.pages) so.pages;
        told =
            ap (λ (l : List CheckedTable). map told_of l) behind
            ∙ map-append told_of old ((record { table = t; pages = pages }) ∷ [])
            ∙ ap (λ (l : List (Entry × Places)). l ++ (entry_of t, pages.pages) ∷ []) so.told
            ∙ ap (λ (p : Places). map (placed key_of at) so.tables ++ (entry_of t, p) ∷ []) told.2
            ∙ sym (map-append (placed key_of at) so.tables (rows ∷ []));
        noted =
            ap (λ (l : List CheckedTable). map noted_in l) behind
            ∙ map-append noted_in old ((record { table = t; pages = pages }) ∷ [])
            ∙ ap (λ (l : List (List (List ℕ))). l ++ pages.rows.listed.value ∷ []) so.noted
            ∙ ap (λ (r : List (List ℕ)). map rows_in so.tables ++ r ∷ []) rows_are
            ∙ sym (map-append rows_in so.tables (rows ∷ []));
      }

-- what is done, with what is left, are all entries
pub entries_done : (old new : List CheckedTable) (c : CheckedTable) (more all : List Entry) → map entry_in old ++ entry_in c ∷ more ≡ all → new ≡ old ++ c ∷ [] → map entry_in new ++ more ≡ all
entries_done old new c more all so behind =
    ap (λ (l : List CheckedTable). map entry_in l ++ more) behind
    ∙ ap (λ (l : List Entry). l ++ more) (map-append entry_in old (c ∷ []))
    ∙ append_assoc (map entry_in old) (entry_in c ∷ []) more
    ∙ so
