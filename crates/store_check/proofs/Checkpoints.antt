-- The tables of a checkpoint.
use Rattle.std.proofs.Common.{◌≡◌, ℕ, ◌*◌, true, false, ◌&&◌, List, [], ◌∷◌, refl, sym, ap, subst, ◌∙◌, Less}
use Rattle.std.specs.Prelude.{bytes_eq}
use Rattle.std.specs.List.{AllByRecursion, list_all}
use Rattle.std.specs.Map.{keys_of}
use Rattle.std.specs.Ordering.{is_lt, match_ordering, nat_cmp}
use Rattle.std.specs.Cmp.Lexicographic.{nat_list_cmp_total, slice_cmp}
use Rattle.std.proofs.lemmas.Bool.{and_from, and_parts}
use Rattle.drda_words.specs.Order.{rises}
use Rattle.drda_words.specs.Place.{part}
use Rattle.row_values.specs.Schema.{Schema, is_name, is_schema}
use Rattle.row_values.specs.Row.{is_row}
use Rattle.row_values.specs.Key.{key_cmp, row_key}
use Rattle.row_pages.specs.Laying.{rows_over}
use Rattle.key_map.specs.Slots.{by_bytes}
use Rattle.key_map.specs.SortForm.{ValuesKeepOrder}
use Rattle.key_map.specs.RowForm.{RowsHaveTheirForms}
use Rattle.tables.specs.Tables.{Store, Table}
use Rattle.tables.specs.View.{is_entry, is_store, is_table}
use Rattle.tables.proofs.Finding.{itself}
use Rattle.checkpoint_writer.specs.Catalogue.{Entry}
use Rattle.store_check.specs.Checkpoint.{HasCheckpoint, at_keys, forms, store_on, table_on}
use Rattle.store_check.specs.Half.{AreTables, HalfPages, IsCatalogue, IsTable, OneWholeHalf, TableRows, entries_of}
use Rattle.store_check.specs.Listed.{entries_over, is_before, lie_from, names_rise}
use Rattle.store_check.proofs.Rising.{less_is}
use Rattle.store_check.proofs.Entries.{AreNamed, IsNamed, pages_named}
use Rattle.store_check.proofs.Framing.{half_framed}
use Rattle.store_check.proofs.KeyOrder.{keys_rise}

-- ---- names

before_next : (e f : Entry) (es : List Entry) → by_bytes e.name f.name ≡ Less → is_before f es ≡ true → is_before e es ≡ true
before_next e f [] less before = refl
before_next e f (g ∷ es) less before =
    ap (λ o. match_ordering o true false false) (nat_list_cmp_total.trans e.name f.name g.name less (less_is (by_bytes f.name g.name) before))

names_above : (e : Entry) (ts : List TableRows) → is_before e (entries_of ts) ≡ true → names_rise (entries_of ts) ≡ true → list_all (λ later. is_lt (by_bytes e.name later)) (keys_of (store_on ts)) ≡ true
names_above e [] before rise = refl
names_above e (t ∷ ts) before rise =
    let less = less_is (by_bytes e.name t.entry.name) before in
    let next = and_parts (is_before t.entry (entries_of ts)) (names_rise (entries_of ts)) rise in
    and_from (is_lt (by_bytes e.name t.entry.name)) (list_all (λ later. is_lt (by_bytes e.name later)) (keys_of (store_on ts))) (ap is_lt less)
    (names_above e ts (before_next e t.entry (entries_of ts) less next.0) next.1)

names_up : (ts : List TableRows) → names_rise (entries_of ts) ≡ true → rises (slice_cmp nat_cmp) (keys_of (store_on ts)) ≡ true
names_up [] rise = refl
names_up (t ∷ ts) rise =
    let next = and_parts (is_before t.entry (entries_of ts)) (names_rise (entries_of ts)) rise in
    and_from (list_all (λ later. is_lt (by_bytes t.entry.name later)) (keys_of (store_on ts))) (rises (slice_cmp nat_cmp) (keys_of (store_on ts)))
    (names_above t.entry ts next.0 next.1) (names_up ts next.1)

-- ---- tables

are_entries : (schema : Schema) (rows : List (List ℕ)) → AllByRecursion (λ row. is_row schema row ≡ true) rows → list_all (is_entry schema) (at_keys schema rows) ≡ true
are_entries schema [] fit = refl
are_entries schema (row ∷ rows) fit =
    and_from (is_entry schema (row_key schema row, row)) (list_all (is_entry schema) (at_keys schema rows))
    (and_from (is_row schema row) (bytes_eq (row_key schema row) (row_key schema row)) fit.0 (itself (row_key schema row))) (are_entries schema rows fit.1)

module _ (values : ValuesKeepOrder) (rows_form : RowsHaveTheirForms) (file : List ℕ) (at : ℕ) where
  a_table : (t : TableRows) → IsNamed t.entry → IsTable forms file at t → (is_name (table_on t).0 && is_table (table_on t).1) ≡ true
  a_table t named is =
      let schema = t.entry.schema in
      let rows = rows_over t.pages in
      let entries = list_all (is_entry schema) (at_keys schema rows) in
      let rise = rises (key_cmp schema) (keys_of (at_keys schema rows)) in
      and_from (is_name t.entry.name) (is_schema schema && entries && rise) named.name
      (and_from (is_schema schema && entries) rise (and_from (is_schema schema) entries named.schema (are_entries schema rows is.whole.fit))
      (keys_rise values rows_form schema named.schema rows is.whole.fit is.whole.order))

  are_tables : (ts : List TableRows) → AreNamed (entries_of ts) → AreTables forms file at ts → list_all (λ (e : List ℕ × Table). is_name e.0 && is_table e.1) (store_on ts) ≡ true
  are_tables [] named all = refl
  are_tables (t ∷ ts) named all =
      and_from (is_name (table_on t).0 && is_table (table_on t).1) (list_all (λ (e : List ℕ × Table). is_name e.0 && is_table e.1) (store_on ts))
      (a_table t named.0 all.0) (are_tables ts named.1 all.1)

catalogue_named : (file : List ℕ) (half : HalfPages) (es : List Entry) → IsCatalogue file half es → AreNamed es
catalogue_named file half es is = subst (λ (l : List Entry). AreNamed l) is.2 (pages_named file _ is.0 is.1.listed.stand)

catalogue_rises : (file : List ℕ) (half : HalfPages) (es : List Entry) → IsCatalogue file half es → names_rise es ≡ true
catalogue_rises file half es is =
    subst (λ (l : List Entry). names_rise l ≡ true) is.2 (and_parts (names_rise (entries_over is.0)) (lie_from 0 half.first_catalogue (entries_over is.0)) is.1.listed.listed).0

-- ---- checkpoints

pub is_store_there : ValuesKeepOrder → RowsHaveTheirForms → (image : List ℕ) (half : HalfPages) (store : Store) → HasCheckpoint image half store → is_store store ≡ true
is_store_there values rows_form image half store has =
    let ts = has.tables in
    ap is_store has.is
    ∙ and_from (list_all (λ (e : List ℕ × Table). is_name e.0 && is_table e.1) (store_on ts)) (rises (slice_cmp nat_cmp) (keys_of (store_on ts)))
    (are_tables values rows_form image half.at ts (catalogue_named image half (entries_of ts) has.whole.catalogue) has.whole.whole)
    (names_up ts (catalogue_rises image half (entries_of ts) has.whole.catalogue))

pub one_store : OneWholeHalf → (image : List ℕ) (half : HalfPages) (a b : Store) → HasCheckpoint image half a → HasCheckpoint image half b → a ≡ b
one_store law image half a b has other =
    has.is ∙ ap (λ (ts : List TableRows). store_on ts) (law forms image half has.tables other.tables has.whole other.whole) ∙ sym other.is

pub store_framed : (image other : List ℕ) (half : HalfPages) (store : Store) → part other half.at (8192 * half.count) ≡ part image half.at (8192 * half.count) → HasCheckpoint image half store → HasCheckpoint other half store
store_framed image other half store same has = record { tables = has.tables; whole = half_framed forms image other half same has.tables has.whole; is = has.is }

pub none_there : (image : List ℕ) (at : ℕ) → HasCheckpoint image (record { at = at; count = 0; first_catalogue = 0; catalogue_pages = 0 }) []
none_there image at = record {
  tables = [];
  whole = record { catalogue = ([], record { listed = record { stand = tt; listed = refl }; many = refl }, refl); whole = tt; behind = refl; last = refl };
  is = refl;
}
