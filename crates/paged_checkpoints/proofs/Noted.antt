-- Tables whose rows were noted.
use Rattle.std.proofs.Common.{◌≡◌, ℕ, true, List, [], ◌∷◌, map, refl, ap, ap₂, ◌∙◌}
use Rattle.std.specs.List.{AllByRecursion}
use Rattle.row_values.specs.Schema.{Schema, is_schema}
use Rattle.row_values.specs.Key.{row_key}
use Rattle.key_map.specs.RowForm.{row_form}
use Rattle.table_map.specs.Keyed.{keyed_rows}
use Rattle.table_map.specs.Stored.{Places}
use Rattle.tables.specs.Tables.{Store, Table}
use Rattle.checkpoint_writer.specs.Catalogue.{Entry, entry_of}
use Rattle.store_check.specs.Checkpoint.{at_keys, forms, store_on, table_on}
use Rattle.store_check.specs.Half.{AreTables, IsTable, TableRows, noted_in, placed, rows_in, told_of}
use Rattle.store_check.specs.Whole.{AreRows, WholeIsStored}
use Rattle.store_check.specs.declared.half.CheckedTable.{CheckedTable}
use Rattle.store_check.proofs.ReadBack.{stored_there}
use Rattle.paged_tables.specs.Laws.{RowsHaveForms}
use Rattle.paged_tables.specs.Stored.{AreRowsOf}
use Rattle.paged_tables.specs.Stored.{at_keys as at_their_keys}
use Rattle.paged_checkpoints.specs.Opening.{StandsIn, noted_table}

-- ---- rows at their forms

pub are_rows_of : RowsHaveForms → (schema : Schema) (rows : List (List ℕ)) → is_schema schema ≡ true → AreRows schema (forms schema) rows → AreRowsOf schema rows
are_rows_of law schema rows good are = record { forms = law schema rows good are.bytes are.fit; order = are.order }

-- ---- the tables that they make

at_their_keys_are : (schema : Schema) (rows : List (List ℕ)) → at_their_keys schema (keyed_rows (row_form schema) rows) ≡ at_keys schema rows
at_their_keys_are schema [] = refl
at_their_keys_are schema (row ∷ rows) = ap (λ (l : List (List ℕ × List ℕ)). (row_key schema row, row) ∷ l) (at_their_keys_are schema rows)

abbrev plain : Entry → List (List ℕ) → List ℕ × Table
plain e rows = (e.name, record { schema = e.schema; rows = at_keys e.schema rows })

noted_is : (c : CheckedTable) → noted_table c ≡ plain (entry_of c.table) (noted_in c)
noted_is c = ap (λ (rows : List (List ℕ × List ℕ)). ((entry_of c.table).name, record { schema = c.table.schema; rows = rows })) (at_their_keys_are c.table.schema (noted_in c))

one_same : (first : ℕ) (c : CheckedTable) (t : TableRows) → told_of c ≡ placed forms first t → noted_in c ≡ rows_in t → noted_table c ≡ table_on t
one_same first c t told noted = noted_is c ∙ ap₂ plain (ap (λ (p : Entry × Places). p.0) told) noted

pub all_same : (first : ℕ) (cs : List CheckedTable) (ts : List TableRows) → map told_of cs ≡ map (placed forms first) ts → map noted_in cs ≡ map rows_in ts → map noted_table cs ≡ store_on ts
all_same first [] [] told noted = refl
all_same first [] (t ∷ ts) told noted = absurd cc
all_same first (c ∷ cs) [] told noted = absurd cc
all_same first (c ∷ cs) (t ∷ ts) told noted =
    let told_head : told_of c ≡ placed forms first t = cc in
    let told_tail : map told_of cs ≡ map (placed forms first) ts = cc in
    let noted_head : noted_in c ≡ rows_in t = cc in
    let noted_tail : map noted_in cs ≡ map rows_in ts = cc in
    ap₂ (λ (e : List ℕ × Table) (l : Store). e ∷ l) (one_same first c t told_head noted_head) (all_same first cs ts told_tail noted_tail)

-- ---- and their pages

one_stands : WholeIsStored → (file : List ℕ) (first : ℕ) (c : CheckedTable) (t : TableRows) → told_of c ≡ placed forms first t → noted_in c ≡ rows_in t → IsTable forms file first t → StandsIn file c
one_stands law file first c t told noted is = record {
  pages = t.pages;
  stand = stored_there law file first c t told is;
  rows = ap (λ (rows : List (List ℕ)). keyed_rows (row_form c.table.schema) rows) noted;
}

pub all_stand : WholeIsStored → (file : List ℕ) (first : ℕ) (cs : List CheckedTable) (ts : List TableRows) → map told_of cs ≡ map (placed forms first) ts → map noted_in cs ≡ map rows_in ts → AreTables forms file first ts → AllByRecursion (StandsIn file) cs
all_stand law file first [] ts told noted is = tt
all_stand law file first (c ∷ cs) [] told noted is = absurd cc
all_stand law file first (c ∷ cs) (t ∷ ts) told noted is =
    let told_head : told_of c ≡ placed forms first t = cc in
    let told_tail : map told_of cs ≡ map (placed forms first) ts = cc in
    let noted_head : noted_in c ≡ rows_in t = cc in
    let noted_tail : map noted_in cs ≡ map rows_in ts = cc in
    (one_stands law file first c t told_head noted_head is.0, all_stand law file first cs ts told_tail noted_tail is.1)
