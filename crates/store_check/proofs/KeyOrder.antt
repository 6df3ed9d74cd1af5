-- Rows whose forms rise have rising keys.
use Rattle.std.proofs.Common.{◌≡◌, ℕ, ℤ, pos, negsuc, Bool, true, false, ◌&&◌, List, [], ◌∷◌, Option, Some, None, refl, sym, ap, ◌∙◌, Less, if◌then◌else◌, option_map, arith}
use Rattle.std.specs.Prelude.{int_le, is_none, unwrap_or}
use Rattle.std.specs.List.{AllByRecursion, list_all}
use Rattle.std.specs.List.Sorted.{IsStrictlySortedBy}
use Rattle.std.specs.Map.{keys_of}
use Rattle.std.specs.Ordering.{is_lt, nat_cmp, ordering_then}
use Rattle.std.specs.Cmp.Lexicographic.{slice_cmp}
use Rattle.std.proofs.lemmas.Bool.{and_from, and_parts}
use Rattle.std.proofs.lemmas.Bool.Decides.{nat_tests}
use Rattle.std.proofs.lemmas.Int.{ints}
use Rattle.drda_words.specs.Order.{rises}
use Rattle.row_values.specs.declared.column.Kind.{Kind}
use Rattle.row_values.specs.declared.column.Kind.TheVariants.{SmallInt, Integer, BigInt, VarChar, VarBinary}
use Rattle.row_values.specs.declared.column.Misfit.{Misfit}
use Rattle.row_values.specs.Value.{Value, null, number, text, binary}
use Rattle.row_values.specs.Column.{Column, fits, misfit_in, within}
use Rattle.row_values.specs.Schema.{Schema, is_schema, key_columns}
use Rattle.row_values.specs.Row.{is_row, typed_value_at, value_at, values_at}
use Rattle.row_values.specs.Key.{key_cmp, key_values, row_key}
use Rattle.row_values.proofs.ValueLaws.{chained, kept, mapped}
use Rattle.key_map.specs.Slots.{by_bytes}
use Rattle.key_map.specs.SortForm.{ValuesKeepOrder, is_sortable, sort_form}
use Rattle.key_map.specs.Merging.{Above, InOrder}
use Rattle.key_map.specs.RowForm.{RowsHaveTheirForms, row_form}
use Rattle.table_map.specs.Keyed.{keyed_rows}
use Rattle.store_check.specs.Checkpoint.{at_keys}

-- ---- values that are read lie in BIGINT

within_so : (b : Bool) (m : Misfit) → is_none (within b m) ≡ true → b ≡ true
within_so true m h = refl
within_so false m h = absurd cc

number_sorts : (k : Kind) (limit : ℕ) (n : ℤ) → is_none (misfit_in k limit (number n)) ≡ true → is_sortable (number n) ≡ true
number_sorts SmallInt limit n h = let range = within_so (int_le (negsuc 32767) n && int_le n (pos 32767)) _ h in grind (arith, ints, nat_tests)
number_sorts Integer limit n h = let range = within_so (int_le (negsuc 2147483647) n && int_le n (pos 2147483647)) _ h in grind (arith, ints, nat_tests)
number_sorts BigInt limit n h = within_so _ _ h
number_sorts VarChar limit n h = absurd cc
number_sorts VarBinary limit n h = absurd cc

fit_sorts : (c : Column) (v : Value) → fits c v ≡ true → is_sortable v ≡ true
fit_sorts c null h = refl
fit_sorts c (number n) h = number_sorts c.kind c.limit n (and_parts (is_none (misfit_in c.kind c.limit (number n))) true h).0
fit_sorts c (text bytes) h = refl
fit_sorts c (binary bytes) h = refl

value_sorts : (c : Column) (bytes : List ℕ) (x : Value × List ℕ) → value_at c bytes ≡ Some x → is_sortable x.0 ≡ true
unfolding value_at
value_sorts c bytes x is =
    let read = chained (λ (y : Value × List ℕ). if fits c y.0 then Some y else None) (typed_value_at c.kind bytes) x is in
    let found = kept (fits c read.0.0) read.0 x read.2 in
    ap (λ (y : Value × List ℕ). is_sortable y.0) (sym found.1) ∙ fit_sorts c read.0.0 found.0

values_sort : (cs : List Column) (bytes : List ℕ) (values : List Value) → values_at cs bytes ≡ Some values → list_all is_sortable values ≡ true
values_sort [] [] values is = let none : [] ≡ values = cc in ap (λ (vs : List Value). list_all is_sortable vs) (sym none)
values_sort [] (b ∷ bs) values is = absurd cc
values_sort (c ∷ cs) bytes values is =
    let first = chained (λ (x : Value × List ℕ). option_map (λ (vs : List Value). x.0 ∷ vs) (values_at cs x.1)) (value_at c bytes) values is in
    let rest = mapped (λ (vs : List Value). first.0.0 ∷ vs) (values_at cs first.0.1) values first.2 in
    ap (λ (vs : List Value). list_all is_sortable vs) (sym rest.2)
    ∙ and_from (is_sortable first.0.0) (list_all is_sortable rest.0) (value_sorts c bytes first.0 first.1) (values_sort cs first.0.1 rest.0 rest.1)

key_sorts : (schema : Schema) (key : List ℕ) → list_all is_sortable (key_values schema key) ≡ true
key_sorts schema key = by (values_at (key_columns schema) key) refl
  where
    by : (o : Option (List Value)) → values_at (key_columns schema) key ≡ o → list_all is_sortable (unwrap_or o []) ≡ true
    by None is = refl
    by (Some values) is = values_sort (key_columns schema) key values is

-- ---- rows in the order of their forms

module _ (values : ValuesKeepOrder) (rows_form : RowsHaveTheirForms) (schema : Schema) (good : is_schema schema ≡ true) where
  less_kept : (a b : List ℕ) → by_bytes (sort_form schema a) (sort_form schema b) ≡ Less → key_cmp schema a b ≡ Less
  less_kept a b less =
      ap (λ o. ordering_then o (slice_cmp nat_cmp a b)) (sym (values (key_values schema a) (key_values schema b) (key_sorts schema a) (key_sorts schema b)) ∙ less)

  row_less : (a b : List ℕ) → is_row schema a ≡ true → is_row schema b ≡ true → by_bytes (row_form schema a) (row_form schema b) ≡ Less → key_cmp schema (row_key schema a) (row_key schema b) ≡ Less
  row_less a b is other less =
      less_kept (row_key schema a) (row_key schema b)
      (ap (λ (f : List ℕ). by_bytes f (sort_form schema (row_key schema b))) (sym (rows_form schema a good is)) ∙ ap (λ (f : List ℕ). by_bytes (row_form schema a) f) (sym (rows_form schema b good other)) ∙ less)

  key_above : (row : List ℕ) (rows : List (List ℕ)) → is_row schema row ≡ true → AllByRecursion (λ r. is_row schema r ≡ true) rows → Above (row_form schema row) (keyed_rows (row_form schema) rows)
      → list_all (λ later. is_lt (key_cmp schema (row_key schema row) later)) (keys_of (at_keys schema rows)) ≡ true
  key_above row [] is fit up = refl
  key_above row (r ∷ rows) is fit up =
      and_from (is_lt (key_cmp schema (row_key schema row) (row_key schema r))) (list_all (λ later. is_lt (key_cmp schema (row_key schema row) later)) (keys_of (at_keys schema rows)))
      (ap is_lt (row_less row r is fit.0 up.0)) (key_above row rows is fit.1 up.1)

  pub keys_rise : (rows : List (List ℕ)) → AllByRecursion (λ r. is_row schema r ≡ true) rows → InOrder (keyed_rows (row_form schema) rows) → rises (key_cmp schema) (keys_of (at_keys schema rows)) ≡ true
  unfolding IsStrictlySortedBy
  keys_rise [] fit order = refl
  keys_rise (row ∷ rows) fit order =
      and_from (list_all (λ later. is_lt (key_cmp schema (row_key schema row) later)) (keys_of (at_keys schema rows))) (rises (key_cmp schema) (keys_of (at_keys schema rows)))
      (key_above row rows fit.0 fit.1 order.0) (keys_rise rows fit.1 order.1)
