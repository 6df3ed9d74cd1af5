-- Rows that pages have given and that were judged, with a table's changes among them, are rows of its schema in order.
use Rattle.std.proofs.Common.{◌≡◌, ℕ, List, [], ◌∷◌, ◌++◌, Bool, true, refl, sym, ap, subst, ◌∙◌, map, Option, Some, None, cond, Ordering, Less, Equal, Greater, inl, inr}
use Rattle.std.specs.Prelude.{Ok, Err, IfOk, IfSome, IsTrue, bytes_eq}
use Rattle.std.specs.Global.{Vec}
use Rattle.std.specs.List.{AllByRecursion, list_all}
use Rattle.std.specs.List.Sorted.{IsStrictlySortedBy}
use Rattle.std.specs.Map.{keys_of}
use Rattle.std.specs.Ordering.{is_eq, is_lt, match_ordering}
use Rattle.std.proofs.lemmas.Cmp.{nat_list_cmp_total, tied_itself}
use Rattle.std.proofs.lemmas.Map.Keys.{sorted_head, sorted_tail}
use Rattle.std.proofs.lemmas.Map.Lookups.{exact_bytes}
use Rattle.drda_words.specs.Order.{rises}
use Rattle.key_map.specs.Merging.{Changes, InOrder, Rows, changed, keyed, merged, over, row_at}
use Rattle.key_map.specs.Overlay.{changes_of}
use Rattle.key_map.specs.RowForm.{row_form}
use Rattle.key_map.specs.Slots.{by_bytes}
use Rattle.key_map.proofs.Merged.{merged_found, merged_order}
use Rattle.row_pages.specs.Judging.{do_rise}
use Rattle.row_values.specs.Schema.{Schema, is_schema}
use Rattle.row_values.specs.Row.{is_row}
use Rattle.row_values.specs.Key.{key_cmp, row_key}
use Rattle.row_values.proofs.ValueLaws.{both_true, first_true, second_true}
use Rattle.table_map.specs.Judged.{IsKnown, IsScanned, RiseByKeys}
use Rattle.table_map.specs.Keyed.{copied, keyed_rows}
use Rattle.table_map.proofs.Knowing.{Found, KnownSo}
use Rattle.table_map.specs.Table.{without_keys}
use Rattle.tables.specs.Tables.{is_row_at}
use Rattle.tables.proofs.Keeping.{less_is}
use Rattle.paged_tables.specs.Judged.{may_be_row}
use Rattle.paged_tables.specs.Laws.{RowsHaveForms}
use Rattle.paged_tables.specs.Stored.{HaveForms, IsFormOf, IsRowAt, IsStored, Stored, at_keys, rows_in}
use Rattle.paged_tables.proofs.FormLaws.{agree, alike}
use Rattle.paged_tables.proofs.Opened.{rises_good}

-- ---- rows that were judged

each_row : (p : List ℕ → Bool) (rows : List (List ℕ)) → list_all p rows ≡ true → AllByRecursion (λ row. p row ≡ true) rows
each_row p [] all = tt
each_row p (row ∷ rows) all = (first_true (p row) (list_all p rows) all, each_row p rows (second_true (p row) (list_all p rows) all))

module _ (schema : Schema) where
  abbrev form : List ℕ → List ℕ
  form = row_form schema

  above_by : (row : List ℕ) (rows : List (List ℕ)) → IsRowAt schema row (form row) → HaveForms schema (keyed_rows form rows) → list_all (λ later. is_lt (key_cmp schema (row_key schema row) later)) (map (row_key schema) rows) ≡ true
      → AllByRecursion (λ y. by_bytes (form row) y ≡ Less) (keys_of (keyed_rows form rows))
  above_by row [] one all up = tt
  above_by row (r ∷ rows) one all up =
      let R = key_cmp schema (row_key schema row) in
      let here = first_true (is_lt (R (row_key schema r))) (list_all (λ later. is_lt (R later)) (map (row_key schema) rows)) up in
      let more = second_true (is_lt (R (row_key schema r))) (list_all (λ later. is_lt (R later)) (map (row_key schema) rows)) up in
      (agree schema (row_key schema row) (row_key schema r) (form row) (form r) one.key all.0.key ∙ less_is (R (row_key schema r)) here, above_by row rows one all.1 more)

  up_by_forms : (rows : List (List ℕ)) → HaveForms schema (keyed_rows form rows) → rises (key_cmp schema) (map (row_key schema) rows) ≡ true → InOrder (keyed_rows form rows)
  unfolding IsStrictlySortedBy
  up_by_forms [] all up = tt
  up_by_forms (row ∷ rows) all up =
      let head = list_all (λ later. is_lt (key_cmp schema (row_key schema row) later)) (map (row_key schema) rows) in
      let tail = rises (key_cmp schema) (map (row_key schema) rows) in
      (above_by row rows all.0 all.1 (first_true head tail up), up_by_forms rows all.1 (second_true head tail up))

  -- their forms rise
  pub judged_rise : RowsHaveForms → is_schema schema ≡ true → RiseByKeys form schema
  judged_rise law good rows judged =
      let all = list_all (is_row schema) rows in
      let up = rises (key_cmp schema) (map (row_key schema) rows) in
      up_by_forms rows (law schema rows good judged.bytes (each_row (is_row schema) rows (first_true all up judged.rise))) (second_true all up judged.rise)

  -- ---- changes

  -- what is put at a key is a row of the schema there
  abbrev PutsRow : List ℕ → Option (List ℕ) → Type 0
  PutsRow key None = Unit {0}
  PutsRow key (Some row) = IsRowAt schema row key

  abbrev PutRows : Changes → Type 0
  PutRows changes = AllByRecursion (λ (c : List ℕ × Option (List ℕ)). PutsRow c.0 c.1) changes

  forms_keyed : (key : List ℕ) (r : Option (List ℕ)) (rows : Rows) → PutsRow key r → HaveForms schema rows → HaveForms schema (keyed key r ++ rows)
  forms_keyed key None rows one all = all
  forms_keyed key (Some row) rows one all = (one, all)

  forms_alone : (key : List ℕ) (r : Option (List ℕ)) → PutsRow key r → HaveForms schema (keyed key r)
  forms_alone key None one = tt
  forms_alone key (Some row) one = (one, tt)

  forms_by : (o : Ordering) (key : List ℕ) (r : Option (List ℕ)) (e : List ℕ × List ℕ) (es rest : Rows) → PutsRow key r → HaveForms schema (e ∷ es) → HaveForms schema rest
      → HaveForms schema (match_ordering o (keyed key r ++ (e ∷ es)) (keyed key r ++ es) (e ∷ rest))
  forms_by Less key r e es rest one all more = forms_keyed key r (e ∷ es) one all
  forms_by Equal key r e es rest one all more = forms_keyed key r es one all.1
  forms_by Greater key r e es rest one all more = (all.0, more)

  forms_changed : (key : List ℕ) (r : Option (List ℕ)) (rows : Rows) → PutsRow key r → HaveForms schema rows → HaveForms schema (changed rows key r)
  forms_changed key r [] one all = forms_alone key r one
  forms_changed key r (e ∷ es) one all = forms_by (by_bytes key e.0) key r e es (changed es key r) one all (forms_changed key r es one all.1)

  forms_merged : (rows : Rows) (changes : Changes) → HaveForms schema rows → PutRows changes → HaveForms schema (merged rows changes)
  forms_merged rows [] all put = all
  forms_merged rows (c ∷ cs) all put = forms_changed c.0 c.1 (merged rows cs) put.0 (forms_merged rows cs all put.1)

  -- a row that is found stands at its form
  found_by : (q : List ℕ) (e : List ℕ × List ℕ) (row : List ℕ) (o : Ordering) (rest : Option (List ℕ)) → by_bytes q e.0 ≡ o → IsRowAt schema e.1 e.0 → (rest ≡ Some row → IsRowAt schema row q) → cond (is_eq o) (Some e.1) rest ≡ Some row → IsRowAt schema row q
  found_by q e row Less rest is one more found = more found
  found_by q e row Greater rest is one more found = more found
  found_by q e row Equal rest is one more found =
      let same : e.1 ≡ row = cc in
      subst (λ (x : List ℕ). IsRowAt schema x q) same (subst (λ (k : List ℕ). IsRowAt schema e.1 k) (sym (exact_bytes q e.0 is)) one)

  found_form : (q : List ℕ) (rows : Rows) (row : List ℕ) → HaveForms schema rows → row_at q rows ≡ Some row → IsRowAt schema row q
  found_form q [] row all found = absurd cc
  found_form q (e ∷ es) row all found = found_by q e row (by_bytes q e.0) (row_at q es) refl all.0 (found_form q es row all.1) found

-- ---- each change is found

module _ (P : List ℕ → Option (List ℕ) → Type 0) where
  apart : (q : List ℕ) (c : List ℕ × Option (List ℕ)) (v : Option (List ℕ)) (cs : Changes) (o : Ordering) → by_bytes q c.0 ≡ o → AllByRecursion (λ y. by_bytes c.0 y ≡ Less) (keys_of cs) → row_at q cs ≡ Some v → cond (is_eq o) (Some c.1) (row_at q cs) ≡ Some v
  apart q c v cs Less is above found = found
  apart q c v cs Greater is above found = found
  apart q c v [] Equal is above found = absurd cc
  apart q c v (d ∷ ds) Equal is above found =
      absurd (never (d ∷ ds) (subst (λ (k : List ℕ). AllByRecursion (λ y. by_bytes k y ≡ Less) (keys_of (d ∷ ds))) (sym (exact_bytes q c.0 is)) above) found)
    where
      never : (es : Changes) → AllByRecursion (λ y. by_bytes q y ≡ Less) (keys_of es) → row_at q es ≡ Some v → ⊥
      never [] above found = cc
      never (e ∷ es) above found = never es above.1 (sym (ap (λ (p : Ordering). cond (is_eq p) (Some e.1) (row_at q es)) above.0) ∙ found)

  all_found : (changes : Changes) → InOrder changes → ((q : List ℕ) (v : Option (List ℕ)) → row_at q changes ≡ Some v → P q v) → AllByRecursion (λ (c : List ℕ × Option (List ℕ)). P c.0 c.1) changes
  all_found [] up found = tt
  all_found (c ∷ cs) up found = (
    found c.0 c.1 (ap (λ (o : Ordering). cond (is_eq o) (Some c.1) (row_at c.0 cs)) (tied_itself nat_list_cmp_total c.0)),
    all_found cs (sorted_tail by_bytes c.0 (keys_of cs) up)
        (λ q v there. found q v (apart q c v cs (by_bytes q c.0) refl (sorted_head by_bytes c.0 (keys_of cs) up) there)),
  )

-- ---- a table

-- what is put in a table is a row of its schema
changes_put : (t : Stored) → IsStored t → InOrder (changes_of t.changes) → PutRows t.schema (changes_of t.changes)
changes_put t is up =
    all_found (PutsRow t.schema) (changes_of t.changes) up
    (λ q v found. puts q v (merged_found q t.base (changes_of t.changes) is.order ∙ ap (λ w. over w (row_at q t.base)) found))
  where
    puts : (q : List ℕ) (v : Option (List ℕ)) → row_at q (rows_in t) ≡ v → PutsRow t.schema q v
    puts q None found = tt
    puts q (Some row) found = found_form t.schema q (rows_in t) row is.forms found

keys_are : (schema : Schema) (rows : Rows) → keys_of (at_keys schema rows) ≡ map (row_key schema) (without_keys rows)
keys_are schema [] = refl
keys_are schema (e ∷ rows) = ap (λ l. row_key schema e.1 ∷ l) (keys_are schema rows)

all_good : (schema : Schema) (rows : Rows) → HaveForms schema rows → list_all (is_row schema) (without_keys rows) ≡ true
all_good schema [] all = refl
all_good schema (e ∷ rows) all = both_true (is_row schema e.1) (list_all (is_row schema) (without_keys rows)) all.0.good (all_good schema rows all.1)

rows_rise : (schema : Schema) (rows : Rows) → HaveForms schema rows → InOrder rows → do_rise schema (without_keys rows) ≡ true
rows_rise schema rows all up =
    both_true (list_all (is_row schema) (without_keys rows)) (rises (key_cmp schema) (map (row_key schema) (without_keys rows)))
    (all_good schema rows all) (ap (rises (key_cmp schema)) (sym (keys_are schema rows)) ∙ rises_good schema rows all up)

-- what is scanned of pages that were judged is rows of the table's schema in order
pub scanned_rise : RowsHaveForms → (t : Stored) → IsStored t → is_schema t.schema ≡ true → (rows : List (List ℕ)) → IsScanned (row_form t.schema) t.schema (changes_of t.changes) [] rows → do_rise t.schema rows ≡ true
scanned_rise law t is good rows so =
    let form = row_form t.schema in
    let base = keyed_rows form so.base in
    let all = law t.schema so.base good so.bytes (each_row (is_row t.schema) so.base so.rows) in
    let merged_all = forms_merged t.schema base (changes_of t.changes) all (changes_put t is so.rising) in
    ap (do_rise t.schema) so.same ∙ rows_rise t.schema (merged base (changes_of t.changes)) merged_all (merged_order base (changes_of t.changes) so.order)

-- ---- one row

-- what is known of a row that was found: it stands at its form
pub known_row : RowsHaveForms → (t : Stored) → IsStored t → is_schema t.schema ≡ true → (q row : List ℕ) → IsKnown (row_form t.schema) t.schema q (changes_of t.changes) row → IsRowAt t.schema row q
known_row law t is good q row (inl put) =
    found_form t.schema q (rows_in t) row is.forms (merged_found q t.base (changes_of t.changes) is.order ∙ ap (λ w. over w (row_at q t.base)) put)
known_row law t is good q row (inr of) =
    subst (λ (f : List ℕ). IsRowAt t.schema row f) (sym (exact_bytes q (row_form t.schema row) of.same)) (law t.schema (row ∷ []) good (of.bytes, tt) (of.good, tt)).0

-- and so is the one at the key of that form
row_may : (schema : Schema) (key form : List ℕ) → IsFormOf schema key form → (row : List ℕ) → IsRowAt schema row form → is_row_at (Some schema) row key ≡ true
row_may schema key form one row at =
    both_true (is_row schema row) (bytes_eq key (row_key schema row)) at.good
    (sym (alike schema key (row_key schema row) form form one at.key) ∙ ap is_eq (tied_itself nat_list_cmp_total form))

-- ---- where it was found

some_may : (schema : Schema) (key form : List ℕ) → IsFormOf schema key form → (o : Option (Vec ℕ)) → IfSome o (λ row. IsRowAt schema row.items form) → may_be_row (Some schema) (copied o) key ≡ true
some_may schema key form one None is = refl
some_may schema key form one (Some row) is = row_may schema key form one row.items is

pub known_may : (schema : Schema) (key form : List ℕ) → IsFormOf schema key form → (found : Found) → KnownSo (λ row. IsRowAt schema row form) found → IfOk found (λ f. IsTrue f.is_judged → may_be_row (Some schema) (copied f.row) key ≡ true)
known_may schema key form one (Ok x) is = λ judged. some_may schema key form one x.row (is judged)
known_may schema key form one (Err e) is = tt
