-- The statements of a dump make its store.
use Rattle.std.proofs.Common.{◌≡◌, ◌≢◌, ℕ, zero, suc, ◌+◌, ◌*◌, ◌≤◌, ◌<◌, Bool, true, false, cond, ◌&&◌, List, [], ◌∷◌, ◌++◌, length, map, Option, Some, None, Ordering, Greater, refl, sym, ap, ◌∙◌, subst, arith, append_assoc}
use Rattle.std.specs.Prelude.{bytes_eq, is_some, ◌==◌, if◌then◌else◌}
use Rattle.std.specs.Option.{option_and_then}
use Rattle.std.specs.List.{AllByRecursion, flat_map, list_all}
use Rattle.std.specs.Map.{keys_of, values_of}
use Rattle.std.specs.Ordering.{is_lt, match_ordering, nat_cmp, ordering_reverse}
use Rattle.std.specs.Cmp.Lexicographic.{slice_cmp}
use Rattle.std.specs.BTreeMap.{insert_entry}
use Rattle.std.proofs.lemmas.Bool.Decides.{nat_tests}
use Rattle.std.proofs.lemmas.Cmp.{nat_list_cmp_total}
use Rattle.std.proofs.lemmas.List.{append-nil, length-append}
use Rattle.drda_words.specs.Bytes.{AreBytes}
use Rattle.drda_words.specs.Order.{rises}
use Rattle.row_values.specs.Key.{key_cmp, row_key}
use Rattle.row_values.specs.Row.{is_row, values_in}
use Rattle.row_values.specs.Schema.{Schema, is_name, is_schema}
use Rattle.row_values.proofs.KeyOrder.{key_cmp_total}
use Rattle.row_values.proofs.ValueLaws.{both_true, first_true, second_true}
use Rattle.tables.specs.Applied.{apply_all}
use Rattle.tables.specs.Change.{Change, create, put, change_bytes}
use Rattle.tables.specs.Tables.{Store, Table, apply, put_row, rows_of, table_of, with_table}
use Rattle.tables.specs.View.{is_entry, is_store, is_table}
use Rattle.tables.proofs.Changes.{keys_apart, names_apart}
use Rattle.tables.proofs.Finding.{itself, same_bytes, told_apart}
use Rattle.tables.proofs.Keeping.{before_all, less_is, named_table, parts}
use Rattle.sql_semantics.specs.Meaning.{meaning}
use Rattle.sql_spelling.specs.Meant.{inserted}
use Rattle.sql_spelling.proofs.Refusing.{Each}
use Rattle.restored_dumps.specs.Restoring.{At, DumpsRestore, HaveBytes, Line, Make, Put, Commit, asked, begun, done, left_in, seen, last_lines, lines_of, row_lines, table_lines}
use Rattle.restored_dumps.proofs.Asked.{put_short, row_put, row_short, table_made}

-- ---- a table behind those whose names come before

abbrev comes_last : List ℕ → Store → Bool
comes_last name s = list_all (λ (e : List ℕ × Table). is_lt (slice_cmp nat_cmp e.0 name)) s

after : (a b : List ℕ) → is_lt (slice_cmp nat_cmp a b) ≡ true → slice_cmp nat_cmp b a ≡ Greater
after a b h = nat_list_cmp_total.antisymm b a ∙ ap ordering_reverse (less_is (slice_cmp nat_cmp a b) h)

apart : (a b : List ℕ) → is_lt (slice_cmp nat_cmp a b) ≡ true → bytes_eq b a ≡ false
apart a b h = told_apart (slice_cmp nat_cmp) names_apart b a Greater (after a b h) (λ same. cc)

insert_last : (name : List ℕ) (t : Table) (s : Store) → comes_last name s ≡ true → insert_entry (slice_cmp nat_cmp) s name t ≡ s ++ (name, t) ∷ []
insert_last name t [] h = refl
insert_last name t (e ∷ es) h =
    ap (λ (o : Ordering). match_ordering o ((name, t) ∷ e ∷ es) ((e.0, t) ∷ es) (e ∷ insert_entry (slice_cmp nat_cmp) es name t)) (after e.0 name (first_true _ _ h))
    ∙ ap (λ (s : Store). e ∷ s) (insert_last name t es (second_true _ _ h))

not_there : (name : List ℕ) (s : Store) → comes_last name s ≡ true → table_of s name ≡ None
not_there name [] h = refl
not_there name (e ∷ es) h = ap (λ (b : Bool). cond b (Some e.1) (table_of es name)) (apart e.0 name (first_true _ _ h)) ∙ not_there name es (second_true _ _ h)

last_found : (name : List ℕ) (t : Table) (s : Store) → comes_last name s ≡ true → table_of (s ++ (name, t) ∷ []) name ≡ Some t
last_found name t [] h = ap (λ (b : Bool). cond b (Some t) None) (itself name)
last_found name t (e ∷ es) h = ap (λ (b : Bool). cond b (Some e.1) (table_of (es ++ (name, t) ∷ []) name)) (apart e.0 name (first_true _ _ h)) ∙ last_found name t es (second_true _ _ h)

last_changed : (f : Table → Table) (name : List ℕ) (t : Table) (s : Store) → comes_last name s ≡ true → with_table f name (s ++ (name, t) ∷ []) ≡ s ++ (name, f t) ∷ []
last_changed f name t [] h = ap (λ (b : Bool). if b then (name, f t) ∷ [] else (name, t) ∷ []) (itself name)
last_changed f name t (e ∷ es) h =
    let more : Store = es ++ (name, t) ∷ [] in
    ap (λ (b : Bool). if b then (e.0, f e.1) ∷ more else e ∷ with_table f name more) (apart e.0 name (first_true _ _ h))
    ∙ ap (λ (s : Store). e ∷ s) (last_changed f name t es (second_true _ _ h))

all_middle : {A : Type 0} (p : A → Bool) (xs : List A) (y : A) (ys : List A) → list_all p (xs ++ y ∷ ys) ≡ true → p y ≡ true
all_middle p [] y ys h = first_true _ _ h
all_middle p (x ∷ xs) y ys h = all_middle p xs y ys (second_true _ _ h)

-- ---- a row behind those whose keys come before

module _ (schema : Schema) where
  Entry : Type 0
  Entry = List ℕ × List ℕ

  abbrev ends : List ℕ → List (List ℕ × List ℕ) → Bool
  ends key es = list_all (λ (e : List ℕ × List ℕ). is_lt (key_cmp schema e.0 key)) es

  key_after : (a b : List ℕ) → is_lt (key_cmp schema a b) ≡ true → key_cmp schema b a ≡ Greater
  key_after a b h = (key_cmp_total schema).antisymm b a ∙ ap ordering_reverse (less_is (key_cmp schema a b) h)

  key_apart : (a b : List ℕ) → is_lt (key_cmp schema a b) ≡ true → bytes_eq b a ≡ false
  key_apart a b h = told_apart (key_cmp schema) (keys_apart schema) b a Greater (key_after a b h) (λ same. cc)

  insert_end : (k v : List ℕ) (es : List (List ℕ × List ℕ)) → ends k es ≡ true → insert_entry (key_cmp schema) es k v ≡ es ++ (k, v) ∷ []
  insert_end k v [] h = refl
  insert_end k v (e ∷ es) h =
      ap (λ (o : Ordering). match_ordering o ((k, v) ∷ e ∷ es) ((e.0, v) ∷ es) (e ∷ insert_entry (key_cmp schema) es k v)) (key_after e.0 k (first_true _ _ h))
      ∙ ap (λ (s : List (List ℕ × List ℕ)). e ∷ s) (insert_end k v es (second_true _ _ h))

  key_of : (e : List ℕ × List ℕ) → is_entry schema e ≡ true → e.0 ≡ row_key schema e.1
  key_of e good = same_bytes e.0 (row_key schema e.1) (second_true _ _ good)

  put_end : (e : List ℕ × List ℕ) (es : List (List ℕ × List ℕ)) → is_entry schema e ≡ true → ends e.0 es ≡ true → put_row e.1 (record { schema = schema; rows = es }) ≡ record { schema = schema; rows = es ++ e ∷ [] }
  put_end e es good before =
      let old : Table = record { schema = schema; rows = es } in
      ap (λ (b : Bool). if b then record { schema = schema; rows = insert_entry (key_cmp schema) es (row_key schema e.1) e.1 } else old) (first_true _ _ good)
      ∙ ap (λ (k : List ℕ). record { schema = schema; rows = insert_entry (key_cmp schema) es k e.1 }) (sym (key_of e good))
      ∙ ap (λ (rows : List (List ℕ × List ℕ)). record { schema = schema; rows = rows }) (insert_end e.0 e.1 es before)

  -- no row in front has its key
  none_has : (e : List ℕ × List ℕ) (es : List (List ℕ × List ℕ)) → is_entry schema e ≡ true → list_all (is_entry schema) es ≡ true → ends e.0 es ≡ true → Each (λ r. bytes_eq (row_key schema e.1) (row_key schema r) ≡ false) (values_of es)
  none_has e [] good all before = tt
  none_has e (d ∷ ds) good all before =
      let here = key_apart d.0 e.0 (first_true _ _ before) in
      (ap (λ u. bytes_eq u (row_key schema d.1)) (sym (key_of e good)) ∙ ap (λ u. bytes_eq e.0 u) (sym (key_of d (first_true _ _ all))) ∙ here, none_has e ds good (second_true _ _ all) (second_true _ _ before))

  before_middle : (k : List ℕ) (ds : List (List ℕ × List ℕ)) (e : List ℕ × List ℕ) (es : List (List ℕ × List ℕ)) → before_all (key_cmp schema) k (keys_of (ds ++ e ∷ es)) ≡ true → is_lt (key_cmp schema k e.0) ≡ true
  before_middle k [] e es h = first_true _ _ h
  before_middle k (d ∷ ds) e es h = before_middle k ds e es (second_true _ _ h)

  end_of : (ds : List (List ℕ × List ℕ)) (e : List ℕ × List ℕ) (es : List (List ℕ × List ℕ)) → rises (key_cmp schema) (keys_of (ds ++ e ∷ es)) ≡ true → ends e.0 ds ≡ true
  end_of [] e es h = refl
  end_of (d ∷ ds) e es h = both_true _ _ (before_middle d.0 ds e es (first_true _ _ h)) (end_of ds e es (second_true _ _ h))

  all_front : {A : Type 0} (p : A → Bool) (xs ys : List A) → list_all p (xs ++ ys) ≡ true → list_all p xs ≡ true
  all_front p [] ys h = refl
  all_front p (x ∷ xs) ys h = both_true _ _ (first_true _ _ h) (all_front p xs ys (second_true _ _ h))

before_name : (k : List ℕ) (ds : Store) (e : List ℕ × Table) (es : Store) → before_all (slice_cmp nat_cmp) k (keys_of (ds ++ e ∷ es)) ≡ true → is_lt (slice_cmp nat_cmp k e.0) ≡ true
before_name k [] e es h = first_true _ _ h
before_name k (d ∷ ds) e es h = before_name k ds e es (second_true _ _ h)

last_of : (ds : Store) (e : List ℕ × Table) (es : Store) → rises (slice_cmp nat_cmp) (keys_of (ds ++ e ∷ es)) ≡ true → comes_last e.0 ds ≡ true
last_of [] e es h = refl
last_of (d ∷ ds) e es h = both_true _ _ (before_name d.0 ds e es (first_true _ _ h)) (last_of ds e es (second_true _ _ h))

-- ---- changes

after_all : (xs ys : List Change) (s : Store) → apply_all (xs ++ ys) s ≡ apply_all ys (apply_all xs s)
after_all [] ys s = refl
after_all (x ∷ xs) ys s = after_all xs ys (apply x s)

bytes_more : (xs : List Change) (x : Change) → length (flat_map change_bytes (xs ++ x ∷ [])) ≡ length (flat_map change_bytes xs) + length (change_bytes x)
bytes_more [] x = omega (arith, ap length (append-nil (change_bytes x)))
bytes_more (y ∷ ys) x = omega (arith, bytes_more ys x, length-append (change_bytes y) (flat_map change_bytes (ys ++ x ∷ [])), length-append (change_bytes y) (flat_map change_bytes ys))

-- a unit with so many rows since its last COMMIT sees these tables
record IsAt (at : At) (n : ℕ) (s : Store) : Type 0 where
  sees : seen at ≡ s
  small : length (flat_map change_bytes at.changes) ≤ n * 4034
  none : n ≡ 0 → at ≡ begun s

is_begun : (s : Store) → IsAt (begun s) 0 s
is_begun s = record { sees = refl; small = omega arith; none = λ _. refl }

-- ---- lines

module _ (name : List ℕ) (schema : Schema) (before : Store) (is : is_name name ≡ true) (good : is_schema schema ≡ true) (last : comes_last name before ≡ true) where
  -- the tables in front, and this one with these rows
  abbrev with_rows : List (List ℕ × List ℕ) → Store
  with_rows rows = before ++ (name, record { schema = schema; rows = rows }) ∷ []

  -- one row more
  abbrev more : At → List ℕ → At
  more at row = record { store = at.store; changes = at.changes ++ put name row ∷ [] }

  one_row : (at : At) (n : ℕ) (front : List (List ℕ × List ℕ)) (e : List ℕ × List ℕ) (rest : List (List ℕ × List ℕ)) (lines : List Line) → n < 256 → IsAt at n (with_rows front)
      → list_all (is_entry schema) (front ++ e ∷ rest) ≡ true → rises (key_cmp schema) (keys_of (front ++ e ∷ rest)) ≡ true → AreBytes e.1
      → asked (Put name schema e.1 ∷ lines) at ≡ asked lines (more at e.1)
  one_row at n front e rest lines few here all up bytes =
      let entry = all_middle (is_entry schema) front e rest all in
      let before' = end_of schema front e rest up in
      let t : Table = record { schema = schema; rows = front } in
      let found = last_found name t before last in
      let rows : rows_of (with_rows front) name ≡ values_of front = rw found refl in
      let none = none_has schema e front entry (all_front schema (is_entry schema) front (e ∷ rest) all) before' in
      let P : List (List ℕ) → Type 0 = λ rs. Each (λ r. bytes_eq (row_key schema e.1) (row_key schema r) ≡ false) rs in
      let small = here.small in
      let room : 4096 ≤ left_in at = omega arith in
      let answered = row_put schema e.1 good bytes (first_true _ _ entry) (left_in at) name (with_rows front) t is found refl (subst P (sym rows) none) room in
      ap (λ s. option_and_then (asked lines) (done (meaning [] (left_in at) (inserted name (values_in schema e.1)) s) at)) here.sees
      ∙ ap (λ a. option_and_then (asked lines) (done a at)) answered

  sees_more : (at : At) (n : ℕ) (front : List (List ℕ × List ℕ)) (e : List ℕ × List ℕ) (rest : List (List ℕ × List ℕ)) → IsAt at n (with_rows front) → list_all (is_entry schema) (front ++ e ∷ rest) ≡ true → rises (key_cmp schema) (keys_of (front ++ e ∷ rest)) ≡ true
      → seen (more at e.1) ≡ with_rows (front ++ e ∷ [])
  sees_more at n front e rest here all up =
      let entry = all_middle (is_entry schema) front e rest all in
      let before' = end_of schema front e rest up in
      let t : Table = record { schema = schema; rows = front } in
      after_all at.changes (put name e.1 ∷ []) at.store ∙ ap (apply (put name e.1)) here.sees
      ∙ last_changed (put_row e.1) name t before last ∙ ap (λ (u : Table). before ++ (name, u) ∷ []) (put_end schema e front entry before')

  is_more : (at : At) (n : ℕ) (front : List (List ℕ × List ℕ)) (e : List ℕ × List ℕ) → is_row schema e.1 ≡ true → IsAt at n (with_rows front) → seen (more at e.1) ≡ with_rows (front ++ e ∷ []) → IsAt (more at e.1) (n + 1) (with_rows (front ++ e ∷ []))
  is_more at n front e row here sees =
      let small = here.small in
      let size = put_short name e.1 is (row_short schema e.1 row) in
      let sum = bytes_more at.changes (put name e.1) in
      record { sees = sees; small = omega arith; none = λ none. absurd (omega arith) }

  all_rows : (rest front : List (List ℕ × List ℕ)) (at : At) (n : ℕ) (lines : List Line) → n < 256 → IsAt at n (with_rows front) → list_all (is_entry schema) (front ++ rest) ≡ true → rises (key_cmp schema) (keys_of (front ++ rest)) ≡ true → AllByRecursion AreBytes (values_of rest)
      → asked (row_lines name schema n (values_of rest) ++ lines) at ≡ asked lines (begun (with_rows (front ++ rest)))
  all_rows [] front at n lines few here all up bytes = ending (n == 0) refl ∙ ap (λ rows. asked lines (begun (with_rows rows))) (sym (append-nil front))
    where
      ending : (b : Bool) → (n == 0) ≡ b → asked ((if b then [] else Commit ∷ []) ++ lines) at ≡ asked lines (begun (with_rows front))
      ending true e = let zero_ : n ≡ 0 = grind (arith, nat_tests) in ap (asked lines) (here.none zero_)
      ending false e = ap (λ s. asked lines (begun s)) here.sees
  all_rows (e ∷ rest) front at n lines few here all up bytes =
      let whole : (front ++ e ∷ []) ++ rest ≡ front ++ e ∷ rest = append_assoc front (e ∷ []) rest in
      let all' = subst (λ (es : List (List ℕ × List ℕ)). list_all (is_entry schema) es ≡ true) (sym whole) all in
      let up' = subst (λ (es : List (List ℕ × List ℕ)). rises (key_cmp schema) (keys_of es) ≡ true) (sym whole) up in
      let row = first_true _ _ (all_middle (is_entry schema) front e rest all) in
      let sees = sees_more at n front e rest here all up in
      let next = is_more at n front e row here sees in
      one_row at n front e rest (further ++ lines) few here all up bytes.0
      ∙ go (n + 1 == 256) refl sees (all_rows rest (front ++ e ∷ []) (begun (with_rows (front ++ e ∷ []))) 0 lines (omega arith) (is_begun (with_rows (front ++ e ∷ []))) all' up' bytes.1)
      (λ fewer. all_rows rest (front ++ e ∷ []) (more at e.1) (n + 1) lines fewer next all' up' bytes.1)
      ∙ ap (λ rows. asked lines (begun (with_rows rows))) whole
    where
      further : List Line
      further = if n + 1 == 256 then Commit ∷ row_lines name schema 0 (values_of rest) else row_lines name schema (n + 1) (values_of rest)

      still : (m : ℕ) → m < 256 → (m + 1 == 256) ≡ false → m + 1 < 256
      still m small e = grind (arith, nat_tests)

      go : (b : Bool) → (n + 1 == 256) ≡ b → seen (more at e.1) ≡ with_rows (front ++ e ∷ [])
          → asked (row_lines name schema 0 (values_of rest) ++ lines) (begun (with_rows (front ++ e ∷ []))) ≡ asked lines (begun (with_rows ((front ++ e ∷ []) ++ rest)))
          → (n + 1 < 256 → asked (row_lines name schema (n + 1) (values_of rest) ++ lines) (more at e.1) ≡ asked lines (begun (with_rows ((front ++ e ∷ []) ++ rest))))
          → asked ((if b then Commit ∷ row_lines name schema 0 (values_of rest) else row_lines name schema (n + 1) (values_of rest)) ++ lines) (more at e.1) ≡ asked lines (begun (with_rows ((front ++ e ∷ []) ++ rest)))
      go true is sees a b = ap (λ s. asked (row_lines name schema 0 (values_of rest) ++ lines) (begun s)) sees ∙ a
      go false is sees a b = b (still n few is)

one_table : (before : Store) (e : List ℕ × Table) (lines : List Line) → is_name e.0 ≡ true → is_table e.1 ≡ true → comes_last e.0 before ≡ true → length before < 1000 → AllByRecursion AreBytes (values_of e.1.rows)
    → asked (table_lines e ++ lines) (begun before) ≡ asked lines (begun (before ++ e ∷ []))
one_table before e lines is good last few bytes =
    let p = parts e.1 good in
    let none = not_there e.0 before last in
    let room : 4096 ≤ left_in (begun before) = omega arith in
    let answered = table_made (left_in (begun before)) e.0 e.1.schema before is p.0 none few room in
    let fresh : Table = record { schema = e.1.schema; rows = [] } in
    let made : apply (create e.0 e.1.schema) before ≡ before ++ (e.0, fresh) ∷ [] = ap (λ (o : Option Table). if is_some o then before else insert_entry (slice_cmp nat_cmp) before e.0 fresh) none ∙ insert_last e.0 fresh before last in
    let rest : List Line = row_lines e.0 e.1.schema 0 (values_of e.1.rows) ++ lines in
    ap (λ a. option_and_then (asked (Commit ∷ rest)) (done a (begun before))) answered
    ∙ ap (λ s. asked rest (begun s)) made
    ∙ all_rows e.0 e.1.schema before is p.0 last e.1.rows [] (begun (before ++ (e.0, fresh) ∷ [])) 0 lines (omega arith) (is_begun (before ++ (e.0, fresh) ∷ [])) p.1 p.2 bytes

all_tables : (rest before : Store) → is_store (before ++ rest) ≡ true → HaveBytes rest → length (before ++ rest) ≤ 1000 → asked (lines_of rest) (begun before) ≡ Some (begun (before ++ rest))
all_tables [] before good bytes few = ap (λ s. Some (begun s)) (sym (append-nil before))
all_tables (e ∷ rest) before good bytes few =
    let whole : (before ++ e ∷ []) ++ rest ≡ before ++ e ∷ rest = append_assoc before (e ∷ []) rest in
    let named = all_middle named_table before e rest (first_true _ _ good) in
    let last : comes_last e.0 before ≡ true = last_of before e rest (second_true _ _ good) in
    let count : length before < 1000 = omega (arith, length-append before (e ∷ rest)) in
    one_table before e (lines_of rest) (first_true _ _ named) (second_true _ _ named) last count bytes.0
    ∙ all_tables rest (before ++ e ∷ []) (subst (λ (s : Store). is_store s ≡ true) (sym whole) good) bytes.1 (subst (λ (s : Store). length s ≤ 1000) (sym whole) few)
    ∙ ap (λ s. Some (begun s)) whole

pub restored : DumpsRestore
restored store good bytes few = all_tables store [] good bytes few
