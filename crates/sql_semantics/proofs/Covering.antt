-- The rows outside a statement's scope change no answer.
use Rattle.std.proofs.Common.{◌≡◌, ℕ, List, [], ◌∷◌, Bool, true, false, cond, ◌&&◌, refl, sym, ap, subst, ◌∙◌, Option, Some, None, option_map, length}
use Rattle.std.proofs.Common.{Ordering, Less, Equal, Greater}
use Rattle.std.specs.Prelude.{filter, bytes_eq, unwrap_or}
use Rattle.std.specs.Option.{option_and_then, option_to_list}
use Rattle.std.specs.Ordering.{is_lt, nat_cmp}
use Rattle.std.specs.List.{list_all}
use Rattle.std.specs.Map.{keys_of, lookup, values_of}
use Rattle.std.specs.Cmp.Lexicographic.{slice_cmp}
use Rattle.std.proofs.lemmas.Cmp.{tied_itself}
use Rattle.std.proofs.lemmas.Slice.Eq.{bytes_eq-Decides}
use Rattle.sql_text.specs.declared.tree.Command.{Command}
use Rattle.sql_text.specs.declared.tree.Command.TheVariants as command
use Rattle.row_values.specs.Value.{Value}
use Rattle.row_values.specs.Schema.{Schema, is_name, is_schema}
use Rattle.row_values.specs.Row.{is_row}
use Rattle.row_values.specs.Key.{key_cmp, row_key}
use Rattle.tables.specs.Tables.{Store, Table, schema_of, table_of}
use Rattle.tables.specs.View.{is_entry, is_store, is_table}
use Rattle.drda_words.specs.Order.{rises}
use Rattle.row_values.specs.Laws.{KeysAreOrdered}
use Rattle.sql_semantics.specs.Scope.{All, Names, One, Scope, absent_scope, scope, scope_by, scope_in, table_name}
use Rattle.sql_semantics.specs.Meaning.{Answer, absent_answer, answer, answered, concerns, found_answer}
use Rattle.sql_semantics.specs.Frame.{RowsHaveTheirKeys, CoveredIsEnough, rows_covered, tables_covered}
use Rattle.sql_semantics.proofs.Fixed.{about_one}

pub first_true : (a b : Bool) → (a && b) ≡ true → a ≡ true
first_true true b h = refl
first_true false b h = absurd cc

pub second_true : (a b : Bool) → (a && b) ≡ true → b ≡ true
second_true true b h = h
second_true false b h = absurd cc

-- ---- of rows in order, at most one has a key

module _ (schema : Schema) (P : List ℕ → Bool) (k : List ℕ) (ordered : KeysAreOrdered) (one : (row : List ℕ) → P row ≡ true → row_key schema row ≡ k) where
  entry_key : (e : List ℕ × List ℕ) → is_entry schema e ≡ true → P e.1 ≡ true → e.0 ≡ k
  entry_key e h p = (bytes_eq-Decides e.0 (row_key schema e.1)).0 (second_true (is_row schema e.1) (bytes_eq e.0 (row_key schema e.1)) h) ∙ one e.1 p

  not_less : (q : List ℕ) → is_lt (key_cmp schema k q) ≡ true → q ≡ k → ⊥
  not_less q less same = let tie : key_cmp schema k q ≡ Equal = ap (key_cmp schema k) same ∙ tied_itself (ordered schema).0 k in absurd (is_not (key_cmp schema k q) less tie)
    where
      is_not : (o : Ordering) → is_lt o ≡ true → o ≡ Equal → ⊥
      is_not Less h e = cc
      is_not Equal h e = cc
      is_not Greater h e = cc

  drop_one : (row : List ℕ) (rest : List (List ℕ)) (b : Bool) → P row ≡ b → (b ≡ true → ⊥) → filter P (row ∷ rest) ≡ filter P rest
  drop_one row rest true is never = absurd (never refl)
  drop_one row rest false is never = rw is refl

  none_later : (es : List (List ℕ × List ℕ)) → list_all (is_entry schema) es ≡ true → list_all (λ later. is_lt (key_cmp schema k later)) (keys_of es) ≡ true → filter P (values_of es) ≡ []
  none_later [] all later = refl
  none_later (e ∷ es) all later =
      let less = first_true (is_lt (key_cmp schema k e.0)) (list_all (λ later. is_lt (key_cmp schema k later)) (keys_of es)) later in
      let good = first_true (is_entry schema e) (list_all (is_entry schema) es) all in
      drop_one e.1 (values_of es) (P e.1) refl (λ p. not_less e.0 less (entry_key e good p))
      ∙ none_later es (second_true (is_entry schema e) (list_all (is_entry schema) es) all) (second_true (is_lt (key_cmp schema k e.0)) (list_all (λ later. is_lt (key_cmp schema k later)) (keys_of es)) later)

  keep_one : (row : List ℕ) (rest : List (List ℕ)) → filter P rest ≡ [] → filter P (row ∷ rest) ≡ filter P (row ∷ [])
  keep_one row rest none = rw none refl

  one_step : (e : List ℕ × List ℕ) (es : List (List ℕ × List ℕ)) (b : Bool) → bytes_eq k e.0 ≡ b → list_all (is_entry schema) (e ∷ es) ≡ true → rises (key_cmp schema) (keys_of (e ∷ es)) ≡ true
      → filter P (values_of es) ≡ filter P (option_to_list (lookup (bytes_eq k) es))
      → filter P (values_of (e ∷ es)) ≡ filter P (option_to_list (cond b (Some e.1) (lookup (bytes_eq k) es)))
  one_step e es true is all up more =
      let same : k ≡ e.0 = (bytes_eq-Decides k e.0).0 is in
      let later = first_true (list_all (λ later. is_lt (key_cmp schema e.0 later)) (keys_of es)) (rises (key_cmp schema) (keys_of es)) up in
      keep_one e.1 (values_of es) (none_later es (second_true (is_entry schema e) (list_all (is_entry schema) es) all) (subst (λ (q : List ℕ). list_all (λ later. is_lt (key_cmp schema q later)) (keys_of es) ≡ true) (sym same) later))
  one_step e es false is all up more =
      let good = first_true (is_entry schema e) (list_all (is_entry schema) es) all in
      drop_one e.1 (values_of es) (P e.1) refl (λ p. apart k e.0 is (sym (entry_key e good p))) ∙ more
    where
      apart : (a b : List ℕ) → bytes_eq a b ≡ false → a ≡ b → ⊥
      apart a b other same = let yes = (bytes_eq-Decides a b).1 same in cc

  -- the rows that pass are among the row of the key
  pub only_one : (es : List (List ℕ × List ℕ)) → list_all (is_entry schema) es ≡ true → rises (key_cmp schema) (keys_of es) ≡ true → filter P (values_of es) ≡ filter P (option_to_list (lookup (bytes_eq k) es))
  only_one [] all up = refl
  only_one (e ∷ es) all up =
      one_step e es (bytes_eq k e.0) refl all up
      (only_one es (second_true (is_entry schema e) (list_all (is_entry schema) es) all) (second_true (list_all (λ later. is_lt (key_cmp schema e.0 later)) (keys_of es)) (rises (key_cmp schema) (keys_of es)) up))

-- ---- by the table

abbrev pub Good : Option Table → Type 0
Good None = Unit {0}
Good (Some t) = is_table t ≡ true

good_by : (b : Bool) (t : Table) (rest : Option Table) → is_table t ≡ true → Good rest → Good (cond b (Some t) rest)
good_by true t rest one more = one
good_by false t rest one more = more

abbrev named : List ℕ × Table → Bool
named e = is_name e.0 && is_table e.1

good_in : (s : Store) (q : List ℕ) → list_all named s ≡ true → Good (table_of s q)
good_in [] q h = tt
good_in (e ∷ es) q h =
    good_by (bytes_eq q e.0) e.1 (table_of es q) (second_true (is_name e.0) (is_table e.1) (first_true (named e) (list_all named es) h))
    (good_in es q (second_true (named e) (list_all named es) h))

pub good_table : (s : Store) (q : List ℕ) → is_store s ≡ true → Good (table_of s q)
good_table s q h = good_in s q (first_true (list_all named s) (rises (slice_cmp nat_cmp) (keys_of s)) h)

-- ---- the answer

-- what is covered of a table
abbrev rows_at : Scope → Option Table → List (List ℕ)
rows_at Names o = []
rows_at All o = unwrap_or (option_map (λ (t : Table). values_of t.rows) o) []
rows_at (One k) o = option_to_list (option_and_then (λ (t : Table). lookup (bytes_eq k) t.rows) o)

covered_at : (sc : Scope) (n : List ℕ) (s : Store) → rows_covered sc n s ≡ rows_at sc (table_of s n)
covered_at Names n s = refl
covered_at All n s = refl
covered_at (One k) n s = refl

scope_is_rows : (o : Option (List ℕ)) → scope_by o ≡ Names → ⊥
scope_is_rows None h = cc
scope_is_rows (Some k) h = cc

abbrev found : List Value → ℕ → Command → Schema → List (List ℕ) → Answer
found params left c schema rows = answered (found_answer params left c schema (filter (concerns params c schema) rows))

no_rows : (params : List Value) (left : ℕ) (c : Command) (schema : Schema) (rows : List (List ℕ)) → scope_in params c schema ≡ Names → found params left c schema rows ≡ found params left c schema []
no_rows params left (command.Create table ds key) schema rows is = refl
no_rows params left (command.Insert table names values) schema rows is = absurd (scope_is_rows _ is)
no_rows params left (command.Update table assignments f) schema rows is = absurd (scope_is_rows _ is)
no_rows params left (command.Delete table f) schema rows is = absurd (scope_is_rows _ is)
no_rows params left (command.Select names table f) schema rows is = absurd (scope_is_rows _ is)

found_same : KeysAreOrdered → (params : List Value) (left : ℕ) (c : Command) (t : Table) (sc : Scope) → scope_in params c t.schema ≡ sc → is_table t ≡ true
    → found params left c t.schema (values_of t.rows) ≡ found params left c t.schema (rows_at sc (Some t))
found_same ordered params left c t Names is good = no_rows params left c t.schema (values_of t.rows) is
found_same ordered params left c t All is good = refl
found_same ordered params left c t (One k) is good =
    let shaped = first_true (is_schema t.schema && list_all (is_entry t.schema) t.rows) (rises (key_cmp t.schema) (keys_of t.rows)) good in
    ap (λ rows. answered (found_answer params left c t.schema rows))
    (only_one t.schema (concerns params c t.schema) k ordered (λ row p. about_one params c t.schema row k is p) t.rows (second_true (is_schema t.schema) (list_all (is_entry t.schema) t.rows) shaped)
    (second_true (is_schema t.schema && list_all (is_entry t.schema) t.rows) (rises (key_cmp t.schema) (keys_of t.rows)) good))

absent_same : (params : List Value) (left : ℕ) (c : Command) (s : Store) → absent_answer left c (length s) ≡ absent_answer left c (tables_covered (absent_scope c) s)
absent_same params left (command.Create table ds key) s = refl
absent_same params left (command.Insert table names values) s = refl
absent_same params left (command.Update table assignments f) s = refl
absent_same params left (command.Delete table f) s = refl
absent_same params left (command.Select names table f) s = refl

enough_by : KeysAreOrdered → (params : List Value) (left : ℕ) (c : Command) (s : Store) (o : Option Table) → Good o
    → (let schema = option_map (λ (t : Table). t.schema) o in answer params left c schema (rows_at All o) (length s) ≡ answer params left c schema (rows_at (scope params c schema) o) (tables_covered (scope params c schema) s))
unfolding answer scope
enough_by ordered params left c s None good = ap answered (absent_same params left c s)
enough_by ordered params left c s (Some t) good = found_same ordered params left c t (scope_in params c t.schema) refl good

pub covered_is_enough : KeysAreOrdered → CoveredIsEnough
covered_is_enough ordered params left c s good =
    enough_by ordered params left c s (table_of s (table_name c)) (good_table s (table_name c) good)
    ∙ ap (λ rows. answer params left c (schema_of s (table_name c)) rows (tables_covered (scope params c (schema_of s (table_name c))) s)) (sym (covered_at (scope params c (schema_of s (table_name c))) (table_name c) s))

-- ---- the row of a key

kept : {A : Type 0} (x y : A) → Some x ≡ Some y → x ≡ y
kept x y h = cc

key_by : (schema : Schema) (e : List ℕ × List ℕ) (rest : Option (List ℕ)) (k row : List ℕ) (b : Bool) → bytes_eq k e.0 ≡ b → is_entry schema e ≡ true → (rest ≡ Some row → row_key schema row ≡ k) → cond b (Some e.1) rest ≡ Some row → row_key schema row ≡ k
key_by schema e rest k row true is good more h =
    let same : e.1 ≡ row = kept e.1 row h in
    let own : e.0 ≡ row_key schema e.1 = (bytes_eq-Decides e.0 (row_key schema e.1)).0 (second_true (is_row schema e.1) (bytes_eq e.0 (row_key schema e.1)) good) in
    ap (row_key schema) (sym same) ∙ sym own ∙ sym ((bytes_eq-Decides k e.0).0 is)
key_by schema e rest k row false is good more h = more h

entry_has_key : (schema : Schema) (es : List (List ℕ × List ℕ)) (k row : List ℕ) → list_all (is_entry schema) es ≡ true → lookup (bytes_eq k) es ≡ Some row → row_key schema row ≡ k
entry_has_key schema [] k row all h = absurd cc
entry_has_key schema (e ∷ es) k row all h =
    key_by schema e (lookup (bytes_eq k) es) k row (bytes_eq k e.0) refl (first_true (is_entry schema e) (list_all (is_entry schema) es) all)
    (entry_has_key schema es k row (second_true (is_entry schema e) (list_all (is_entry schema) es) all)) h

row_at_key : (o : Option Table) (k row : List ℕ) (schema : Schema) → Good o → option_map (λ (t : Table). t.schema) o ≡ Some schema → option_and_then (λ (t : Table). lookup (bytes_eq k) t.rows) o ≡ Some row → row_key schema row ≡ k
row_at_key None k row schema good there h = absurd cc
row_at_key (Some t) k row schema good there h =
    let all = second_true (is_schema t.schema) (list_all (is_entry t.schema) t.rows) (first_true (is_schema t.schema && list_all (is_entry t.schema) t.rows) (rises (key_cmp t.schema) (keys_of t.rows)) good) in
    ap (λ (sh : Schema). row_key sh row) (sym (kept t.schema schema there)) ∙ entry_has_key t.schema t.rows k row all h

pub rows_have_keys : RowsHaveTheirKeys
rows_have_keys s q key row schema good there h = row_at_key (table_of s q) key row schema (good_table s q good) there h
