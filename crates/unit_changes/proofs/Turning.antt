-- Rows and changes in turn are the rows behind the changes.
use Rattle.std.proofs.Common.{◌≡◌, ◌+◌, ℕ, zero, suc, List, [], ◌∷◌, ◌++◌, Bool, true, false, cond, refl, sym, ap, subst, ◌∙◌, Option, Some, None, Ordering, Less, Equal, Greater, map, drop, add-one}
use Rattle.std.specs.Prelude.{option_map, unwrap_or, ◌&&◌, bytes_eq}
use Rattle.std.specs.Ordering.{is_eq, is_gt, is_lt, ordering_reverse}
use Rattle.std.specs.List.{list_all, slice_get}
use Rattle.std.specs.List.Sorted.{IsStrictlySortedBy}
use Rattle.std.specs.Map.{keys_of, values_of}
use Rattle.std.specs.Cmp.Lexicographic.{nat_list_cmp_total}
use Rattle.std.proofs.lemmas.Map.Keys.{sorted_head, sorted_tail}
use Rattle.drda_words.specs.Order.{rises}
use Rattle.row_values.specs.Schema.{Schema, is_schema}
use Rattle.row_values.specs.Row.{is_row}
use Rattle.row_values.specs.Key.{key_cmp, row_key}
use Rattle.key_map.specs.SortForm.{KeysKeepOrder, sort_form}
use Rattle.key_map.specs.Slots.{by_bytes}
use Rattle.key_map.specs.Merging.{Above, ChangeFirst, ChangeHere, Changes, InOrder, RowFirst, Rows, keyed, merged}
use Rattle.tables.specs.Change.{Change}
use Rattle.tables.specs.Tables.{Store, Table, rows_of, schema_of, table_of}
use Rattle.tables.specs.View.{is_entry, is_store, is_table}
use Rattle.tables.specs.Laws.{TablesAreTables}
use Rattle.tables.specs.Applied.{apply_all}
use Rattle.unit_changes.specs.declared.table_rows.FormedRow.{FormedRow}
use Rattle.unit_changes.specs.UnitTable.{Fits, HaveKeys, IsKey, IsTold, UnitTable, formed, rows_in}
use Rattle.unit_changes.specs.Index.{IsToldOf}
use Rattle.unit_changes.specs.TableRows.{HaveRowKeys, by_forms, formed_of, in_turn, rows_before, rows_from, without_first}
use Rattle.unit_changes.proofs.Steps.{first, second}
use Rattle.unit_changes.proofs.Listing.{same_bytes}
use Rattle.unit_changes.proofs.Forming.{lower}

-- ---- the forms of rows, one after another

row_there : (rows : List (List ℕ)) (i : ℕ) (row : List ℕ) → slice_get rows i ≡ Some row → drop i rows ≡ row ∷ drop (suc i) rows
row_there [] i row h = absurd cc
row_there (r ∷ rs) zero row h = let same : r ≡ row = cc in ap (λ (x : List ℕ). x ∷ rs) same
row_there (r ∷ rs) (suc i) row h = row_there rs i row h

row_next : (rows : List (List ℕ)) (i : ℕ) (row : List ℕ) → slice_get rows i ≡ Some row → drop i rows ≡ row ∷ drop (i + 1) rows
row_next rows i row h = row_there rows i row h ∙ ap (λ n. row ∷ drop n rows) (sym (add-one i))

pushed_form : (old : List FormedRow) (f : FormedRow) (rest : Rows) → map formed_of (old ++ f ∷ []) ++ rest ≡ map formed_of old ++ formed_of f ∷ rest
pushed_form [] f rest = refl
pushed_form (o ∷ os) f rest = ap (λ (l : Rows). formed_of o ∷ l) (pushed_form os f rest)

pub forms_next : (schema : Schema) (rows : List (List ℕ)) (i : ℕ) (row : List ℕ) (old new : List FormedRow) (f : FormedRow) → slice_get rows i ≡ Some row → formed_of f ≡ (sort_form schema (row_key schema row), row) → new ≡ old ++ f ∷ []
    → map formed_of new ++ by_forms schema (drop (i + 1) rows) ≡ map formed_of old ++ by_forms schema (drop i rows)
forms_next schema rows i row old new f at is more =
    ap (λ (l : List FormedRow). map formed_of l ++ by_forms schema (drop (i + 1) rows)) more
    ∙ pushed_form old f (by_forms schema (drop (i + 1) rows))
    ∙ ap (λ (e : List ℕ × List ℕ). map formed_of old ++ e ∷ by_forms schema (drop (i + 1) rows)) is
    ∙ ap (λ (l : List (List ℕ)). map formed_of old ++ by_forms schema l) (sym (row_next rows i row at))

pub keys_next : (schema : Schema) (rows : List (List ℕ)) (i : ℕ) (row : List ℕ) → slice_get rows i ≡ Some row → IsKey schema (row_key schema row) → HaveRowKeys schema (drop (i + 1) rows) → HaveRowKeys schema (drop i rows)
keys_next schema rows i row at is rest = subst (λ (l : List (List ℕ)). HaveRowKeys schema l) (sym (row_next rows i row at)) (is, rest)

-- ---- in turn

pub record TurnLaws : Type 0 where
  pub change : ChangeFirst
  pub row : RowFirst
  pub both : ChangeHere

turn_step : TurnLaws → (e : List ℕ × List ℕ) (es : Rows) (c : List ℕ × Option (List ℕ)) (cs : Changes) (o : Ordering) → by_bytes c.0 e.0 ≡ o → InOrder (e ∷ es) → InOrder (c ∷ cs)
    → merged es (c ∷ cs) ≡ rows_before c.0 es ++ (keyed c.0 c.1 ++ merged (without_first c.0 (rows_from c.0 es)) cs)
    → merged (e ∷ es) (c ∷ cs) ≡ cond (is_gt o) (e ∷ rows_before c.0 es) [] ++ (keyed c.0 c.1 ++ merged (without_first c.0 (cond (is_gt o) (rows_from c.0 es) (e ∷ es))) cs)
turn_step laws e es c cs Less is up_e up_c more =
    laws.change (e ∷ es) c cs (is, lower c.0 e.0 (keys_of es) is (sorted_head by_bytes e.0 (keys_of es) up_e)) up_c
    ∙ ap (λ b. keyed c.0 c.1 ++ merged (cond b es (e ∷ es)) cs) (sym (ap is_eq is))
turn_step laws e es c cs Equal is up_e up_c more =
    laws.both e es c cs is up_c
    ∙ ap (λ b. keyed c.0 c.1 ++ merged (cond b es (e ∷ es)) cs) (sym (ap is_eq is))
turn_step laws e es c cs Greater is up_e up_c more =
    let less : by_bytes e.0 c.0 ≡ Less = nat_list_cmp_total.antisymm e.0 c.0 ∙ ap ordering_reverse is in
    laws.row e es (c ∷ cs) (less, lower e.0 c.0 (keys_of cs) less (sorted_head by_bytes c.0 (keys_of cs) up_c))
    ∙ ap (λ (l : Rows). e ∷ l) more

turn : TurnLaws → (rows : Rows) (c : List ℕ × Option (List ℕ)) (cs : Changes) → InOrder rows → InOrder (c ∷ cs)
    → merged rows (c ∷ cs) ≡ rows_before c.0 rows ++ (keyed c.0 c.1 ++ merged (without_first c.0 (rows_from c.0 rows)) cs)
turn laws [] c cs up_rows up_c = laws.change [] c cs tt up_c
turn laws (e ∷ es) c cs up_rows up_c =
    turn_step laws e es c cs (by_bytes c.0 e.0) refl up_rows up_c (turn laws es c cs (sorted_tail by_bytes e.0 (keys_of es) up_rows) up_c)

from_step : (b : Bool) (e : List ℕ × List ℕ) (es rest : Rows) → InOrder (e ∷ es) → InOrder rest → InOrder (cond b rest (e ∷ es))
from_step true e es rest up more = more
from_step false e es rest up more = up

from_order : (key : List ℕ) (rows : Rows) → InOrder rows → InOrder (rows_from key rows)
from_order key [] up = up
from_order key (e ∷ es) up = from_step (is_gt (by_bytes key e.0)) e es (rows_from key es) up (from_order key es (sorted_tail by_bytes e.0 (keys_of es) up))

without_order : (key : List ℕ) (rows : Rows) → InOrder rows → InOrder (without_first key rows)
without_order key [] up = up
without_order key (e ∷ es) up = from_step (is_eq (by_bytes key e.0)) e es es up (sorted_tail by_bytes e.0 (keys_of es) up)

-- that is what the changes make of the rows
all_in_turn : TurnLaws → (rows : Rows) (cs : Changes) → InOrder rows → InOrder cs → in_turn rows cs ≡ merged rows cs
all_in_turn laws rows [] up_rows up_c = refl
all_in_turn laws rows (c ∷ cs) up_rows up_c =
    let rest : Rows = without_first c.0 (rows_from c.0 rows) in
    ap (λ (l : Rows). rows_before c.0 rows ++ (keyed c.0 c.1 ++ l))
    (all_in_turn laws rest cs (without_order c.0 (rows_from c.0 rows) (from_order c.0 rows up_rows)) (sorted_tail by_bytes c.0 (keys_of cs) up_c))
    ∙ sym (turn laws rows c cs up_rows up_c)

-- ---- the rows of a table by their forms

abbrev pub shown : Option Table → List (List ℕ)
shown o = unwrap_or (option_map (λ (t : Table). values_of t.rows) o) []

record IsListed (schema : Schema) (o : Option Table) : Type 0 where
  pub forms : formed schema (rows_in o) ≡ by_forms schema (shown o)
  pub keys : HaveKeys schema (rows_in o)
  pub order : InOrder (formed schema (rows_in o))

key_of : (schema : Schema) (e : List ℕ × List ℕ) → is_entry schema e ≡ true → e.0 ≡ row_key schema e.1
key_of schema e h = same_bytes e.0 (row_key schema e.1) (second (is_row schema e.1) (bytes_eq e.0 (row_key schema e.1)) h)

forms_of : (schema : Schema) (es : List (List ℕ × List ℕ)) → list_all (is_entry schema) es ≡ true → formed schema es ≡ by_forms schema (values_of es)
forms_of schema [] h = refl
forms_of schema (e ∷ es) h =
    ap (λ (k : List ℕ). (sort_form schema k, e.1) ∷ formed schema es) (key_of schema e (first (is_entry schema e) (list_all (is_entry schema) es) h))
    ∙ ap (λ (l : Rows). (sort_form schema (row_key schema e.1), e.1) ∷ l) (forms_of schema es (second (is_entry schema e) (list_all (is_entry schema) es) h))

keys_are : (schema : Schema) (es : List (List ℕ × List ℕ)) → list_all (is_entry schema) es ≡ true → HaveRowKeys schema (values_of es) → HaveKeys schema es
keys_are schema [] h keys = tt
keys_are schema (e ∷ es) h keys = (
  subst (λ (k : List ℕ). IsKey schema k) (sym (key_of schema e (first (is_entry schema e) (list_all (is_entry schema) es) h))) keys.0,
  keys_are schema es (second (is_entry schema e) (list_all (is_entry schema) es) h) keys.1,
)

less_of : (o : Ordering) → is_lt o ≡ true → o ≡ Less
less_of Less h = refl
less_of Equal h = absurd cc
less_of Greater h = absurd cc

above_of : KeysKeepOrder → (schema : Schema) (k : List ℕ) (es : List (List ℕ × List ℕ)) → IsKey schema k → HaveKeys schema es → list_all (λ (later : List ℕ). is_lt (key_cmp schema k later)) (keys_of es) ≡ true → Above (sort_form schema k) (formed schema es)
above_of forms schema k [] is keys h = tt
above_of forms schema k (e ∷ es) is keys h =
    let rest : Bool = list_all (λ (later : List ℕ). is_lt (key_cmp schema k later)) (keys_of es) in (
      forms schema k e.0 is.0 keys.0.0 is.1 keys.0.1 ∙ less_of (key_cmp schema k e.0) (first (is_lt (key_cmp schema k e.0)) rest h),
      above_of forms schema k es is keys.1 (second (is_lt (key_cmp schema k e.0)) rest h),
    )

order_of : KeysKeepOrder → (schema : Schema) (es : List (List ℕ × List ℕ)) → HaveKeys schema es → rises (key_cmp schema) (keys_of es) ≡ true → InOrder (formed schema es)
unfolding IsStrictlySortedBy
order_of forms schema [] keys h = tt
order_of forms schema (e ∷ es) keys h =
    let here : Bool = list_all (λ (later : List ℕ). is_lt (key_cmp schema e.0 later)) (keys_of es) in
    (above_of forms schema e.0 es keys.0 keys.1 (first here (rises (key_cmp schema) (keys_of es)) h), order_of forms schema es keys.1 (second here (rises (key_cmp schema) (keys_of es)) h))

listed_there : KeysKeepOrder → (x : Table) → is_table x ≡ true → HaveRowKeys x.schema (values_of x.rows) → IsListed x.schema (Some x)
listed_there forms x good keys =
    let entries : Bool = list_all (is_entry x.schema) x.rows in
    let up : Bool = rises (key_cmp x.schema) (keys_of x.rows) in
    let all : entries ≡ true = second (is_schema x.schema) entries (first (is_schema x.schema && entries) up good) in
    let have : HaveKeys x.schema x.rows = keys_are x.schema x.rows all keys in
    record {
      forms = forms_of x.schema x.rows all;
      keys = have;
      order = order_of forms x.schema x.rows have (second (is_schema x.schema && entries) up good);
    }

nothing_order : (schema : Schema) → InOrder (formed schema [])
unfolding IsStrictlySortedBy
nothing_order schema = tt

listed : KeysKeepOrder → (schema : Schema) (isNew : Bool) (o : Option Table) → ((x : Table) → o ≡ Some x → is_table x ≡ true) → Fits isNew schema (option_map (λ (t : Table). t.schema) o) → HaveRowKeys schema (shown o) → IsListed schema o
listed forms schema isNew None good fits keys = record { forms = refl; keys = tt; order = nothing_order schema }
listed forms schema isNew (Some x) good fits keys =
    subst (λ (y : Schema). HaveRowKeys y (values_of x.rows) → IsListed y (Some x)) fits (listed_there forms x (good x refl)) keys

-- ---- all rows

values_formed : (schema : Schema) (es : List (List ℕ × List ℕ)) → values_of (formed schema es) ≡ values_of es
values_formed schema [] = refl
values_formed schema (e ∷ es) = ap (λ (l : List (List ℕ)). e.1 ∷ l) (values_formed schema es)

values_shown : (o : Option Table) → values_of (rows_in o) ≡ shown o
values_shown None = refl
values_shown (Some t) = refl

rows_told : TurnLaws → KeysKeepOrder → TablesAreTables → (t : UnitTable) (cs : List Change) (s : Store) (below out : List (List ℕ)) → IsTold t cs → is_store s ≡ true → InOrder t.said → HaveRowKeys t.schema below
    → out ≡ values_of (in_turn (by_forms t.schema below) t.said) → Fits t.is_new t.schema (schema_of s t.name) → below ≡ rows_of s t.name → out ≡ rows_of (apply_all cs s) t.name
rows_told laws forms tables t cs s below out told good up keys is fits at =
    let was : Option Table = table_of s t.name in
    let now : Option Table = table_of (apply_all cs s) t.name in
    let list : IsListed t.schema was = listed forms t.schema t.is_new was (λ x here. tables s t.name x good here) fits (subst (λ (l : List (List ℕ)). HaveRowKeys t.schema l) at keys) in
    is
    ∙ ap (λ (l : List (List ℕ)). values_of (in_turn (by_forms t.schema l) t.said)) at
    ∙ ap (λ (l : Rows). values_of (in_turn l t.said)) (sym list.forms)
    ∙ ap (λ (l : Rows). values_of l) (all_in_turn laws (formed t.schema (rows_in was)) t.said list.order up)
    ∙ ap (λ (l : Rows). values_of l) (sym ((told.tells s good fits).rows list.keys list.order).0)
    ∙ values_formed t.schema (rows_in now)
    ∙ values_shown now

-- what is said over the rows below are the rows behind the changes
pub rows_found : TurnLaws → KeysKeepOrder → TablesAreTables → (t : UnitTable) (cs : List Change) (s : Store) (name : List ℕ) (below out : List (List ℕ)) → IsToldOf (Some t) name cs → is_store s ≡ true → Fits t.is_new t.schema (schema_of s name)
    → below ≡ rows_of s name → InOrder t.said → HaveRowKeys t.schema below → out ≡ values_of (in_turn (by_forms t.schema below) t.said) → out ≡ rows_of (apply_all cs s) name
rows_found laws forms tables t cs s name below out told good fits at up keys is =
    subst (λ (n : List ℕ). Fits t.is_new t.schema (schema_of s n) → below ≡ rows_of s n → out ≡ rows_of (apply_all cs s) n) told.0
    (rows_told laws forms tables t cs s below out told.1 good up keys is) fits at
