-- Stores that show the same are the same.
use Rattle.std.proofs.Common.{◌≡◌, ℕ, List, [], ◌∷◌, Bool, true, false, cond, refl, sym, ap, subst, ◌∙◌, Option, Some, None, option_map, Ordering, Less, Equal, Greater}
use Rattle.std.specs.Prelude.{bytes_eq}
use Rattle.std.specs.Option.{option_and_then}
use Rattle.std.specs.List.{list_all}
use Rattle.std.specs.Cmp.{IsTotalOrder}
use Rattle.std.specs.Cmp.Lexicographic.{nat_list_cmp_total, slice_cmp}
use Rattle.std.specs.Map.{keys_of, lookup}
use Rattle.std.specs.Ordering.{is_lt, nat_cmp, ordering_reverse}
use Rattle.row_values.specs.Schema.{Schema, is_name}
use Rattle.row_values.specs.Key.{key_cmp}
use Rattle.tables.specs.Tables.{Store, Table, row_of, schema_of, table_of}
use Rattle.drda_words.specs.Order.{rises}
use Rattle.tables.specs.View.{is_store, is_table}
use Rattle.row_values.proofs.ValueLaws.{both_true, first_true, second_true}
use Rattle.row_values.proofs.KeyOrder.{key_cmp_total}
use Rattle.tables.proofs.Finding.{TellsApart, indeed, itself, otherwise, same_bytes, told_apart}
use Rattle.tables.proofs.Changes.{keys_apart, names_apart}
use Rattle.tables.proofs.Keeping.{before_all, before_trans, less_is, named_table, parts}

-- a key that comes before all is not found
pub absent : (R : List ℕ → List ℕ → Ordering) {X : Type 0} → TellsApart R → (k : List ℕ) (es : List (List ℕ × X)) → before_all R k (keys_of es) ≡ true → lookup (bytes_eq k) es ≡ None
absent R t k [] h = refl
absent R t k (e ∷ es) h =
    let less : R k e.0 ≡ Less = less_is (R k e.0) (first_true (is_lt (R k e.0)) (before_all R k (keys_of es)) h) in
    let apart : bytes_eq k e.0 ≡ false = told_apart R t k e.0 Less less (λ h. cc) in
    otherwise (bytes_eq k e.0) (Some e.1) (lookup (bytes_eq k) es) apart ∙ absent R t k es (second_true (is_lt (R k e.0)) (before_all R k (keys_of es)) h)

pub found_first : {X : Type 0} (e : List ℕ × X) (es : List (List ℕ × X)) → lookup (bytes_eq e.0) (e ∷ es) ≡ Some e.1
found_first e es = indeed (bytes_eq e.0 e.0) (Some e.1) (lookup (bytes_eq e.0) es) (itself e.0)

pub some_is_not_none : {X : Type 0} (x : X) → Some x ≡ None → ⊥
some_is_not_none x h = absurd cc

-- a first key is not before the first of a list in which it is found
not_before : (R : List ℕ → List ℕ → Ordering) {X : Type 0} → IsTotalOrder R → TellsApart R → (e d : List ℕ × X) (es ds : List (List ℕ × X)) → rises R (keys_of (d ∷ ds)) ≡ true
    → lookup (bytes_eq e.0) (e ∷ es) ≡ lookup (bytes_eq e.0) (d ∷ ds) → R e.0 d.0 ≡ Less → ⊥
not_before R total t e d es ds h same less =
    let later : before_all R d.0 (keys_of ds) ≡ true = first_true (before_all R d.0 (keys_of ds)) (rises R (keys_of ds)) h in
    let all : before_all R e.0 (keys_of (d ∷ ds)) ≡ true = both_true (is_lt (R e.0 d.0)) (before_all R e.0 (keys_of ds)) (ap is_lt less) (before_trans R total e.0 d.0 (keys_of ds) less later) in
    some_is_not_none e.1 (sym (found_first e es) ∙ same ∙ absent R t e.0 (d ∷ ds) all)

first_keys : (R : List ℕ → List ℕ → Ordering) {X : Type 0} → IsTotalOrder R → TellsApart R → (e d : List ℕ × X) (es ds : List (List ℕ × X)) (o : Ordering) → R e.0 d.0 ≡ o → rises R (keys_of (e ∷ es)) ≡ true → rises R (keys_of (d ∷ ds)) ≡ true
    → ((q : List ℕ) → lookup (bytes_eq q) (e ∷ es) ≡ lookup (bytes_eq q) (d ∷ ds)) → e.0 ≡ d.0
first_keys R total t e d es ds Less is up_e up_d same = absurd (not_before R total t e d es ds up_d (same e.0) is)
first_keys R total t e d es ds Equal is up_e up_d same = t.exact e.0 d.0 is
first_keys R total t e d es ds Greater is up_e up_d same = absurd (not_before R total t d e ds es up_e (sym (same d.0)) (total.antisymm d.0 e.0 ∙ ap ordering_reverse is))

later_by : (R : List ℕ → List ℕ → Ordering) {X : Type 0} → TellsApart R → (k : List ℕ) (v w : X) (es ds : List (List ℕ × X)) → before_all R k (keys_of es) ≡ true → before_all R k (keys_of ds) ≡ true
    → (q : List ℕ) (b : Bool) → bytes_eq q k ≡ b → lookup (bytes_eq q) ((k, v) ∷ es) ≡ lookup (bytes_eq q) ((k, w) ∷ ds) → lookup (bytes_eq q) es ≡ lookup (bytes_eq q) ds
later_by R t k v w es ds up_e up_d q true is same =
    subst (λ (l : List ℕ). lookup (bytes_eq l) es ≡ lookup (bytes_eq l) ds) (sym (same_bytes q k is)) (absent R t k es up_e ∙ sym (absent R t k ds up_d))
later_by R t k v w es ds up_e up_d q false is same =
    sym (otherwise (bytes_eq q k) (Some v) (lookup (bytes_eq q) es) is) ∙ same ∙ otherwise (bytes_eq q k) (Some w) (lookup (bytes_eq q) ds) is

pub inside : {X : Type 0} (x y : X) → Some x ≡ Some y → x ≡ y
inside x y h = cc

same_entries : {X : Type 0} (e d : List ℕ × X) (es ds : List (List ℕ × X)) → e.0 ≡ d.0 → e.1 ≡ d.1 → es ≡ ds → e ∷ es ≡ d ∷ ds
same_entries e d es ds keys values rest =
    ap (λ (k : List ℕ). (k, e.1) ∷ es) keys ∙ ap (λ v. (d.0, v) ∷ es) values ∙ ap (λ l. d ∷ l) rest

-- lists with rising keys in which the same is found are the same
pub lists_same : (R : List ℕ → List ℕ → Ordering) {X : Type 0} → IsTotalOrder R → TellsApart R → (s t : List (List ℕ × X)) → rises R (keys_of s) ≡ true → rises R (keys_of t) ≡ true
    → ((q : List ℕ) → lookup (bytes_eq q) s ≡ lookup (bytes_eq q) t) → s ≡ t
lists_same R total apart [] [] up_s up_t same = refl
lists_same R total apart [] (d ∷ ds) up_s up_t same = absurd (some_is_not_none d.1 (sym (found_first d ds) ∙ sym (same d.0)))
lists_same R total apart (e ∷ es) [] up_s up_t same = absurd (some_is_not_none e.1 (sym (found_first e es) ∙ same e.0))
lists_same R total apart (e ∷ es) (d ∷ ds) up_s up_t same =
    let keys : e.0 ≡ d.0 = first_keys R total apart e d es ds (R e.0 d.0) refl up_s up_t same in
    let alike : (q : List ℕ) → lookup (bytes_eq q) (e ∷ es) ≡ lookup (bytes_eq q) ((e.0, d.1) ∷ ds) = λ q. subst (λ (k : List ℕ). lookup (bytes_eq q) (e ∷ es) ≡ lookup (bytes_eq q) ((k, d.1) ∷ ds)) (sym keys) (same q) in
    let values : e.1 ≡ d.1 = inside e.1 d.1 (sym (found_first e es) ∙ alike e.0 ∙ found_first (e.0, d.1) ds) in
    let before_e : before_all R e.0 (keys_of es) ≡ true = first_true (before_all R e.0 (keys_of es)) (rises R (keys_of es)) up_s in
    let before_d : before_all R e.0 (keys_of ds) ≡ true = subst (λ (k : List ℕ). before_all R k (keys_of ds) ≡ true) (sym keys) (first_true (before_all R d.0 (keys_of ds)) (rises R (keys_of ds)) up_t) in
    same_entries e d es ds keys values
    (lists_same R total apart es ds (second_true (before_all R e.0 (keys_of es)) (rises R (keys_of es)) up_s) (second_true (before_all R d.0 (keys_of ds)) (rises R (keys_of ds)) up_t)
    (λ q. later_by R apart e.0 e.1 d.1 es ds before_e before_d q (bytes_eq q e.0) refl (alike q)))

-- ---- tables

abbrev pub GoodTable : Option Table → Type 0
GoodTable None = Unit {0}
GoodTable (Some t) = is_table t ≡ true

good_by : (b : Bool) (t : Table) (rest : Option Table) → is_table t ≡ true → GoodTable rest → GoodTable (cond b (Some t) rest)
good_by true t rest one more = one
good_by false t rest one more = more

-- each table of a store is one
pub good_table : (s : Store) (q : List ℕ) → list_all named_table s ≡ true → GoodTable (table_of s q)
good_table [] q h = tt
good_table (e ∷ es) q h =
    let one : is_table e.1 ≡ true = second_true (is_name e.0) (is_table e.1) (first_true (named_table e) (list_all named_table es) h) in
    good_by (bytes_eq q e.0) e.1 (table_of es q) one (good_table es q (second_true (named_table e) (list_all named_table es) h))

pub same_table : (t u : Table) → is_table t ≡ true → is_table u ≡ true → t.schema ≡ u.schema → ((key : List ℕ) → lookup (bytes_eq key) t.rows ≡ lookup (bytes_eq key) u.rows) → t ≡ u
same_table t u good_t good_u schemas same =
    let rows : t.rows ≡ u.rows = lists_same (key_cmp t.schema) (key_cmp_total t.schema) (keys_apart t.schema) t.rows u.rows (parts t good_t).2 (subst (λ (schema : Schema). rises (key_cmp schema) (keys_of u.rows) ≡ true) (sym schemas) (parts u good_u).2) same in
    let first : t ≡ record { schema = u.schema; rows = t.rows } = ap (λ (schema : Schema). record { schema = schema; rows = t.rows }) schemas in
    let second : record { schema = u.schema; rows = t.rows } ≡ u = ap (λ (l : List (List ℕ × List ℕ)). record { schema = u.schema; rows = l }) rows in
    first ∙ second

pub same_at : (a b : Option Table) → GoodTable a → GoodTable b → option_map (λ (t : Table). t.schema) a ≡ option_map (λ (t : Table). t.schema) b
    → ((key : List ℕ) → option_and_then (λ (t : Table). lookup (bytes_eq key) t.rows) a ≡ option_and_then (λ (t : Table). lookup (bytes_eq key) t.rows) b) → a ≡ b
same_at None None good_a good_b schemas same = refl
same_at None (Some u) good_a good_b schemas same = absurd (some_is_not_none u.schema (sym schemas))
same_at (Some t) None good_a good_b schemas same = absurd (some_is_not_none t.schema schemas)
same_at (Some t) (Some u) good_a good_b schemas same = ap Some (same_table t u good_a good_b (inside t.schema u.schema schemas) same)

-- stores that show the same are the same
pub same_stores : (s t : Store) → is_store s ≡ true → is_store t ≡ true → ((q : List ℕ) → schema_of s q ≡ schema_of t q) → ((q key : List ℕ) → row_of s q key ≡ row_of t q key) → s ≡ t
same_stores s t good_s good_t schemas rows =
    let all_s : list_all named_table s ≡ true = first_true (list_all named_table s) (rises (slice_cmp nat_cmp) (keys_of s)) good_s in
    let all_t : list_all named_table t ≡ true = first_true (list_all named_table t) (rises (slice_cmp nat_cmp) (keys_of t)) good_t in
    lists_same (slice_cmp nat_cmp) nat_list_cmp_total names_apart s t
    (second_true (list_all named_table s) (rises (slice_cmp nat_cmp) (keys_of s)) good_s) (second_true (list_all named_table t) (rises (slice_cmp nat_cmp) (keys_of t)) good_t)
    (λ q. same_at (table_of s q) (table_of t q) (good_table s q all_s) (good_table t q all_t) (schemas q) (rows q))
