-- Rows at the sort forms of their keys are the rows at their keys.
use Rattle.std.proofs.Common.{◌≡◌, ℕ, List, [], ◌∷◌, Bool, true, false, cond, if◌then◌else◌, refl, sym, ap, subst, ◌∙◌, Option, Some, None, Ordering, Less, Equal, Greater, true≢false, ◌<◌, length, zero, suc, nat_eq, nat_lt, nat_le, ◌&&◌, arith}
use Rattle.std.specs.Prelude.{bytes_eq, filter, not}
use Rattle.std.specs.Ordering.{is_eq, match_ordering}
use Rattle.std.specs.List.{AllByRecursion, list_all, slice_get}
use Rattle.std.specs.List.Sorted.{IsStrictlySortedBy}
use Rattle.std.specs.Map.{keys_of, lookup, remove_entry, values_of}
use Rattle.std.specs.BTreeMap.{insert_entry}
use Rattle.std.proofs.lemmas.Map.Keys.{sorted_head, sorted_tail}
use Rattle.std.proofs.lemmas.Map.Lookups.{exact_bytes}
use Rattle.row_values.specs.Schema.{Schema, are_columns, can_be_key, is_key_of, is_schema, no_repeat}
use Rattle.row_values.specs.Column.{Column}
use Rattle.row_values.specs.Row.{is_row, value_at}
use Rattle.row_values.specs.Key.{is_key, key_cmp, row_key}
use Rattle.row_values.proofs.KeyOrder.{key_by_values, key_exact, key_itself}
use Rattle.row_values.proofs.ValueLaws.{first_true, second_true, values_at-is}
use Rattle.key_map.specs.Slots.{by_bytes, by_key}
use Rattle.key_map.specs.SortForm.{KeysKeepOrder, sort_form}
use Rattle.key_map.proofs.Values.{keys_keep_order}
use Rattle.tables.proofs.Finding.{itself, same_bytes}
use Rattle.paged_tables.specs.Stored.{HaveForms, IsFormOf, IsRowAt, at_keys}

abbrev pub Entry : Type 0
Entry = List ℕ × List ℕ

abbrev pub entry_at : Schema → Entry → Entry
entry_at schema e = (row_key schema e.1, e.1)

order_kept : KeysKeepOrder
order_kept = keys_keep_order values_at-is key_by_values

-- two forms compare as their keys do
pub agree : (schema : Schema) (a b f g : List ℕ) → IsFormOf schema a f → IsFormOf schema b g → by_bytes f g ≡ key_cmp schema a b
agree schema a b f g one two =
    ap (λ (l : List ℕ). by_bytes l g) one.sorted ∙ ap (by_bytes (sort_form schema a)) two.sorted ∙ order_kept schema a b one.bytes two.bytes one.good two.good

tie_step : (schema : Schema) (a b : List ℕ) (o : Ordering) (c : Bool) → key_cmp schema a b ≡ o → bytes_eq a b ≡ c → is_eq o ≡ c
tie_step schema a b Less true is same = let tie = key_itself schema a in absurd (less_not_equal (sym is ∙ ap (λ (l : List ℕ). key_cmp schema a l) (sym (same_bytes a b same)) ∙ tie))
  where
    less_not_equal : Less ≡ Equal → ⊥
    less_not_equal h = cc
tie_step schema a b Less false is same = refl
tie_step schema a b Equal true is same = refl
tie_step schema a b Equal false is same = absurd (true≢false (sym (sym (ap (λ (l : List ℕ). bytes_eq a l) (key_exact schema a b is)) ∙ itself a) ∙ same))
tie_step schema a b Greater true is same = let tie = key_itself schema a in absurd (greater_not_equal (sym is ∙ ap (λ (l : List ℕ). key_cmp schema a l) (sym (same_bytes a b same)) ∙ tie))
  where
    greater_not_equal : Greater ≡ Equal → ⊥
    greater_not_equal h = cc
tie_step schema a b Greater false is same = refl

-- a form is found where its key is
pub alike : (schema : Schema) (a b f g : List ℕ) → IsFormOf schema a f → IsFormOf schema b g → by_key f g ≡ bytes_eq a b
alike schema a b f g one two = ap is_eq (agree schema a b f g one two) ∙ tie_step schema a b (key_cmp schema a b) (bytes_eq a b) refl refl

-- ---- what is found

found_step : (b c : Bool) (v : List ℕ) (x y : Option (List ℕ)) → b ≡ c → x ≡ y → cond b (Some v) x ≡ cond c (Some v) y
found_step b c v x y same more = ap (λ t. cond t (Some v) x) same ∙ ap (λ t. cond c (Some v) t) more

pub found_at : (schema : Schema) (key form : List ℕ) (rows : List Entry) → IsFormOf schema key form → HaveForms schema rows → lookup (by_key form) rows ≡ lookup (bytes_eq key) (at_keys schema rows)
found_at schema key form [] one all = refl
found_at schema key form (e ∷ es) one all =
    found_step (by_key form e.0) (bytes_eq key (row_key schema e.1)) e.1 (lookup (by_key form) es) (lookup (bytes_eq key) (at_keys schema es))
    (alike schema key (row_key schema e.1) form e.0 one all.0.key) (found_at schema key form es one all.1)

no_key : (schema : Schema) (key other : List ℕ) (b : Bool) → is_key schema key ≡ false → is_key schema other ≡ true → bytes_eq key other ≡ b → b ≡ false
no_key schema key other true bad good same = absurd (true≢false (sym good ∙ ap (is_key schema) (sym (same_bytes key other same)) ∙ bad))
no_key schema key other false bad good same = refl

-- what is no key is not found
pub not_found_at : (schema : Schema) (key : List ℕ) (rows : List Entry) → is_key schema key ≡ false → HaveForms schema rows → None ≡ lookup (bytes_eq key) (at_keys schema rows)
not_found_at schema key [] bad all = refl
not_found_at schema key (e ∷ es) bad all =
    not_found_at schema key es bad all.1
    ∙ sym (ap (λ b. cond b (Some e.1) (lookup (bytes_eq key) (at_keys schema es))) (no_key schema key (row_key schema e.1) (bytes_eq key (row_key schema e.1)) bad all.0.key.good refl))

pub values_at_keys : (schema : Schema) (rows : List Entry) → values_of rows ≡ values_of (at_keys schema rows)
values_at_keys schema [] = refl
values_at_keys schema (e ∷ es) = ap (λ vs. e.1 ∷ vs) (values_at_keys schema es)

-- ---- what is put

put_step : (schema : Schema) (o p : Ordering) (form row : List ℕ) (e : Entry) (es rest : List Entry) (more : List Entry) → o ≡ p → key_cmp schema (row_key schema row) (row_key schema e.1) ≡ p → at_keys schema rest ≡ more
    → at_keys schema (match_ordering o ((form, row) ∷ e ∷ es) ((e.0, row) ∷ es) (e ∷ rest)) ≡ match_ordering p ((row_key schema row, row) ∷ entry_at schema e ∷ at_keys schema es) ((row_key schema e.1, row) ∷ at_keys schema es) (entry_at schema e ∷ more)
put_step schema Less Less form row e es rest more same is h = refl
put_step schema Equal Equal form row e es rest more same is h = ap (λ (k : List ℕ). (k, row) ∷ at_keys schema es) (key_exact schema (row_key schema row) (row_key schema e.1) is)
put_step schema Greater Greater form row e es rest more same is h = ap (λ t. entry_at schema e ∷ t) h
put_step schema Less Equal form row e es rest more same is h = absurd cc
put_step schema Less Greater form row e es rest more same is h = absurd cc
put_step schema Equal Less form row e es rest more same is h = absurd cc
put_step schema Equal Greater form row e es rest more same is h = absurd cc
put_step schema Greater Less form row e es rest more same is h = absurd cc
put_step schema Greater Equal form row e es rest more same is h = absurd cc

pub put_at : (schema : Schema) (form row : List ℕ) (rows : List Entry) → IsFormOf schema (row_key schema row) form → HaveForms schema rows
    → at_keys schema (insert_entry by_bytes rows form row) ≡ insert_entry (key_cmp schema) (at_keys schema rows) (row_key schema row) row
put_at schema form row [] one all = refl
put_at schema form row (e ∷ es) one all =
    put_step schema (by_bytes form e.0) (key_cmp schema (row_key schema row) (row_key schema e.1)) form row e es (insert_entry by_bytes es form row)
    (insert_entry (key_cmp schema) (at_keys schema es) (row_key schema row) row)
    (agree schema (row_key schema row) (row_key schema e.1) form e.0 one all.0.key) refl (put_at schema form row es one all.1)

forms_step : (schema : Schema) (o : Ordering) (form row : List ℕ) (e : Entry) (es rest : List Entry) → by_bytes form e.0 ≡ o → IsRowAt schema row form → HaveForms schema (e ∷ es) → HaveForms schema rest
    → HaveForms schema (match_ordering o ((form, row) ∷ e ∷ es) ((e.0, row) ∷ es) (e ∷ rest))
forms_step schema Less form row e es rest is one all more = (one, all)
forms_step schema Equal form row e es rest is one all more = (subst (λ (f : List ℕ). IsRowAt schema row f) (exact_bytes form e.0 is) one, all.1)
forms_step schema Greater form row e es rest is one all more = (all.0, more)

-- rows stay at their forms
pub forms_put : (schema : Schema) (form row : List ℕ) (rows : List Entry) → IsRowAt schema row form → HaveForms schema rows → HaveForms schema (insert_entry by_bytes rows form row)
forms_put schema form row [] one all = (one, tt)
forms_put schema form row (e ∷ es) one all = forms_step schema (by_bytes form e.0) form row e es (insert_entry by_bytes es form row) refl one all (forms_put schema form row es one all.1)

-- ---- what is taken out

abbrev keeps : List ℕ → Entry → Bool
keeps key e = not (bytes_eq key e.0)

above_step : (schema : Schema) (key : List ℕ) (e : Entry) (es rest : List Entry) (b : Bool) → bytes_eq key e.0 ≡ b → b ≡ false → rest ≡ es → e ∷ es ≡ (if not b then e ∷ rest else rest)
above_step schema key e es rest true is h more = absurd (true≢false h)
above_step schema key e es rest false is h more = ap (λ t. e ∷ t) (sym more)

-- rows behind the one of the key have other keys
above : (schema : Schema) (key form : List ℕ) (rows : List Entry) → IsFormOf schema key form → HaveForms schema rows → AllByRecursion (λ k. by_bytes form k ≡ Less) (keys_of rows) → filter (keeps key) (at_keys schema rows) ≡ at_keys schema rows
above schema key form [] one all up = refl
above schema key form (e ∷ es) one all up =
    sym (above_step schema key (entry_at schema e) (at_keys schema es) (filter (keeps key) (at_keys schema es)) (bytes_eq key (row_key schema e.1)) refl
    (sym (alike schema key (row_key schema e.1) form e.0 one all.0.key) ∙ ap is_eq up.0) (above schema key form es one all.1 up.1))

taken_step : (schema : Schema) (key form : List ℕ) (e : Entry) (es rest : List Entry) (b c : Bool) → b ≡ c → by_key form e.0 ≡ b
    → (b ≡ true → filter (keeps key) (at_keys schema es) ≡ at_keys schema es) → at_keys schema rest ≡ filter (keeps key) (at_keys schema es)
    → at_keys schema (cond b es (e ∷ rest)) ≡ (if not c then entry_at schema e ∷ filter (keeps key) (at_keys schema es) else filter (keeps key) (at_keys schema es))
taken_step schema key form e es rest true true same is behind more = sym (behind refl)
taken_step schema key form e es rest false false same is behind more = ap (λ t. entry_at schema e ∷ t) more
taken_step schema key form e es rest true false same is behind more = absurd cc
taken_step schema key form e es rest false true same is behind more = absurd cc

tied : (o : Ordering) → is_eq o ≡ true → o ≡ Equal
tied Less h = absurd cc
tied Equal h = refl
tied Greater h = absurd cc

pub taken_at : (schema : Schema) (key form : List ℕ) (rows : List Entry) → IsFormOf schema key form → HaveForms schema rows → IsStrictlySortedBy by_bytes (keys_of rows)
    → at_keys schema (remove_entry (by_key form) rows) ≡ filter (λ (e : Entry). not (bytes_eq key e.0)) (at_keys schema rows)
taken_at schema key form [] one all up = refl
taken_at schema key form (e ∷ es) one all up =
    taken_step schema key form e es (remove_entry (by_key form) es) (by_key form e.0) (bytes_eq key (row_key schema e.1)) (alike schema key (row_key schema e.1) form e.0 one all.0.key) refl
    (λ here. above schema key form es one all.1
    (subst (λ (f : List ℕ). AllByRecursion (λ k. by_bytes f k ≡ Less) (keys_of es)) (sym (exact_bytes form e.0 (tied (by_bytes form e.0) here))) (sorted_head by_bytes e.0 (keys_of es) up)))
    (taken_at schema key form es one all.1 (sorted_tail by_bytes e.0 (keys_of es) up))

-- what is no key takes nothing out
pub no_key_taken : (schema : Schema) (key : List ℕ) (rows : List Entry) → is_key schema key ≡ false → HaveForms schema rows → at_keys schema rows ≡ filter (λ (e : Entry). not (bytes_eq key e.0)) (at_keys schema rows)
no_key_taken schema key [] bad all = refl
no_key_taken schema key (e ∷ es) bad all =
    above_step schema key (entry_at schema e) (at_keys schema es) (filter (keeps key) (at_keys schema es)) (bytes_eq key (row_key schema e.1)) refl
    (no_key schema key (row_key schema e.1) (bytes_eq key (row_key schema e.1)) bad all.0.key.good refl) (sym (no_key_taken schema key es bad all.1))

forms_left_step : (schema : Schema) (b : Bool) (e : Entry) (es rest : List Entry) → HaveForms schema (e ∷ es) → HaveForms schema rest → HaveForms schema (cond b es (e ∷ rest))
forms_left_step schema true e es rest all more = all.1
forms_left_step schema false e es rest all more = (all.0, more)

pub forms_left : (schema : Schema) (test : List ℕ → Bool) (rows : List Entry) → HaveForms schema rows → HaveForms schema (remove_entry test rows)
forms_left schema test [] all = tt
forms_left schema test (e ∷ es) all = forms_left_step schema (test e.0) e es (remove_entry test es) all (forms_left schema test es all.1)

-- ---- bytes of rows

no_column : (place : ℕ) → can_be_key (slice_get [] place) ≡ true → ⊥
no_column zero h = cc
no_column (suc place) h = cc

some_step : (columns : List Column) (key row : List ℕ) → is_schema (record { columns = columns; key = key }) ≡ true → is_row (record { columns = columns; key = key }) row ≡ true → 0 < length row
unfolding value_at
some_step columns key (b ∷ row) good is = omega arith
some_step (column ∷ columns) key [] good is = absurd cc
some_step [] [] [] good is = absurd cc
some_step [] (place ∷ key) [] good is =
    let all = second_true (nat_lt 0 (length (place ∷ key)) && nat_le (length (place ∷ key)) 4) (list_all (λ p. can_be_key (slice_get [] p)) (place ∷ key))
    (first_true (nat_lt 0 (length (place ∷ key)) && nat_le (length (place ∷ key)) 4 && list_all (λ p. can_be_key (slice_get [] p)) (place ∷ key)) (no_repeat nat_eq (place ∷ key))
    (second_true (are_columns []) (is_key_of [] (place ∷ key)) good)) in
    absurd (no_column place (first_true (can_be_key (slice_get [] place)) (list_all (λ p. can_be_key (slice_get [] p)) key) all))

-- a row has a byte, since its schema has a column
pub some_bytes : (schema : Schema) (row : List ℕ) → is_schema schema ≡ true → is_row schema row ≡ true → 0 < length row
some_bytes schema row good is = some_step schema.columns schema.key row good is
