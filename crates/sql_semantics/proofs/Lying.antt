-- Changes lie in what is claimed.
use Rattle.std.proofs.Common.{◌≡◌, ◌⊎◌, inl, inr, ⊎_elim, ℕ, zero, suc, ◌||◌, nat_eq, eq-eqb, List, [], ◌∷◌, Bool, true, false, cond, ◌&&◌, ◌==◌, refl, sym, ap, subst, ◌∙◌, Option, Some, None, option_map, length, Ok, Err}
use Rattle.std.specs.Prelude.{if◌then◌else◌, slice_set, ◌++◌, filter, map, nat_le, nat_lt}
use Rattle.std.specs.List.{flat_map, list_all, list_any, slice_get}
use Rattle.std.specs.Map.{keys_of}
use Rattle.sql_text.specs.declared.tree.Columns.{Columns}
use Rattle.sql_text.specs.declared.tree.Sum.{Sum}
use Rattle.sql_text.specs.declared.tree.Assignment.{Assignment}
use Rattle.sql_text.specs.declared.tree.Predicate.{Predicate}
use Rattle.sql_text.specs.declared.tree.Command.{Command}
use Rattle.sql_text.specs.declared.tree.Command.TheVariants as command
use Rattle.row_values.specs.Value.{Value}
use Rattle.row_values.specs.Column.{Column}
use Rattle.row_values.specs.Schema.{Schema, are_columns, is_column, is_key_of, is_name, is_schema, key_columns, no_repeat, picked, same_name}
use Rattle.row_values.specs.Row.{all_fit, row_bytes, values_at, values_in}
use Rattle.row_values.specs.Key.{key_cmp, row_key}
use Rattle.tables.specs.Change.{change_bytes}
use Rattle.tables.specs.Change.{Change, create, put, remove}
use Rattle.tables.specs.Tables.{Store, Table, rows_of, schema_of, table_of}
use Rattle.tables.specs.View.{is_entry}
use Rattle.drda_words.specs.Order.{rises}
use Rattle.row_values.specs.Laws.{WrittenIsRead}
use Rattle.unit_locks.specs.declared.access.Access.{Access}
use Rattle.unit_locks.specs.declared.access.Access.TheVariants.{Read, Write}
use Rattle.sql_semantics.specs.Values.{column_place, literal_value, name_of}
use Rattle.sql_semantics.specs.Checked.{Checked, and_then, if_none, unless}
use Rattle.sql_semantics.specs.Classes.{filter_fault, selected_places}
use Rattle.sql_semantics.specs.Update.{new_target, place_fault, set_all, sum_fault, sum_value, targets, updated_row, updated_rows}
use Rattle.sql_semantics.specs.Insert.{first_misfit, fitting_key, given_key, given_row, new_row}
use Rattle.sql_semantics.specs.Keys.{key_of_values, values_key}
use Rattle.sql_semantics.specs.Create.{defined_schema}
use Rattle.sql_semantics.specs.Scope.{All, Names, One, Scope, claims, filter_key, scope, scope_by, scope_claims, scope_in, table_name}
use Rattle.sql_semantics.specs.Meaning.{update_answer, Answer, Changes, Rows, answer, answered, concerns, create_answer, insert_answer, put_answer, within_room}
use Rattle.sql_semantics.specs.Frame.{HasKey, In, InWrite, Lies, Within, changes_of}
use Rattle.core_calls.specs.declared.sql_fault.SqlFault.{SqlFault}
use Rattle.core_calls.specs.declared.sql_fault.SqlFault.TheVariants as fault
use Rattle.sql_semantics.proofs.Covering.{Good, first_true, good_table, second_true}
use Rattle.sql_semantics.proofs.Fixed.{about_one}

-- ---- changes that pass checks

abbrev Made : Checked Answer → List Change
Made r = changes_of (answered r)

made_if : (b : Bool) (e : SqlFault) (go : Checked Answer) (x : Change) → In x (Made (unless b e go)) → (b ≡ true) × In x (Made go)
made_if true e go x i = (refl, i)
made_if false e go x i = absurd i

made_none : (o : Option SqlFault) (go : Checked Answer) (x : Change) → In x (Made (if_none o go)) → In x (Made go)
made_none None go x i = i
made_none (Some e) go x i = absurd i

made_room : (left : ℕ) (ds : List Change) (n : ℕ) (x : Change) → In x (Made (within_room left ds n)) → In x ds
made_room left ds n x i = (made_if (nat_le (length (flat_map change_bytes ds)) left) fault.LimitReached (Ok (Changes ds n)) x i).1

only : (x y : Change) → In x (y ∷ []) → x ≡ y
only x y (inl e) = e
only x y (inr i) = absurd i

ok_inside : {A : Type 0} (x y : A) → ◌≡◌ {A = Checked A} (Ok x) (Ok y) → x ≡ y
ok_inside x y h = cc

not_ok : {A : Type 0} (e : SqlFault) (x : A) → ◌≡◌ {A = Checked A} (Err e) (Ok x) → ⊥
not_ok e x h = absurd cc

then_ok : {A B : Type 0} (r : Checked A) (f : A → Checked B) (y : B) → and_then r f ≡ Ok y → (x : A) × (r ≡ Ok x) × (f x ≡ Ok y)
then_ok (Ok x) f y h = (x, refl, h)
then_ok (Err e) f y h = absurd (not_ok e y h)

none_ok : {A : Type 0} (o : Option SqlFault) (go : Checked A) (y : A) → if_none o go ≡ Ok y → go ≡ Ok y
none_ok None go y h = h
none_ok (Some e) go y h = absurd (not_ok e y h)

unless_ok : {A : Type 0} (b : Bool) (e : SqlFault) (go : Checked A) (y : A) → unless b e go ≡ Ok y → (b ≡ true) × (go ≡ Ok y)
unless_ok true e go y h = (refl, h)
unless_ok false e go y h = absurd (not_ok e y h)

made_then : {A : Type 0} (r : Checked A) (f : A → Checked Answer) (x : Change) → In x (Made (and_then r f)) → (y : A) × (r ≡ Ok y) × In x (Made (f y))
made_then (Ok y) f x i = (y, refl, i)
made_then (Err e) f x i = absurd i

-- ---- INSERT

values_back : WrittenIsRead → (schema : Schema) (values : List Value) → is_schema schema ≡ true → all_fit schema.columns values ≡ true → nat_le (length (row_bytes schema.columns values)) 4000 ≡ true → values_in schema (row_bytes schema.columns values) ≡ values
values_back written schema values good fit short =
    let columns = first_true (are_columns schema.columns) (is_key_of schema.columns schema.key) good in
    let all : list_all is_column schema.columns ≡ true =
    second_true (nat_le (length schema.columns) 64) (list_all is_column schema.columns) (first_true (nat_le (length schema.columns) 64 && list_all is_column schema.columns) (no_repeat same_name schema.columns) columns) in
    let back : values_at schema.columns (row_bytes schema.columns values) ≡ Some values = written schema.columns values all fit in
    rw (short, back) refl

-- what is put, and that its key is that of its values
put_made : WrittenIsRead → (left : ℕ) (table : List ℕ) (schema : Schema) (others : List (List ℕ)) (values : List Value) (x : Change) → is_schema schema ≡ true → In x (Made (put_answer left table schema others values))
    → (x ≡ put table (row_bytes schema.columns values)) × (row_key schema (row_bytes schema.columns values) ≡ values_key schema (picked values schema.key))
put_made written left table schema others values x good i =
    let r = made_then (new_row schema values) _ x (made_none (first_misfit schema.columns values) _ x i) in
    let b = unless_ok (all_fit schema.columns values) fault.Syntax _ r.0 r.1 in
    let c = unless_ok (nat_le (length (row_bytes schema.columns values)) 4000) fault.LimitReached _ r.0 b.1 in
    let same : row_bytes schema.columns values ≡ r.0 = ok_inside (row_bytes schema.columns values) r.0 c.1 in
    let d = made_if (length others == 0) fault.KeyExists _ x r.2 in
    (only x (put table r.0) (made_room left (put table r.0 ∷ []) 1 x d.1) ∙ ap (put table) (sym same), ap (λ vs. row_bytes (key_columns schema) (picked vs schema.key)) (values_back written schema values good b.0 c.0))

abbrev In_insert : Schema → List ℕ → Change → Scope → Type 0
In_insert schema table x sc = (row : List ℕ) × (x ≡ put table row) × (InWrite table None (scope_claims Write table sc) ⊎ ((key : List ℕ) × (row_key schema row ≡ key) × InWrite table (Some key) (scope_claims Write table sc)))

insert_by_fit : (table : List ℕ) (schema : Schema) (values : List Value) (x : Change) (b : Bool) → (x ≡ put table (row_bytes schema.columns values)) → (row_key schema (row_bytes schema.columns values) ≡ values_key schema (picked values schema.key))
    → In_insert schema table x (scope_by (if b then Some (values_key schema (picked values schema.key)) else None))
insert_by_fit table schema values x true is key = (row_bytes schema.columns values, is, inr (values_key schema (picked values schema.key), key, inl refl))
insert_by_fit table schema values x false is key = (row_bytes schema.columns values, is, inl (inl refl))

insert_by : WrittenIsRead → (left : ℕ) (table : List ℕ) (schema : Schema) (others : List (List ℕ)) (r : Checked (List Value)) (x : Change) → is_schema schema ≡ true → In x (Made (and_then r (put_answer left table schema others)))
    → In_insert schema table x (scope_by (fitting_key schema r))
unfolding key_of_values
insert_by written left table schema others (Ok values) x good i =
    let m = put_made written left table schema others values x good i in
    insert_by_fit table schema values x (all_fit (key_columns schema) (picked values schema.key)) m.0 m.1
insert_by written left table schema others (Err e) x good i = absurd i

insert_lies : WrittenIsRead → (left : ℕ) (table : List ℕ) (schema : Schema) (named : Columns) (values : List Value) (others : List (List ℕ)) (x : Change) → is_schema schema ≡ true → In x (Made (insert_answer left table schema named values others))
    → In_insert schema table x (scope_by (given_key schema named values))
unfolding given_key
insert_lies written left table schema named values others x good i = insert_by written left table schema others (given_row schema named values) x good i

put_within : (s : Store) (table : List ℕ) (schema : Schema) (x : Change) (sc : Scope) → schema_of s table ≡ Some schema → In_insert schema table x sc → Within s x (scope_claims Write table sc)
put_within s table schema x sc there h =
    let to_row : Change → Type 0 = λ y. Within s y (scope_claims Write table sc) in
    subst to_row (sym h.1)
    (⊎_elim (λ all. inl all) (λ (one : (key : List ℕ) × (row_key schema h.0 ≡ key) × InWrite table (Some key) (scope_claims Write table sc)). inr (one.0, subst (λ (q : Option Schema). HasKey q h.0 one.0) (sym there) one.1, one.2)) h.2)

-- ---- DELETE

abbrev Removed : List Value → Command → Schema → List ℕ → Change → Type 0
Removed params c schema table x = (row : List ℕ) × (x ≡ remove table (row_key schema row)) × (concerns params c schema row ≡ true)

removed_step : (params : List Value) (c : Command) (schema : Schema) (table row : List ℕ) (rows : List (List ℕ)) (x : Change) (b : Bool) → concerns params c schema row ≡ b
    → In x (map (λ row. remove table (row_key schema row)) (cond b (row ∷ rows) rows)) → (In x (map (λ row. remove table (row_key schema row)) rows) → Removed params c schema table x) → Removed params c schema table x
removed_step params c schema table row rows x true is (inl e) more = (row, e, is)
removed_step params c schema table row rows x true is (inr i) more = more i
removed_step params c schema table row rows x false is i more = more i

removed : (params : List Value) (c : Command) (schema : Schema) (table : List ℕ) (rows : List (List ℕ)) (x : Change) → In x (map (λ row. remove table (row_key schema row)) (filter (concerns params c schema) rows)) → Removed params c schema table x
removed params c schema table [] x i = absurd i
removed params c schema table (row ∷ rows) x i = removed_step params c schema table row (filter (concerns params c schema) rows) x (concerns params c schema row) refl i (removed params c schema table rows x)

remove_within : (s : Store) (params : List Value) (c : Command) (schema : Schema) (table : List ℕ) (x : Change) (sc : Scope) → scope_in params c schema ≡ sc → Removed params c schema table x → Within s x (scope_claims Write table sc)
remove_within s params c schema table x Names is h = subst (λ (y : Change). Within s y (scope_claims Write table Names)) (sym h.1) (inl (inl refl))
remove_within s params c schema table x All is h = subst (λ (y : Change). Within s y (scope_claims Write table All)) (sym h.1) (inl (inl refl))
remove_within s params c schema table x (One k) is h =
    let key : row_key schema h.0 ≡ k = about_one params c schema h.0 k is h.2 in
    subst (λ (y : Change). Within s y (scope_claims Write table (One k))) (sym (h.1 ∙ ap (remove table) key)) (inr (inl refl))

-- ---- UPDATE

abbrev AllOff : List ℕ → List (ℕ × Sum) → Type 0
AllOff key [] = Unit {0}
AllOff key (t ∷ ts) = (list_any (nat_eq t.0) key ≡ false) × AllOff key ts

target_off : (key found : List ℕ) (o : Option ℕ) (p : ℕ) → new_target key found o ≡ Ok p → list_any (nat_eq p) key ≡ false
target_off key found None p h = absurd (not_ok _ p h)
target_off key found (Some q) p h = by (list_any (nat_eq q) key) (list_any (nat_eq q) found) refl h
  where
    by : (b d : Bool) → list_any (nat_eq q) key ≡ b → (if b then Err fault.Syntax else (if d then Err fault.Syntax else Ok q)) ≡ Ok p → list_any (nat_eq p) key ≡ false
    by true d is h = absurd (not_ok _ p h)
    by false true is h = absurd (not_ok _ p h)
    by false false is h = ap (λ r. list_any (nat_eq r) key) (sym (ok_inside q p h)) ∙ is

targets_off : (params : List Value) (cs : List Column) (key found : List ℕ) (more_as : List Assignment) (ts : List (ℕ × Sum)) → targets params cs key found more_as ≡ Ok ts → AllOff key ts
targets_off params cs key found [] ts h = subst (AllOff key) (ok_inside [] ts h) tt
targets_off params cs key found (a ∷ more_as) ts h =
    let p = then_ok (new_target key found (column_place cs a.column)) _ ts h in
    let r = then_ok (targets params cs key (found ++ p.0 ∷ []) more_as) (λ us. Ok ((p.0, a.sum) ∷ us)) ts (none_ok (sum_fault params cs p.0 a.sum) _ ts p.2) in
    subst (AllOff key) (ok_inside ((p.0, a.sum) ∷ r.0) ts r.2) (target_off key found (column_place cs a.column) p.0 p.1, targets_off params cs key (found ++ p.0 ∷ []) more_as r.0 r.1)

set_other : (vs : List Value) (p q : ℕ) (v : Value) → (p ≡ q → ⊥) → slice_get (slice_set vs p v) q ≡ slice_get vs q
set_other [] p q v ne = refl
set_other (w ∷ vs) zero zero v ne = absurd (ne refl)
set_other (w ∷ vs) zero (suc q) v ne = refl
set_other (w ∷ vs) (suc p) zero v ne = refl
set_other (w ∷ vs) (suc p) (suc q) v ne = set_other vs p q v (λ e. ne (ap suc e))

picked_other : (vs : List Value) (p : ℕ) (v : Value) (key : List ℕ) → list_any (nat_eq p) key ≡ false → picked (slice_set vs p v) key ≡ picked vs key
picked_other vs p v [] off = refl
picked_other vs p v (k ∷ ks) off =
    let parts = off_parts (nat_eq p k) (list_any (nat_eq p) ks) off in
    let here : slice_get (slice_set vs p v) k ≡ slice_get vs k = set_other vs p k v (λ e. unlike p k parts.0 e) in
    let rest = picked_other vs p v ks parts.1 in
    rw (here, rest) refl
  where
    off_parts : (a b : Bool) → (a || b) ≡ false → (a ≡ false) × (b ≡ false)
    off_parts true b h = absurd cc
    off_parts false b h = (refl, h)

    unlike : (a b : ℕ) → nat_eq a b ≡ false → a ≡ b → ⊥
    unlike a b ne e = let yes = eq-eqb a b e in cc

set_off : (params : List Value) (cs : List Column) (old : List Value) (key : List ℕ) (ts : List (ℕ × Sum)) (vs ws : List Value) → AllOff key ts → set_all params cs old ts vs ≡ Ok ws → picked ws key ≡ picked vs key
set_off params cs old key [] vs ws off h = ap (λ xs. picked xs key) (sym (ok_inside vs ws h))
set_off params cs old key (t ∷ ts) vs ws off h =
    let v = then_ok (sum_value params cs old t.1) _ ws h in
    let more = none_ok (place_fault (slice_get cs t.0) v.0) (set_all params cs old ts (slice_set vs t.0 v.0)) ws v.2 in
    set_off params cs old key ts (slice_set vs t.0 v.0) ws off.1 more ∙ picked_other vs t.0 v.0 key off.0

-- a row that is changed keeps its key
update_keeps : WrittenIsRead → (params : List Value) (schema : Schema) (ts : List (ℕ × Sum)) (row new : List ℕ) → is_schema schema ≡ true → AllOff schema.key ts → updated_row params schema ts row ≡ Ok new → row_key schema new ≡ row_key schema row
update_keeps written params schema ts row new good off h =
    let s = then_ok (set_all params schema.columns (values_in schema row) ts (values_in schema row)) (new_row schema) new h in
    let a = unless_ok (all_fit schema.columns s.0) fault.Syntax _ new s.2 in
    let b = unless_ok (nat_le (length (row_bytes schema.columns s.0)) 4000) fault.LimitReached _ new a.1 in
    let is : row_bytes schema.columns s.0 ≡ new = ok_inside (row_bytes schema.columns s.0) new b.1 in
    ap (row_key schema) (sym is)
    ∙ ap (λ vs. row_bytes (key_columns schema) (picked vs schema.key)) (values_back written schema s.0 good a.0 b.0)
    ∙ ap (row_bytes (key_columns schema)) (set_off params schema.columns (values_in schema row) schema.key ts (values_in schema row) s.0 off s.1)

abbrev Updated : List Value → Command → Schema → List ℕ → Change → Type 0
Updated params c schema table x = (new : List ℕ) × (x ≡ put table new) × ((row : List ℕ) × (row_key schema new ≡ row_key schema row) × (concerns params c schema row ≡ true))

updated : WrittenIsRead → (params : List Value) (c : Command) (schema : Schema) (table : List ℕ) (ts : List (ℕ × Sum)) (rows : List (List ℕ)) (ds : List Change) (x : Change) → is_schema schema ≡ true → AllOff schema.key ts
    → updated_rows params table schema ts (filter (concerns params c schema) rows) ≡ Ok ds → In x ds → Updated params c schema table x
updated written params c schema table ts [] ds x good off h i = absurd (subst (In x) (sym (ok_inside [] ds h)) i)
updated written params c schema table ts (row ∷ rows) ds x good off h i =
    by (concerns params c schema row) refl h (λ es more j. updated written params c schema table ts rows es x good off more j)
  where
    pick : (new : List ℕ) (es : List Change) → updated_row params schema ts row ≡ Ok new → concerns params c schema row ≡ true → updated_rows params table schema ts (filter (concerns params c schema) rows) ≡ Ok es → In x (put table new ∷ es)
        → ((es : List Change) → updated_rows params table schema ts (filter (concerns params c schema) rows) ≡ Ok es → In x es → Updated params c schema table x) → Updated params c schema table x
    pick new es is there more (inl e) rest = (new, e, (row, update_keeps written params schema ts row new good off is, there))
    pick new es is there more (inr j) rest = rest es more j

    by : (b : Bool) → concerns params c schema row ≡ b → updated_rows params table schema ts (cond b (row ∷ filter (concerns params c schema) rows) (filter (concerns params c schema) rows)) ≡ Ok ds
        → ((es : List Change) → updated_rows params table schema ts (filter (concerns params c schema) rows) ≡ Ok es → In x es → Updated params c schema table x) → Updated params c schema table x
    by true there g rest =
        let n = then_ok (updated_row params schema ts row) _ ds g in
        let r = then_ok (updated_rows params table schema ts (filter (concerns params c schema) rows)) (λ es. Ok (put table n.0 ∷ es)) ds n.2 in
        pick n.0 r.0 n.1 there r.1 (subst (In x) (sym (ok_inside (put table n.0 ∷ r.0) ds r.2)) i) rest
    by false there g rest = rest ds g i

update_within : (s : Store) (params : List Value) (c : Command) (schema : Schema) (table : List ℕ) (x : Change) (sc : Scope) → schema_of s table ≡ Some schema → scope_in params c schema ≡ sc → Updated params c schema table x → Within s x (scope_claims Write table sc)
update_within s params c schema table x Names there is h = subst (λ (y : Change). Within s y (scope_claims Write table Names)) (sym h.1) (inl (inl refl))
update_within s params c schema table x All there is h = subst (λ (y : Change). Within s y (scope_claims Write table All)) (sym h.1) (inl (inl refl))
update_within s params c schema table x (One k) there is h =
    let key : row_key schema h.0 ≡ k = h.2.1 ∙ about_one params c schema h.2.0 k is h.2.2 in
    subst (λ (y : Change). Within s y (scope_claims Write table (One k))) (sym h.1) (inr (k, subst (λ (q : Option Schema). HasKey q h.0 k) (sym there) key, inl refl))

update_lies : WrittenIsRead → (s : Store) (left : ℕ) (params : List Value) (c : Command) (table : List ℕ) (schema : Schema) (more_as : List Assignment) (f : Option Predicate) (rows : List (List ℕ)) (x : Change) (sc : Scope) → is_schema schema ≡ true → schema_of s table ≡ Some schema → scope_in params c schema ≡ sc
    → In x (Made (update_answer left params table schema more_as f (filter (concerns params c schema) rows))) → Within s x (scope_claims Write table sc)
update_lies written s left params c table schema more_as f rows x sc good there is i =
    let t = made_then (targets params schema.columns schema.key [] more_as) _ x i in
    let u = made_then (updated_rows params table schema t.0 (filter (concerns params c schema) rows)) _ x (made_none (filter_fault params schema.columns f) _ x t.2) in
    update_within s params c schema table x sc there is
    (updated written params c schema table t.0 rows u.0 x good (targets_off params schema.columns schema.key [] more_as t.0 t.1) u.1 (made_room left u.0 _ x u.2))

-- ---- all of them

not_made : (o : Option SqlFault) (a : Checked Answer) (x : Change) → (In x (Made a) → ⊥) → In x (Made (if_none o a)) → ⊥
not_made None a x none i = none i
not_made (Some e) a x none i = i

select_makes : (r : Checked (List ℕ)) (o : Option SqlFault) (f : List ℕ → _) (x : Change) → In x (Made (and_then r (λ places. if_none o (Ok (Rows (f places)))))) → ⊥
select_makes (Ok places) o f x i = not_made o (Ok (Rows (f places))) x (λ j. j) i
select_makes (Err e) o f x i = i

create_within : (s : Store) (left : ℕ) (table : List ℕ) (schema : Schema) (n : ℕ) (x : Change) (w : Access) → In x (Made (create_answer left table schema n)) → Within s x (scope_claims w table Names)
create_within s left table schema n x w i =
    let good = made_if (is_name table && is_schema schema) fault.Syntax _ x i in
    let made = made_room left (create table schema ∷ []) 0 x (made_if (nat_lt n 1000) fault.LimitReached _ x good.1).1 in
    subst (λ (y : Change). Within s y (scope_claims w table Names)) (sym (only x (create table schema) made)) (inl refl, inr (inl refl), second_true (is_name table) (is_schema schema) good.0)

abbrev Lies_at : List Value → ℕ → Command → Store → Change → Option Schema → List (List ℕ) → ℕ → Type 0
Lies_at params left c s x q rows n = schema_of s (table_name c) ≡ q → In x (changes_of (answer params left c q rows n)) → Within s x (claims params c q)

absent_lies : (params : List Value) (left : ℕ) (c : Command) (s : Store) (x : Change) (rows : List (List ℕ)) (n : ℕ) → Lies_at params left c s x None rows n
unfolding answer claims scope
absent_lies params left (command.Create table ds key) s x rows n there i = create_within s left (name_of table) (defined_schema ds key) n x Read i
absent_lies params left (command.Insert table names values) s x rows n there i = absurd i
absent_lies params left (command.Update table assignments f) s x rows n there i = absurd i
absent_lies params left (command.Delete table f) s x rows n there i = absurd i
absent_lies params left (command.Select names table f) s x rows n there i = absurd i

found_lies : WrittenIsRead → (params : List Value) (left : ℕ) (c : Command) (s : Store) (x : Change) (schema : Schema) (rows : List (List ℕ)) (n : ℕ) → is_schema schema ≡ true → Lies_at params left c s x (Some schema) rows n
unfolding answer claims scope
found_lies written params left (command.Create table ds key) s x schema rows n good there i = absurd i
found_lies written params left (command.Insert table names values) s x schema rows n good there i =
    put_within s (name_of table) schema x (scope_by (given_key schema names (map (literal_value params) values))) there
    (insert_lies written left (name_of table) schema names (map (literal_value params) values) (filter (concerns params (command.Insert table names values) schema) rows) x good i)
found_lies written params left (command.Update table assignments f) s x schema rows n good there i =
    update_lies written s left params (command.Update table assignments f) (name_of table) schema assignments f rows x (scope_by (filter_key params schema f)) good there refl i
found_lies written params left (command.Delete table f) s x schema rows n good there i =
    remove_within s params (command.Delete table f) schema (name_of table) x (scope_by (filter_key params schema f)) refl
    (removed params (command.Delete table f) schema (name_of table) rows x (made_room left _ _ x (made_none (filter_fault params schema.columns f) _ x i)))
found_lies written params left (command.Select names table f) s x schema rows n good there i =
    absurd (select_makes (selected_places schema.columns names) (filter_fault params schema.columns f) (λ places. record { schema = schema; selected = places; rows = filter (concerns params (command.Select names table f) schema) rows }) x i)

lies_by : WrittenIsRead → (params : List Value) (left : ℕ) (c : Command) (s : Store) (x : Change) (o : Option Table) (rows : List (List ℕ)) (n : ℕ) → Good o → Lies_at params left c s x (option_map (λ (t : Table). t.schema) o) rows n
lies_by written params left c s x None rows n good = absent_lies params left c s x rows n
lies_by written params left c s x (Some t) rows n good =
    found_lies written params left c s x t.schema rows n
    (first_true (is_schema t.schema) (list_all (is_entry t.schema) t.rows) (first_true (is_schema t.schema && list_all (is_entry t.schema) t.rows) (rises (key_cmp t.schema) (keys_of t.rows)) good))

pub changes_lie : WrittenIsRead → Lies
changes_lie written params left c s x good i = lies_by written params left c s x (table_of s (table_name c)) (rows_of s (table_name c)) (length s) (good_table s (table_name c) good) refl i

-- ---- of the answer by what is covered
