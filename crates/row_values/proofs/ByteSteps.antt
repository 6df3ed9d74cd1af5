-- The bytes of schemas, step by step.
use Rattle.std.proofs.Common.{◌≡◌, ℕ, ◌+◌, ◌<◌, ◌≤◌, zero, suc, List, [], ◌∷◌, ◌++◌, Bool, true, false, ◌&&◌, ◌||◌, if◌then◌else◌, refl, sym, ap, ◌∙◌, map, length, drop, nat_le, Option, Some, None, option_map, arith, append_assoc, length-append, ◌==◌}
use Rattle.byteorder.specs.Endian.{big_bytes}
use Rattle.std.specs.Option.{option_and_then}
use Rattle.std.specs.List.{flat_map, list_all, slice_get}
use Rattle.std.specs.Str.{IsAscii, is_utf8}
use Rattle.std.proofs.lemmas.Str.{IsUtf8-from_ascii, is_utf8-from_IsUtf8}
use Rattle.std.proofs.lemmas.Bool.Decides.{nat_tests}
use Rattle.row_values.specs.declared.column.Column.{Column as CodeColumn}
use Rattle.row_values.specs.Column.{Column, column_of}
use Rattle.row_values.specs.Schema.{Schema, goes_on_name, is_capital, is_column, is_limit, is_name, is_schema}
use Rattle.row_values.specs.Row.{utf8_in}
use Rattle.row_values.specs.Bytes.{Fails, code_of, flag_of, named, column_at, column_bytes, columns_at, name_at, name_in, named_at, parts_at, schema_at}
use Rattle.row_values.specs.declared.row.ReadError.{ReadError}
use Rattle.row_values.specs.declared.row.ReadError.TheVariants.{Damaged, NoMemory}
use Rattle.row_values.proofs.ValueLaws.{chained, first_true, mapped, second_true}
use Rattle.row_values.proofs.ReadSteps.{drop_at}

capital_ascii : (c : ℕ) → is_capital c ≡ true → c < 128
capital_ascii c h = grind (arith, nat_tests)

or_ascii : (a b : Bool) (c : ℕ) → (a ≡ true → c < 128) → (b ≡ true → c < 128) → (a || b) ≡ true → c < 128
or_ascii true b c p q h = p refl
or_ascii false b c p q h = q h

digit_ascii : (c : ℕ) → (nat_le 48 c && nat_le c 57) ≡ true → c < 128
digit_ascii c h = grind (arith, nat_tests)

under_ascii : (c : ℕ) → (c == 95) ≡ true → c < 128
under_ascii c h = grind (arith, nat_tests)

on_ascii : (c : ℕ) → goes_on_name c ≡ true → c < 128
on_ascii c h = or_ascii (is_capital c || (nat_le 48 c && nat_le c 57)) (c == 95) c (or_ascii (is_capital c) (nat_le 48 c && nat_le c 57) c (capital_ascii c) (digit_ascii c)) (under_ascii c) h

all_ascii : (cs : List ℕ) → list_all goes_on_name cs ≡ true → IsAscii cs
all_ascii [] h i = omega arith
all_ascii (c ∷ cs) h zero = on_ascii c (first_true (goes_on_name c) (list_all goes_on_name cs) h)
all_ascii (c ∷ cs) h (suc i) = all_ascii cs (second_true (goes_on_name c) (list_all goes_on_name cs) h) i

name_ascii : (name : List ℕ) → is_name name ≡ true → IsAscii name
name_ascii [] h i = omega arith
name_ascii (c ∷ cs) h zero = capital_ascii c (first_true (is_capital c) (list_all goes_on_name cs) (first_true (is_capital c && list_all goes_on_name cs) (nat_le (length cs) 29) h))
name_ascii (c ∷ cs) h (suc i) = all_ascii cs (second_true (is_capital c) (list_all goes_on_name cs) (first_true (is_capital c && list_all goes_on_name cs) (nat_le (length cs) 29) h)) i

-- a name is UTF-8
pub name_utf8 : (name : List ℕ) → is_name name ≡ true → utf8_in name ≡ Some name
name_utf8 name h = let u : is_utf8 name ≡ true = is_utf8-from_IsUtf8 name (IsUtf8-from_ascii name (name_ascii name h)) in rw u refl

-- ---- columns

-- columns read already, before others
abbrev pub before : List Column → Option (List Column × List ℕ) → Option (List Column × List ℕ)
before columns o = option_map (λ (y : List Column × List ℕ). (columns ++ y.0, y.1)) o

one_more : (columns : List Column) (c : Column) (o : Option (List Column × List ℕ)) → before columns (option_map (λ (y : List Column × List ℕ). (c ∷ y.0, y.1)) o) ≡ before (columns ++ c ∷ []) o
one_more columns c None = refl
one_more columns c (Some y) = ap (λ (l : List Column). Some (l, y.1)) (sym (append_assoc columns (c ∷ []) y.0))

pub columns_go : (columns : List Column) (n left : ℕ) (rest : List ℕ) (x : Column × List ℕ) → n ≡ suc left → Some x ≡ column_at rest → before (columns ++ x.0 ∷ []) (columns_at left x.1) ≡ before columns (columns_at n rest)
columns_go columns n left rest x count is =
    sym (ap (λ (m : ℕ). before columns (columns_at m rest)) count
    ∙ ap (λ (o : Option (Column × List ℕ)). before columns (option_and_then (λ (c : Column × List ℕ). option_map (λ (y : List Column × List ℕ). (c.0 ∷ y.0, y.1)) (columns_at left c.1)) o)) (sym is)
    ∙ one_more columns x.0 (columns_at left x.1))

pub columns_stop : (columns : List Column) (n left : ℕ) (rest : List ℕ) → n ≡ suc left → None ≡ column_at rest → before columns (columns_at n rest) ≡ None
columns_stop columns n left rest count is =
    ap (λ (m : ℕ). before columns (columns_at m rest)) count
    ∙ ap (λ (o : Option (Column × List ℕ)). before columns (option_and_then (λ (c : Column × List ℕ). option_map (λ (y : List Column × List ℕ). (c.0 ∷ y.0, y.1)) (columns_at left c.1)) o)) (sym is)

push_map : (items : List CodeColumn) (c : CodeColumn) → map column_of (items ++ c ∷ []) ≡ map column_of items ++ column_of c ∷ []
push_map [] c = refl
push_map (x ∷ xs) c = ap (λ (l : List Column). column_of x ∷ l) (push_map xs c)

-- the bytes of the columns from a place on
pub columns_from : (columns : List Column) (i : ℕ) (column : Column) → slice_get columns i ≡ Some column → flat_map column_bytes (drop i columns) ≡ column_bytes column ++ flat_map column_bytes (drop (i + 1) columns)
columns_from columns i column at = ap (flat_map column_bytes) (drop_at columns i column at)

pub name_found : (name : List ℕ) → is_name name ≡ true → utf8_in name ≡ name_in name
unfolding name_in
name_found name h = name_utf8 name h ∙ rw h refl

pub no_name : (name : List ℕ) → is_name name ≡ false → None ≡ name_in name
unfolding name_in
no_name name h = rw h refl

-- ---- schemas

pub tested : {A : Type 0} (b : Bool) (x : A) → b ≡ true → (if b then Some x else None) ≡ Some x
tested b x h = rw h refl

refused : {A : Type 0} (b : Bool) (x : A) → (b ≡ true → ⊥) → (if b then Some x else None) ≡ None
refused true x h = absurd (h refl)
refused false x h = refl

pub schema_found : (bytes : List ℕ) (x : Schema × List ℕ) → parts_at bytes ≡ Some x → is_schema x.0 ≡ true → schema_at bytes ≡ Some x
unfolding schema_at
schema_found bytes x is good = ap (option_and_then (λ (y : Schema × List ℕ). if is_schema y.0 then Some y else None)) is ∙ tested (is_schema x.0) x good

pub no_schema : (bytes : List ℕ) (x : Schema × List ℕ) → parts_at bytes ≡ Some x → (is_schema x.0 ≡ true → ⊥) → schema_at bytes ≡ None
unfolding schema_at
no_schema bytes x is bad = ap (option_and_then (λ (y : Schema × List ℕ). if is_schema y.0 then Some y else None)) is ∙ refused (is_schema x.0) x bad

no_parts : (bytes : List ℕ) → parts_at bytes ≡ None → schema_at bytes ≡ None
unfolding schema_at
no_parts bytes is = ap (option_and_then (λ (y : Schema × List ℕ). if is_schema y.0 then Some y else None)) is

pub schema_error : (bytes : List ℕ) (e : ReadError) → Fails e (parts_at bytes) → Fails e (schema_at bytes)
schema_error bytes Damaged is = no_parts bytes is
schema_error bytes NoMemory is = tt

pub pushed : (items new : List CodeColumn) (c : CodeColumn) (schema : Column) → new ≡ items ++ c ∷ [] → column_of c ≡ schema → map column_of new ≡ map column_of items ++ schema ∷ []
pushed items new c schema is same = ap (map column_of) is ∙ push_map items c ∙ ap (λ (s : Column). map column_of items ++ s ∷ []) same

-- ---- lengths

pub column_length : (c : Column) → length (column_bytes c) ≡ 5 + length c.name
column_length c = let sum = length-append (named c.name) (code_of c.kind ∷ flag_of c.is_nullable ∷ big_bytes 2 c.limit) in omega (arith, sum)

pub columns_length_from : (columns : List Column) (i : ℕ) (column : Column) → slice_get columns i ≡ Some column → length (flat_map column_bytes (drop i columns)) ≡ 5 + length column.name + length (flat_map column_bytes (drop (i + 1) columns))
columns_length_from columns i column at =
    let one = column_length column in
    let sum = length-append (column_bytes column) (flat_map column_bytes (drop (i + 1) columns)) in
    ap length (columns_from columns i column at) ∙ omega arith

pub short_name : (name : List ℕ) → is_name name ≡ true → length name ≤ 30
short_name [] h = omega arith
short_name (c ∷ cs) h =
    let told : nat_le (length cs) 29 ≡ true = second_true (is_capital c && list_all goes_on_name cs) (nat_le (length cs) 29) h in
    let few : length cs ≤ 29 = grind (arith, nat_tests) in
    omega arith

pub name_short : (c : Column) → is_column c ≡ true → length c.name ≤ 30
name_short c h = short_name c.name (first_true (is_name c.name) (is_limit c.kind c.limit) h)

-- ---- changes

pub taken : {A : Type 0} (p : A → Bool) (b : Bool) (y x : A) → (if b then Some y else None) ≡ Some x → p y ≡ b → p x ≡ true
taken p true y x h is = let same : y ≡ x = cc in ap p (sym same) ∙ is
taken p false y x h is = absurd cc

pub schema_good : (bytes : List ℕ) (x : Schema × List ℕ) → schema_at bytes ≡ Some x → is_schema x.0 ≡ true
unfolding schema_at
schema_good bytes x h =
    let m = chained (λ (y : Schema × List ℕ). if is_schema y.0 then Some y else None) (parts_at bytes) x h in
    taken (λ (y : Schema × List ℕ). is_schema y.0) (is_schema m.0.0) m.0 x m.2 refl

pub name_good : (bytes : List ℕ) (x : List ℕ × List ℕ) → name_at bytes ≡ Some x → is_name x.0 ≡ true
unfolding name_in
name_good bytes x h =
    let m = chained (λ (y : List ℕ × List ℕ). option_map (λ (name : List ℕ). (name, y.1)) (name_in y.0)) (named_at bytes) x h in
    let t = mapped (λ (name : List ℕ). (name, m.0.1)) (name_in m.0.0) x m.2 in
    let first : t.0 ≡ x.0 = ap (λ (y : List ℕ × List ℕ). y.0) t.2 in
    ap is_name (sym first) ∙ taken is_name (is_name m.0.0) m.0.0 t.0 t.1 refl
