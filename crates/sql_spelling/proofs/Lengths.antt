-- The texts are short enough to be read.
use Rattle.std.proofs.Common.{◌≡◌, ℕ, suc, ◌+◌, ◌*◌, ◌≤◌, Bool, true, false, List, [], ◌∷◌, ◌++◌, length, arith}
use Rattle.std.specs.Prelude.{ℤ, pos, negsuc, nat_le, ◌==◌, codes, if◌then◌else◌}
use Rattle.std.specs.Fmt.{decimal, signed_decimal}
use Rattle.std.specs.List.{list_all, flat_map}
use Rattle.std.proofs.lemmas.Bool.Decides.{nat_tests}
use Rattle.std.proofs.lemmas.Fmt.{length-decimal-le}
use Rattle.std.proofs.lemmas.List.{length-append}
use Rattle.sql_lex.specs.Spelling.{doubled}
use Rattle.sql_text.specs.Spelled.{pairs_of}
use Rattle.row_values.specs.declared.column.Kind.{Kind}
use Rattle.row_values.specs.declared.column.Kind.TheVariants.{SmallInt, Integer, BigInt, VarChar, VarBinary}
use Rattle.row_values.specs.Value.{Value, null, number, text, binary}
use Rattle.row_values.specs.Column.{Column, fits}
use Rattle.row_values.specs.Row.{all_fit, row_bytes, value_bytes}
use Rattle.row_values.specs.Schema.{Schema, is_column, is_limit, key_columns, is_schema}
use Rattle.row_values.proofs.ByteSteps.{short_name}
use Rattle.row_values.proofs.Keys.{schema_columns, key_count, key_few, picked_all}
use Rattle.row_values.proofs.ValueLaws.{first_true, second_true}
use Rattle.sql_spelling.specs.Text.{value_text, type_text, null_text, column_text, separated, create_text, insert_text}
use Rattle.sql_spelling.proofs.Numbers.{InBigInt}
use Rattle.sql_spelling.proofs.Values.{IsWhole, AreWhole, pairs_length}

-- ---- values

doubled_length : (z : List ℕ) → length (doubled z) ≤ 2 * length z
doubled_length [] = omega arith
doubled_length (b ∷ z) = by (b == 39) (doubled_length z)
  where
    by : (v : Bool) → length (doubled z) ≤ 2 * length z → length (if v then 39 ∷ 39 ∷ doubled z else b ∷ doubled z) ≤ 2 * length (b ∷ z)
    by true ih = omega arith
    by false ih = omega arith

number_length : (z : ℤ) → InBigInt z → length (signed_decimal z) ≤ 20
number_length (pos n) small = omega (arith, length-decimal-le 19 n (omega arith) (omega arith) (omega arith))
number_length (negsuc n) small = omega (arith, length-decimal-le 19 (suc n) (omega arith) (omega arith) (omega arith))

value_length : (nullable : Bool) (kind : Kind) (limit : ℕ) (name : List ℕ) (v : Value) → IsWhole v → fits (record { name = name; kind = kind; is_nullable = nullable; limit = limit }) v ≡ true → length (value_text v) ≤ 2 * length (value_bytes kind v) + 20
value_length nullable kind limit name null whole fit = omega arith
value_length nullable kind limit name (number z) whole fit = omega (arith, number_length z whole)
value_length nullable VarChar limit name (text z) whole fit = omega (arith, doubled_length z, length-append (doubled z) (39 ∷ []))
value_length nullable VarBinary limit name (binary z) whole fit = omega (arith, pairs_length z, length-append (pairs_of z) (39 ∷ []))
value_length nullable SmallInt limit name (text z) whole fit = absurd cc
value_length nullable Integer limit name (text z) whole fit = absurd cc
value_length nullable BigInt limit name (text z) whole fit = absurd cc
value_length nullable VarBinary limit name (text z) whole fit = absurd cc
value_length nullable SmallInt limit name (binary z) whole fit = absurd cc
value_length nullable Integer limit name (binary z) whole fit = absurd cc
value_length nullable BigInt limit name (binary z) whole fit = absurd cc
value_length nullable VarChar limit name (binary z) whole fit = absurd cc

further_values : (cs : List Column) (vs : List Value) → AreWhole vs → all_fit cs vs ≡ true → length (flat_map (λ v. 44 ∷ 32 ∷ value_text v) vs) ≤ 2 * length (row_bytes cs vs) + 22 * length vs
further_values [] [] whole fit = omega arith
further_values [] (v ∷ vs) whole fit = absurd cc
further_values (c ∷ cs) [] whole fit = absurd cc
further_values (c ∷ cs) (v ∷ vs) (first, rest) fit =
    omega (arith, value_length c.is_nullable c.kind c.limit c.name v first (first_true _ _ fit), further_values cs vs rest (second_true _ _ fit), length-append (value_text v) (flat_map (λ v. 44 ∷ 32 ∷ value_text v) vs), length-append (value_bytes c.kind v) (row_bytes cs vs))

-- what stands between is counted with the first too
fewer : {A : Type 0} (f : A → List ℕ) (xs : List A) → length (separated f xs) ≤ length (flat_map (λ x. 44 ∷ 32 ∷ f x) xs)
fewer f [] = omega arith
fewer f (x ∷ xs) = omega arith

pub insert_short : (name : List ℕ) (cs : List Column) (vs : List Value) → length name ≤ 30 → AreWhole vs → all_fit cs vs ≡ true → length vs ≤ 64 → length (row_bytes cs vs) ≤ 4000 → length (insert_text name vs) ≤ 32767
unfolding insert_text
insert_short name cs vs named whole fit count room =
    omega (arith, length-append name (codes " VALUES (" ++ (separated value_text vs ++ codes ")")), length-append (separated value_text vs) (codes ")"), fewer value_text vs, further_values cs vs whole fit)

-- ---- tables

limited : (kind : Kind) (n : ℕ) → is_limit kind n ≡ true → length (type_text kind n) ≤ 15
limited SmallInt n e = omega arith
limited Integer n e = omega arith
limited BigInt n e = omega arith
limited VarChar n e = let small : n ≤ 2000 = grind (arith, nat_tests) in omega (arith, length-append (decimal n) (41 ∷ []), length-decimal-le 4 n (omega arith) (omega arith) (omega arith))
limited VarBinary n e = let small : n ≤ 2000 = grind (arith, nat_tests) in omega (arith, length-append (decimal n) (41 ∷ []), length-decimal-le 4 n (omega arith) (omega arith) (omega arith))

null_length : (b : Bool) → length (null_text b) ≤ 9
null_length true = omega arith
null_length false = omega arith

column_length : (c : Column) → is_column c ≡ true → length (column_text c) ≤ 55
column_length c is =
    omega (arith, short_name c.name (first_true _ _ is), limited c.kind c.limit (second_true _ _ is), null_length c.is_nullable, length-append c.name (32 ∷ (type_text c.kind c.limit ++ null_text c.is_nullable)), length-append (type_text c.kind c.limit) (null_text c.is_nullable))

further_columns : (cs : List Column) → list_all is_column cs ≡ true → length (flat_map (λ c. 44 ∷ 32 ∷ column_text c) cs) ≤ 57 * length cs
further_columns [] is = omega arith
further_columns (c ∷ cs) is = omega (arith, column_length c (first_true _ _ is), further_columns cs (second_true _ _ is), length-append (column_text c) (flat_map (λ c. 44 ∷ 32 ∷ column_text c) cs))

further_names : (cs : List Column) → list_all is_column cs ≡ true → length (flat_map (λ c. 44 ∷ 32 ∷ c.name) cs) ≤ 32 * length cs
further_names [] is = omega arith
further_names (c ∷ cs) is = omega (arith, short_name c.name (first_true _ _ (first_true _ _ is)), further_names cs (second_true _ _ is), length-append c.name (flat_map (λ c. 44 ∷ 32 ∷ c.name) cs))

pub few_columns : (schema : Schema) → is_schema schema ≡ true → length schema.columns ≤ 64
few_columns schema good = at_most (length schema.columns) 64 (first_true _ _ (first_true _ _ (first_true _ _ good)))
  where
    at_most : (n m : ℕ) → nat_le n m ≡ true → n ≤ m
    at_most n m e = grind (arith, nat_tests)

pub create_short : (name : List ℕ) (schema : Schema) → length name ≤ 30 → is_schema schema ≡ true → length (create_text name schema) ≤ 32767
unfolding create_text
create_short name schema named good =
    let cs = schema.columns in
    let ks = key_columns schema in
    let tail = codes ", PRIMARY KEY (" ++ (separated (λ c. c.name) ks ++ codes "))") in
    omega (
      arith,
      length-append name (codes " (" ++ (separated column_text cs ++ tail)),
      length-append (separated column_text cs) tail,
      length-append (separated (λ c. c.name) ks) (codes "))"),
      fewer column_text cs,
      fewer (λ (c : Column). c.name) ks,
      further_columns cs (schema_columns schema good),
      further_names ks (picked_all is_column cs schema.key (schema_columns schema good)),
      few_columns schema good,
      key_count schema good,
      key_few schema good,
    )
