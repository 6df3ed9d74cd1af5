-- The statement that makes a table makes that table.
use Rattle.std.proofs.Common.{◌≡◌, ◌≢◌, ℕ, zero, suc, ◌+◌, ◌≤◌, ◌<◌, Bool, true, false, cond, not, ◌&&◌, ◌||◌, List, [], ◌∷◌, ◌++◌, length, map, Option, Some, None, refl, sym, ap, ◌∙◌, subst, arith, append_assoc, min, position, nat_eq}
use Rattle.std.specs.Prelude.{nat_le, nat_lt, ◌==◌, is_some, unwrap_or}
use Rattle.std.specs.Option.{option_and_then}
use Rattle.std.specs.List.{list_all, list_any, slice_get, cons_option, filter_map, position_or_len}
use Rattle.std.proofs.lemmas.Bool.Decides.{nat_tests}
use Rattle.std.proofs.lemmas.Option.{slice_get_within}
use Rattle.sql_text.specs.Checks.{same_name}
use Rattle.row_values.specs.declared.column.Kind.{Kind}
use Rattle.row_values.specs.declared.column.Kind.TheVariants.{SmallInt, Integer, BigInt, VarChar, VarBinary}
use Rattle.row_values.specs.Column.{Column}
use Rattle.row_values.specs.Schema.{Schema, can_be_key, is_column, is_limit, is_name, is_schema, key_columns, picked}
use Rattle.row_values.proofs.ByteSteps.{name_utf8, short_name}
use Rattle.row_values.proofs.Keys.{are_places, key_places, schema_columns}
use Rattle.row_values.proofs.ValueLaws.{first_true, second_true}
use Rattle.sql_semantics.specs.Create.{defined_column, defined_columns, defined_schema, kind_of, limit_of}
use Rattle.sql_semantics.specs.Values.{column_place, name_of}
use Rattle.sql_spelling.specs.Meant.{definition_of, key_column_of, type_of}
use Rattle.sql_spelling.proofs.Names.{name_stays}
use Rattle.sql_spelling.proofs.Refusing.{Differ, Each, names, at_name, columns_differ, differ_at, each_at, other_name, own_name}

-- ---- names

short : (n : ℕ) → n ≤ 30 → nat_le n 255 ≡ true
short n e = grind (arith, nat_tests)

pub name_again : (name : List ℕ) → is_name name ≡ true → name_of name ≡ name
unfolding name_of
name_again name is = rw (name_stays name is, name_utf8 name is, short (length name) (short_name name is)) refl

-- ---- columns

none_limit : (n : ℕ) → (n == 0) ≡ true → 0 ≡ n
none_limit n e = grind (arith, nat_tests)

some_limit : (n : ℕ) → (nat_lt 0 n && nat_le n 2000) ≡ true → min n 65535 ≡ n
some_limit n e = let small : n ≤ 2000 = grind (arith, nat_tests) in omega arith

limit_again : (kind : Kind) (n : ℕ) → is_limit kind n ≡ true → limit_of (type_of kind n) ≡ n
limit_again SmallInt n e = none_limit n e
limit_again Integer n e = none_limit n e
limit_again BigInt n e = none_limit n e
limit_again VarChar n e = some_limit n e
limit_again VarBinary n e = some_limit n e

kind_again : (kind : Kind) (n : ℕ) → kind_of (type_of kind n) ≡ kind
kind_again SmallInt n = refl
kind_again Integer n = refl
kind_again BigInt n = refl
kind_again VarChar n = refl
kind_again VarBinary n = refl

-- two columns of one name are the same
same_column : (cs : List Column) (p q : ℕ) (a b : Column) → Differ (names cs) → slice_get cs p ≡ Some a → slice_get cs q ≡ Some b → a.name ≡ b.name → a ≡ b
same_column cs p q a b differ here there same = by (nat_eq p q) refl
  where
    by : (v : Bool) → nat_eq p q ≡ v → a ≡ b
    by true e = let place : p ≡ q = grind (arith, nat_tests) in let found : slice_get cs p ≡ slice_get cs q = ap (slice_get cs) place in cc
    by false e = let apart : p ≢ q = λ place. let yes : nat_eq p q ≡ true = grind (arith, nat_tests) in cc in absurd (differ_at (names cs) p q a.name b.name differ (at_name cs p a here) (at_name cs q b there) apart same)

-- no column of the key takes NULL
no_key : (cs : List Column) (ps : List ℕ) (q : ℕ) (c : Column) → Differ (names cs) → Each (λ n. is_name n ≡ true) (names cs) → slice_get cs q ≡ Some c → c.is_nullable ≡ true → list_all (λ place. can_be_key (slice_get cs place)) ps ≡ true
    → list_any (λ k. same_name k.name c.name) (map key_column_of (picked cs ps)) ≡ false
no_key cs [] q c differ good at nullable all = refl
no_key cs (p ∷ ps) q c differ good at nullable all = by (slice_get cs p) refl (first_true _ _ all) (no_key cs ps q c differ good at nullable (second_true _ _ all))
  where
    takes : (b : Bool) → not b ≡ true → b ≡ false
    takes true e = absurd cc
    takes false e = refl

    by : (o : Option Column) → slice_get cs p ≡ o → can_be_key o ≡ true → list_any (λ k. same_name k.name c.name) (map key_column_of (picked cs ps)) ≡ false → list_any (λ k. same_name k.name c.name) (map key_column_of (cons_option o (picked cs ps))) ≡ false
    by None here can rest = absurd cc
    by (Some k) here can rest =
        let other : k.name ≢ c.name = λ same. let one = same_column cs p q k c differ here at same in let no_null = takes k.is_nullable can in let null = ap (λ (u : Column). u.is_nullable) one in cc in
        let unequal = other_name k.name c.name (each_at (λ n. is_name n ≡ true) (names cs) p k.name good (at_name cs p k here)) (each_at (λ n. is_name n ≡ true) (names cs) q c.name good (at_name cs q c at)) other in
        rw unequal rest

takes_null : (b v : Bool) → (b ≡ true → v ≡ false) → (b && not v) ≡ b
takes_null true v none = rw (none refl) refl
takes_null false v none = refl

pub column_again : (cs : List Column) (ps : List ℕ) (q : ℕ) (c : Column) → Differ (names cs) → Each (λ n. is_name n ≡ true) (names cs) → is_column c ≡ true → slice_get cs q ≡ Some c → list_all (λ place. can_be_key (slice_get cs place)) ps ≡ true
    → defined_column (map key_column_of (picked cs ps)) (definition_of c) ≡ c
column_again cs ps q c differ good is at all =
    let keys = map key_column_of (picked cs ps) in
    let name : name_of c.name ≡ c.name = name_again c.name (first_true _ _ is) in
    let kind : kind_of (type_of c.kind c.limit) ≡ c.kind = kind_again c.kind c.limit in
    let limit : limit_of (type_of c.kind c.limit) ≡ c.limit = limit_again c.kind c.limit (second_true _ _ is) in
    let takes : (c.is_nullable && not (list_any (λ k. same_name k.name c.name) keys)) ≡ c.is_nullable = takes_null c.is_nullable (list_any (λ k. same_name k.name c.name) keys) (λ nullable. no_key cs ps q c differ good at nullable all) in
    rw (name, kind, limit, takes) refl

-- ---- the key

module _ (cs : List Column) where
  pub columns_again : (ps : List ℕ) (front rest : List Column) → Differ (names cs) → Each (λ n. is_name n ≡ true) (names cs) → list_all (λ place. can_be_key (slice_get cs place)) ps ≡ true → list_all is_column rest ≡ true → front ++ rest ≡ cs
      → map (defined_column (map key_column_of (picked cs ps))) (map definition_of rest) ≡ rest
  columns_again ps front [] differ good all is whole = refl
  columns_again ps front (c ∷ rest) differ good all is whole =
      let here = column_again cs ps (length front) c differ good (first_true _ _ is) (subst (λ (u : List Column). slice_get u (length front) ≡ Some c) whole (at_end front c rest)) all in
      let more = columns_again ps (front ++ c ∷ []) rest differ good all (second_true _ _ is) (append_assoc front (c ∷ []) rest ∙ whole) in
      rw (here, more) refl
    where
      at_end : (front : List Column) (c : Column) (rest : List Column) → slice_get (front ++ c ∷ rest) (length front) ≡ Some c
      at_end [] c rest = refl
      at_end (d ∷ front) c rest = at_end front c rest

place_from : (cs : List Column) (p : ℕ) (k : Column) → Differ (names cs) → Each (λ n. is_name n ≡ true) (names cs) → slice_get cs p ≡ Some k → position_or_len (λ c. same_name c.name k.name) cs ≡ p
place_from [] p k differ good at = absurd cc
place_from (c ∷ cs) zero k differ good at = let same : c ≡ k = cc in rw (same, own_name k.name) refl
place_from (c ∷ cs) (suc p) k (first, differ) (is, good) at =
    let name = at_name cs p k at in
    let unequal = other_name c.name k.name is (each_at (λ n. is_name n ≡ true) (names cs) p k.name good name) (each_at (λ m. c.name ≢ m) (names cs) p k.name first name) in
    let ih = place_from cs p k differ good at in
    rw (unequal, ih) (omega arith)

behind : (n m : ℕ) → n < m → nat_lt n m ≡ true
behind n m e = grind (arith, nat_tests)

place_again : (cs : List Column) (p : ℕ) (k : Column) → Differ (names cs) → Each (λ n. is_name n ≡ true) (names cs) → slice_get cs p ≡ Some k → column_place cs k.name ≡ Some p
place_again cs p k differ good at = rw (place_from cs p k differ good at, behind p (length cs) (slice_get_within cs p k at)) refl

pub key_again : (cs : List Column) (ps : List ℕ) → Differ (names cs) → Each (λ n. is_name n ≡ true) (names cs) → are_places cs ps ≡ true → filter_map (λ k. column_place cs k.name) (map key_column_of (picked cs ps)) ≡ ps
key_again cs [] differ good there = refl
key_again cs (p ∷ ps) differ good there = by (slice_get cs p) refl (first_true _ _ there) (key_again cs ps differ good (second_true _ _ there))
  where
    by : (o : Option Column) → slice_get cs p ≡ o → is_some o ≡ true → filter_map (λ k. column_place cs k.name) (map key_column_of (picked cs ps)) ≡ ps → filter_map (λ k. column_place cs k.name) (map key_column_of (cons_option o (picked cs ps))) ≡ p ∷ ps
    by None at some rest = absurd cc
    by (Some k) at some rest = rw (place_again cs p k differ good at, rest) refl

good_names : (cs : List Column) → list_all is_column cs ≡ true → Each (λ n. is_name n ≡ true) (names cs)
good_names [] e = tt
good_names (c ∷ cs) e = (first_true _ _ (first_true _ _ e), good_names cs (second_true _ _ e))

pub schema_again : (schema : Schema) → is_schema schema ≡ true → defined_schema (map definition_of schema.columns) (map key_column_of (key_columns schema)) ≡ schema
unfolding defined_schema
schema_again schema good =
    let cs = schema.columns in
    let differ = columns_differ cs (second_true _ _ (first_true _ _ good)) in
    let named = good_names cs (schema_columns schema good) in
    let all : list_all (λ place. can_be_key (slice_get cs place)) schema.key ≡ true = second_true _ _ (first_true _ _ (second_true _ _ good)) in
    let columns : map (defined_column (map key_column_of (key_columns schema))) (map definition_of cs) ≡ cs = columns_again cs schema.key [] cs differ named all (schema_columns schema good) refl in
    let key = key_again cs schema.key differ named (key_places schema good) in
    rw (columns, key) refl
