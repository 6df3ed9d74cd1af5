-- The order of values, and of keys, is that of their forms.
use Rattle.std.proofs.Common.{◌≡◌, ◌<◌, ◌+◌, ◌-◌, ℕ, ℤ, pos, negsuc, List, [], ◌∷◌, ◌++◌, Bool, true, false, ◌&&◌, Option, Some, None, refl, sym, subst, ap, ◌∙◌, Ordering, Less, Equal, Greater, arith}
use Rattle.std.specs.Prelude.{◌^◌, ◌%◌, is_some, unwrap_or, ◌<ℤ◌, T, int_le, is_none}
use Rattle.std.specs.List.{list_all}
use Rattle.std.specs.Int.{bytes_high_first}
use Rattle.std.specs.Int.Signed.{lt_z_yes}
use Rattle.std.specs.Ordering.{MatchOrdering, int_cmp, nat_cmp, ordering_then}
use Rattle.std.specs.Cmp.{int_cmp_is}
use Rattle.std.specs.Cmp.Lexicographic.{slice_cmp}
use Rattle.std.proofs.lemmas.Bool.{lt-ltb}
use Rattle.std.proofs.lemmas.Cmp.{ranked}
use Rattle.std.proofs.Math.Nat.{mod-eq_of_lt}
use Rattle.row_values.specs.Value.{Value, null, number, text, binary, value_cmp}
use Rattle.row_values.specs.declared.column.Kind.{Kind}
use Rattle.row_values.specs.declared.column.Kind.TheVariants.{SmallInt, Integer, BigInt, VarChar, VarBinary}
use Rattle.row_values.specs.declared.column.Misfit.{Misfit}
use Rattle.row_values.specs.Column.{Column, fits, misfit_in, within}
use Rattle.row_values.specs.Key.{key_values}
use Rattle.row_values.specs.Laws.{KeysGoByValues, ReadWasWritten}
use Rattle.row_values.specs.Schema.{key_columns}
use Rattle.row_values.specs.Row.{all_fit, values_at}
use Rattle.std.proofs.lemmas.Bool.Decides.{nat_tests}
use Rattle.std.proofs.lemmas.Int.{ints}
use Rattle.row_values.proofs.ValueLaws.{both_true, first_true, second_true}
use Rattle.key_map.specs.SortForm.{counted_up, is_sortable, value_form, values_form, KeysKeepOrder, ValuesKeepOrder}
use Rattle.key_map.proofs.Numbers.{numbers_keep_order}
use Rattle.key_map.proofs.Texts.{more, texts_keep_order}

-- ---- numbers

-- what 64 bits with a sign can say
abbrev pub Small : ℤ → Type 0
Small (pos a) = a < 9223372036854775808
Small (negsuc a) = a < 9223372036854775808

small : (n : ℤ) → is_sortable (number n) ≡ true → Small n
small (pos a) h = grind (arith, ints, nat_tests)
small (negsuc a) h = grind (arith, ints, nat_tests)

below_pos : (a b : ℕ) → a < b → pos a <ℤ pos b
below_pos a b h = lt_z_yes (subst T (sym (lt-ltb a b h)) tt)

below_neg : (a b : ℕ) → b < a → negsuc a <ℤ negsuc b
below_neg a b h = lt_z_yes (subst T (sym (lt-ltb b a h)) tt)

counted : (x y : ℤ) (r : Ordering) → Small x → Small y → r ≡ nat_cmp (counted_up x) (counted_up y) → MatchOrdering r (x <ℤ y) (x ≡ y) (y <ℤ x)
counted (pos a) (pos b) Less p q is = let lt : a + 9223372036854775808 < b + 9223372036854775808 = ranked _ _ Less is in below_pos a b (omega arith)
counted (pos a) (pos b) Equal p q is = let same : a + 9223372036854775808 ≡ b + 9223372036854775808 = ranked _ _ Equal is in let one : a ≡ b = omega arith in ap pos one
counted (pos a) (pos b) Greater p q is = let gt : b + 9223372036854775808 < a + 9223372036854775808 = ranked _ _ Greater is in below_pos b a (omega arith)
counted (pos a) (negsuc b) Less p q is = let lt : a + 9223372036854775808 < 9223372036854775807 - b = ranked _ _ Less is in absurd (omega arith)
counted (pos a) (negsuc b) Equal p q is = let same : a + 9223372036854775808 ≡ 9223372036854775807 - b = ranked _ _ Equal is in absurd (omega arith)
counted (pos a) (negsuc b) Greater p q is = lt_z_yes tt
counted (negsuc a) (pos b) Less p q is = lt_z_yes tt
counted (negsuc a) (pos b) Equal p q is = let same : 9223372036854775807 - a ≡ b + 9223372036854775808 = ranked _ _ Equal is in absurd (omega arith)
counted (negsuc a) (pos b) Greater p q is = let gt : b + 9223372036854775808 < 9223372036854775807 - a = ranked _ _ Greater is in absurd (omega arith)
counted (negsuc a) (negsuc b) Less p q is = let lt : 9223372036854775807 - a < 9223372036854775807 - b = ranked _ _ Less is in below_neg a b (omega arith)
counted (negsuc a) (negsuc b) Equal p q is = let same : 9223372036854775807 - a ≡ 9223372036854775807 - b = ranked _ _ Equal is in let small : a < 9223372036854775808 = p in let short : b < 9223372036854775808 = q in let one : a ≡ b = omega arith in ap negsuc one
counted (negsuc a) (negsuc b) Greater p q is = let gt : 9223372036854775807 - b < 9223372036854775807 - a = ranked _ _ Greater is in below_neg b a (omega arith)

number_cmp : (x y : ℤ) → Small x → Small y → nat_cmp (counted_up x) (counted_up y) ≡ int_cmp x y
number_cmp x y p q = int_cmp_is x y (nat_cmp (counted_up x) (counted_up y)) (counted x y (nat_cmp (counted_up x) (counted_up y)) p q refl)

bounded : (x : ℤ) → Small x → counted_up x < 256 ^ 8
bounded (pos a) p = let small : a < 9223372036854775808 = p in omega arith
bounded (negsuc a) p = let less : a < 9223372036854775808 = p in omega arith

whole : (x : ℤ) → Small x → counted_up x % 256 ^ 8 ≡ counted_up x
whole x p = mod-eq_of_lt (bounded x p)

-- ---- values

of_numbers : (m n : ℤ) (r s : List ℕ) → Small m → Small n
    → slice_cmp nat_cmp (bytes_high_first 8 (counted_up m) ++ r) (bytes_high_first 8 (counted_up n) ++ s) ≡ ordering_then (int_cmp m n) (slice_cmp nat_cmp r s)
of_numbers m n r s p q =
    numbers_keep_order 8 (counted_up m) (counted_up n) r s
    ∙ ap (λ o. ordering_then o (slice_cmp nat_cmp r s)) (ap (λ a. nat_cmp a (counted_up n % 256 ^ 8)) (whole m p) ∙ ap (nat_cmp (counted_up m)) (whole n q) ∙ number_cmp m n p q)

-- the order of two forms is that of the values, and where they are the same that of what follows
value_order : (x y : Value) (r s : List ℕ) → is_sortable x ≡ true → is_sortable y ≡ true → slice_cmp nat_cmp (value_form x ++ r) (value_form y ++ s) ≡ ordering_then (value_cmp x y) (slice_cmp nat_cmp r s)
value_order null null r s p q = refl
value_order (number m) (number n) r s p q = of_numbers m n r s (small m p) (small n q) ∙ more (int_cmp m n) Equal (slice_cmp nat_cmp r s)
value_order (text a) (text b) r s p q = texts_keep_order a b r s
value_order (binary a) (binary b) r s p q = texts_keep_order a b r s
value_order null (number n) r s p q = refl
value_order null (text b) r s p q = refl
value_order null (binary b) r s p q = refl
value_order (number m) null r s p q = refl
value_order (number m) (text b) r s p q = refl
value_order (number m) (binary b) r s p q = refl
value_order (text a) null r s p q = refl
value_order (text a) (number n) r s p q = refl
value_order (text a) (binary b) r s p q = refl
value_order (binary a) null r s p q = refl
value_order (binary a) (number n) r s p q = refl
value_order (binary a) (text b) r s p q = refl

pub values_keep_order : ValuesKeepOrder
values_keep_order [] [] p q = refl
values_keep_order [] (y ∷ ys) p q = refl
values_keep_order (x ∷ xs) [] p q = refl
values_keep_order (x ∷ xs) (y ∷ ys) p q =
    value_order x y (values_form xs) (values_form ys) (first_true _ _ p) (first_true _ _ q)
    ∙ ap (ordering_then (value_cmp x y)) (values_keep_order xs ys (second_true _ _ p) (second_true _ _ q))

-- ---- keys

within_so : (b : Bool) (m : Misfit) → is_none (within b m) ≡ true → b ≡ true
within_so true m h = refl
within_so false m h = absurd cc

number_sorts : (k : Kind) (limit : ℕ) (n : ℤ) → is_none (misfit_in k limit (number n)) ≡ true → is_sortable (number n) ≡ true
number_sorts SmallInt limit n h = let range = within_so (int_le (negsuc 32767) n && int_le n (pos 32767)) _ h in grind (arith, ints, nat_tests)
number_sorts Integer limit n h = let range = within_so (int_le (negsuc 2147483647) n && int_le n (pos 2147483647)) _ h in grind (arith, ints, nat_tests)
number_sorts BigInt limit n h = within_so _ _ h
number_sorts VarChar limit n h = absurd cc
number_sorts VarBinary limit n h = absurd cc

value_sorts : (c : Column) (v : Value) → fits c v ≡ true → is_sortable v ≡ true
value_sorts c null h = refl
value_sorts c (number n) h = number_sorts c.kind c.limit n (first_true _ _ h)
value_sorts c (text bytes) h = refl
value_sorts c (binary bytes) h = refl

values_sort : (columns : List Column) (values : List Value) → all_fit columns values ≡ true → list_all is_sortable values ≡ true
values_sort [] [] h = refl
values_sort [] (v ∷ vs) h = absurd cc
values_sort (c ∷ cs) [] h = absurd cc
values_sort (c ∷ cs) (v ∷ vs) h = both_true (is_sortable v) (list_all is_sortable vs) (value_sorts c v (first_true _ _ h)) (values_sort cs vs (second_true _ _ h))

read_whole : (o : Option (List Value)) → is_some o ≡ true → o ≡ Some (unwrap_or o [])
read_whole (Some vs) h = refl
read_whole None h = absurd cc

pub keys_keep_order : ReadWasWritten → KeysGoByValues → KeysKeepOrder
keys_keep_order read go schema a b bytes_a bytes_b good_a good_b =
    let one = read (key_columns schema) a (key_values schema a) bytes_a (read_whole (values_at (key_columns schema) a) good_a) in
    let two = read (key_columns schema) b (key_values schema b) bytes_b (read_whole (values_at (key_columns schema) b) good_b) in
    values_keep_order (key_values schema a) (key_values schema b) (values_sort (key_columns schema) (key_values schema a) one.0) (values_sort (key_columns schema) (key_values schema b) two.0)
    ∙ sym (go schema a b bytes_a bytes_b good_a good_b)
