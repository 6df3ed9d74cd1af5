-- The order of keys.
use Rattle.std.proofs.Common.{◌≡◌, ℕ, ◌+◌, ◌≤◌, List, [], ◌∷◌, true, refl, sym, ap, subst, ◌∙◌, length, drop, Some, Ordering, Less, Equal, Greater}
use Rattle.std.specs.Ordering.{nat_cmp, int_cmp, ordering_then}
use Rattle.std.specs.Cmp.{IsTotalOrder}
use Rattle.std.specs.Cmp.Lexicographic.{slice_cmp}
use Rattle.std.proofs.lemmas.Cmp.{int_cmp_total, lists_total, nat_cmp_total, nat_list_cmp_total, on_total, then_total, tied_itself}
use Rattle.std.proofs.lemmas.Map.Lookups.{exact_bytes, exact_signed}
use Rattle.std.specs.List.{slice_get}
use Rattle.std.proofs.lemmas.List.{drop_all}
use Rattle.drda_words.specs.Bytes.{AreBytes}
use Rattle.row_values.specs.Value.{Value, null, number, text, binary, bytes_in, class_of, value_cmp, number_in}
use Rattle.row_values.specs.Schema.{Schema, is_schema, key_columns}
use Rattle.row_values.specs.Row.{row_bytes, values_at}
use Rattle.row_values.specs.Key.{is_key, key_cmp, key_values}
use Rattle.row_values.proofs.ValueLaws.{values_at-is}
use Rattle.row_values.proofs.ReadSteps.{all_there, drop_at}
use Rattle.row_values.proofs.Keys.{key_short}

-- values are in order by their classes, their numbers and their bytes
pub value_cmp_total : IsTotalOrder value_cmp
value_cmp_total = then_total (on_total class_of nat_cmp_total) (then_total (on_total number_in int_cmp_total) (on_total bytes_in nat_list_cmp_total))

-- keys are in order by their values, and then by their bytes
pub key_cmp_total : (schema : Schema) → IsTotalOrder (key_cmp schema)
key_cmp_total schema = then_total (on_total (key_values schema) (lists_total value_cmp_total)) nat_list_cmp_total

then_both : (a b : Ordering) → ordering_then a b ≡ Equal → (a ≡ Equal) × (b ≡ Equal)
then_both Less b h = absurd cc
then_both Equal b h = (refl, h)
then_both Greater b h = absurd cc

-- values that tie are equal
pub value_exact : (a b : Value) → value_cmp a b ≡ Equal → a ≡ b
value_exact null null h = refl
value_exact (number m) (number n) h = ap number (exact_signed m n (then_both (int_cmp m n) Equal h).0)
value_exact (text s) (text t) h = ap text (exact_bytes s t h)
value_exact (binary s) (binary t) h = ap binary (exact_bytes s t h)
value_exact null (number n) h = absurd cc
value_exact null (text t) h = absurd cc
value_exact null (binary t) h = absurd cc
value_exact (number n) null h = absurd cc
value_exact (number n) (text t) h = absurd cc
value_exact (number n) (binary t) h = absurd cc
value_exact (text t) null h = absurd cc
value_exact (text t) (number n) h = absurd cc
value_exact (text t) (binary s) h = absurd cc
value_exact (binary t) null h = absurd cc
value_exact (binary t) (number n) h = absurd cc
value_exact (binary t) (text s) h = absurd cc

pub values_exact : (xs ys : List Value) → slice_cmp value_cmp xs ys ≡ Equal → xs ≡ ys
values_exact [] [] h = refl
values_exact [] (y ∷ ys) h = absurd cc
values_exact (x ∷ xs) [] h = absurd cc
values_exact (x ∷ xs) (y ∷ ys) h =
    let both = then_both (value_cmp x y) (slice_cmp value_cmp xs ys) h in
    ap (λ (z : Value). z ∷ xs) (value_exact x y both.0) ∙ ap (λ (zs : List Value). y ∷ zs) (values_exact xs ys both.1)

-- byte lists that tie as keys are equal
pub key_exact : (schema : Schema) (a b : List ℕ) → key_cmp schema a b ≡ Equal → a ≡ b
key_exact schema a b h = exact_bytes a b (then_both (slice_cmp value_cmp (key_values schema a) (key_values schema b)) (slice_cmp nat_cmp a b) h).1

pub key_itself : (schema : Schema) (a : List ℕ) → key_cmp schema a a ≡ Equal
key_itself schema a = tied_itself (key_cmp_total schema) a

-- ---- the comparison, value by value

pub key_read : (schema : Schema) (key : List ℕ) → is_key schema key ≡ true → values_at (key_columns schema) key ≡ Some (key_values schema key)
key_read schema key good = all_there (values_at (key_columns schema) key) good

-- the keys' values from place i on are ordered as all of them
abbrev pub OrderedFrom : List Value → List Value → ℕ → Type 0
OrderedFrom xs ys i = slice_cmp value_cmp (drop i xs) (drop i ys) ≡ slice_cmp value_cmp xs ys

order_step : (xs ys : List Value) (i : ℕ) (x y : Value) → slice_get xs i ≡ Some x → slice_get ys i ≡ Some y → OrderedFrom xs ys i → ordering_then (value_cmp x y) (slice_cmp value_cmp (drop (i + 1) xs) (drop (i + 1) ys)) ≡ slice_cmp value_cmp xs ys
order_step xs ys i x y p q h =
    sym (ap (λ (l : List Value). slice_cmp value_cmp l (drop i ys)) (drop_at xs i x p) ∙ ap (λ (l : List Value). slice_cmp value_cmp (x ∷ drop (i + 1) xs) l) (drop_at ys i y q)) ∙ h

then_of : (o p q : Ordering) → o ≡ q → ordering_then o p ≡ ordering_then q p
then_of o p q is = ap (λ (r : Ordering). ordering_then r p) is

-- two values tie, and the next ones decide
pub order_goes_on : (xs ys : List Value) (i : ℕ) (x y : Value) → slice_get xs i ≡ Some x → slice_get ys i ≡ Some y → value_cmp x y ≡ Equal → OrderedFrom xs ys i → OrderedFrom xs ys (i + 1)
order_goes_on xs ys i x y p q tie h = sym (then_of (value_cmp x y) (slice_cmp value_cmp (drop (i + 1) xs) (drop (i + 1) ys)) Equal tie) ∙ order_step xs ys i x y p q h

-- two values differ, and decide
pub order_less : (schema : Schema) (a b : List ℕ) (i : ℕ) (x y : Value) → slice_get (key_values schema a) i ≡ Some x → slice_get (key_values schema b) i ≡ Some y → value_cmp x y ≡ Less → OrderedFrom (key_values schema a) (key_values schema b) i → Less ≡ key_cmp schema a b
order_less schema a b i x y p q less h =
    let xs = key_values schema a in
    let ys = key_values schema b in
    let whole : Less ≡ slice_cmp value_cmp xs ys = sym (then_of (value_cmp x y) (slice_cmp value_cmp (drop (i + 1) xs) (drop (i + 1) ys)) Less less) ∙ order_step xs ys i x y p q h in
    then_of Less (slice_cmp nat_cmp a b) (slice_cmp value_cmp xs ys) whole

pub order_greater : (schema : Schema) (a b : List ℕ) (i : ℕ) (x y : Value) → slice_get (key_values schema a) i ≡ Some x → slice_get (key_values schema b) i ≡ Some y → value_cmp x y ≡ Greater → OrderedFrom (key_values schema a) (key_values schema b) i → Greater ≡ key_cmp schema a b
order_greater schema a b i x y p q greater h =
    let xs = key_values schema a in
    let ys = key_values schema b in
    let whole : Greater ≡ slice_cmp value_cmp xs ys = sym (then_of (value_cmp x y) (slice_cmp value_cmp (drop (i + 1) xs) (drop (i + 1) ys)) Greater greater) ∙ order_step xs ys i x y p q h in
    then_of Greater (slice_cmp nat_cmp a b) (slice_cmp value_cmp xs ys) whole

-- all values tie, and the keys are equal
pub order_equal : (schema : Schema) (a b : List ℕ) (i : ℕ) → AreBytes a → AreBytes b → is_key schema a ≡ true → is_key schema b ≡ true → length (key_values schema a) ≤ i → length (key_values schema b) ≤ i
    → OrderedFrom (key_values schema a) (key_values schema b) i → Equal ≡ key_cmp schema a b
order_equal schema a b i bytes_a bytes_b good_a good_b past_a past_b h =
    let xs = key_values schema a in
    let ys = key_values schema b in
    let none_a : drop i xs ≡ [] = drop_all i xs past_a in
    let none_b : drop i ys ≡ [] = drop_all i ys past_b in
    let tie : slice_cmp value_cmp xs ys ≡ Equal = sym h ∙ ap (λ (l : List Value). slice_cmp value_cmp l (drop i ys)) none_a ∙ ap (λ (l : List Value). slice_cmp value_cmp [] l) none_b in
    let same : xs ≡ ys = values_exact xs ys tie in
    let wa = values_at-is (key_columns schema) a xs bytes_a (key_read schema a good_a) in
    let wb = values_at-is (key_columns schema) b ys bytes_b (key_read schema b good_b) in
    let equal : a ≡ b = wa.1 ∙ ap (row_bytes (key_columns schema)) same ∙ sym wb.1 in
    sym (subst (λ (k : List ℕ). key_cmp schema a k ≡ Equal) equal (key_itself schema a))

decided : (o p : Ordering) → (o ≡ Equal → p ≡ Equal) → ordering_then o p ≡ o
decided Less p h = refl
decided Equal p h = h refl
decided Greater p h = refl

-- keys are ordered by their values
pub key_by_values : (schema : Schema) (a b : List ℕ) → AreBytes a → AreBytes b → is_key schema a ≡ true → is_key schema b ≡ true → key_cmp schema a b ≡ slice_cmp value_cmp (key_values schema a) (key_values schema b)
key_by_values schema a b bytes_a bytes_b good_a good_b =
    let xs = key_values schema a in
    let ys = key_values schema b in
    let wa = values_at-is (key_columns schema) a xs bytes_a (key_read schema a good_a) in
    let wb = values_at-is (key_columns schema) b ys bytes_b (key_read schema b good_b) in
    decided (slice_cmp value_cmp xs ys) (slice_cmp nat_cmp a b)
    (λ tie. let equal : a ≡ b = wa.1 ∙ ap (row_bytes (key_columns schema)) (values_exact xs ys tie) ∙ sym wb.1 in
    subst (λ (k : List ℕ). slice_cmp nat_cmp a k ≡ Equal) equal (tied_itself nat_list_cmp_total a))

-- a key has at most 8,012 bytes
pub keys_are_short : (schema : Schema) (key : List ℕ) → is_schema schema ≡ true → AreBytes key → is_key schema key ≡ true → length key ≤ 8012
keys_are_short schema key good all is =
    let w = values_at-is (key_columns schema) key (key_values schema key) all (key_read schema key is) in
    subst (λ (l : List ℕ). length l ≤ 8012) (sym w.1) (key_short schema (key_values schema key) good w.0)
