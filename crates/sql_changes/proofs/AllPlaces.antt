-- What is taken for all columns, one after another.
use Rattle.std.proofs.Common.{◌≡◌, ◌<◌, ◌==◌, ℕ, zero, suc, ◌+◌, true, false, List, [], ◌∷◌, ◌++◌, Some, None, Ok, Err, length, drop, get_or, map, cond, if◌then◌else◌, arith, refl, sym, ap, ap₂, subst, ◌∙◌, append_assoc}
use Rattle.std.specs.Prelude.{nat_lt, unwrap_or}
use Rattle.std.specs.List.{position, position_or_len, slice_get}
use Rattle.std.specs.Option.{option_and_then}
use Rattle.std.proofs.lemmas.Bool.{eq-eqb, lt-ltb, ne_eqb}
use Rattle.std.proofs.lemmas.List.{append-nil}
use Rattle.std.proofs.lemmas.Option.{unwrap_or-slice_get}
use Rattle.row_values.specs.Value.{Value, null}
use Rattle.row_values.specs.Schema.{Schema}
use Rattle.sql_text.specs.declared.tree.Columns.TheVariants as columns
use Rattle.core_calls.specs.declared.sql_fault.SqlFault.TheVariants as fault
use Rattle.sql_semantics.specs.Values.{all_places}
use Rattle.sql_semantics.specs.Insert.{given, given_row, row_values}

-- ---- column by column

place_next : {A : Type 0} → (xs : List A) (i k : ℕ) → i < length xs → all_places k (drop i xs) ≡ k ∷ all_places (k + 1) (drop (suc i) xs)
place_next [] i k h = absurd (omega arith)
place_next (x ∷ xs) zero k h = refl
place_next (x ∷ xs) (suc i) k h = let g : i < length xs = omega arith in place_next xs i k g

-- one column more
pub goes_on : {A V : Type 0} (f : ℕ → V) (xs : List A) (i : ℕ) (done whole : List V) → i < length xs → done ++ map f (all_places i (drop i xs)) ≡ whole → (done ++ f i ∷ []) ++ map f (all_places (i + 1) (drop (i + 1) xs)) ≡ whole
goes_on f xs i done whole below so =
    let next : i + 1 ≡ suc i = omega arith in
    append_assoc done (f i ∷ []) (map f (all_places (i + 1) (drop (i + 1) xs)))
    ∙ ap (λ n. done ++ f i ∷ map f (all_places (i + 1) (drop n xs))) next
    ∙ sym (ap (λ places. done ++ map f places) (place_next xs i i below))
    ∙ so

-- ---- all columns in their order

not_first : (k n : ℕ) → (k == k + suc n) ≡ false
not_first k n = ne_eqb k (k + suc n) (λ same. omega (arith, same))

is_first : (k : ℕ) → (k == k + 0) ≡ true
is_first k = eq-eqb k (k + 0) (omega arith)

stands_at : {A : Type 0} (xs : List A) (k n : ℕ) → n < length xs → position_or_len (λ p. p == (k + n)) (all_places k xs) ≡ n
stands_at [] k n below = absurd (omega arith)
stands_at (x ∷ xs) k zero below = rw (is_first k) refl
stands_at (x ∷ xs) k (suc n) below =
    let moved : (k + 1) + n ≡ k + suc n = omega arith in
    let later = subst (λ m. position_or_len (λ p. p == m) (all_places (k + 1) xs) ≡ n) moved (stands_at xs (k + 1) n (omega arith)) in
    let one_more : 1 + n ≡ suc n = omega arith in
    rw (not_first k n) (ap (λ m. 1 + m) later ∙ one_more)

all_length : {A : Type 0} (xs : List A) (k : ℕ) → length (all_places k xs) ≡ length xs
all_length [] k = refl
all_length (x ∷ xs) k = ap suc (all_length xs (k + 1))

-- what is taken from place to place is the list
taken : {A : Type 0} (f : ℕ → Value) (xs : List A) (vs : List Value) (k : ℕ) → length xs ≡ length vs → ((n : ℕ) → n < length xs → f (k + n) ≡ get_or vs n null) → map f (all_places k xs) ≡ vs
taken f [] [] k same so = refl
taken f [] (v ∷ vs) k same so = absurd (omega (arith, same))
taken f (x ∷ xs) [] k same so = absurd (omega (arith, same))
taken f (x ∷ xs) (v ∷ vs) k same so =
    let here : k + 0 ≡ k = omega arith in
    let first : f k ≡ v = ap f (sym here) ∙ so 0 (omega arith) in
    let rest : map f (all_places (k + 1) xs) ≡ vs =
    taken f xs vs (k + 1) (omega (arith, same)) (λ n below. let moved : (k + 1) + n ≡ k + suc n = omega arith in ap f moved ∙ so (suc n) (omega (arith, below))) in
    ap₂ (λ w ws. w ∷ ws) first rest

-- the value of the column in place n is value n
given_at : {A : Type 0} (xs : List A) (vs : List Value) (n : ℕ) → n < length xs → given (all_places 0 xs) vs (0 + n) ≡ get_or vs n null
given_at xs vs n below =
    let at : position_or_len (λ p. p == (0 + n)) (all_places 0 xs) ≡ n = stands_at xs 0 n below in
    let inside : nat_lt n (length (all_places 0 xs)) ≡ true = ap (nat_lt n) (all_length xs 0) ∙ lt-ltb n (length xs) below in
    let found : position (λ p. p == (0 + n)) (all_places 0 xs) ≡ Some n =
    ap (λ m. cond (nat_lt m (length (all_places 0 xs))) (Some m) None) at ∙ ap (λ b. cond b (Some n) None) inside in
    ap (λ o. unwrap_or (option_and_then (slice_get vs) o) null) found ∙ unwrap_or-slice_get vs n null

-- with nothing left all is taken
pub all_taken : {A V : Type 0} (f : A → V) (done : List V) (left all : List A) → length left < 1 → done ++ map f left ≡ map f all → map f all ≡ done
all_taken f done [] all none so = sym so ∙ append-nil done
all_taken f done (x ∷ left) all none so = absurd (omega arith)

-- without names the row is the values in their order
pub in_order : (schema : Schema) (vs : List Value) → length schema.columns ≡ length vs → given_row schema columns.All vs ≡ Ok vs
unfolding given_row
in_order schema vs same =
    let cs = schema.columns in
    let size : (length (all_places 0 cs) == length vs) ≡ true = ap (λ n. n == length vs) (all_length cs 0) ∙ eq-eqb (length cs) (length vs) same in
    ap (λ b. if b then Ok (row_values cs vs (all_places 0 cs)) else Err fault.Syntax) size
    ∙ ap Ok (taken (given (all_places 0 cs) vs) cs vs 0 same (given_at cs vs))

-- where there is one for each column
pub not_in_order : (schema : Schema) (vs : List Value) → ¬ (length schema.columns ≡ length vs) → given_row schema columns.All vs ≡ Err fault.Syntax
unfolding given_row
not_in_order schema vs differ =
    let cs = schema.columns in
    let size : (length (all_places 0 cs) == length vs) ≡ false = ap (λ n. n == length vs) (all_length cs 0) ∙ ne_eqb (length cs) (length vs) differ in
    ap (λ b. if b then Ok (row_values cs vs (all_places 0 cs)) else Err fault.Syntax) size
