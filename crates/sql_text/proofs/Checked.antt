-- A table that no check refuses.
use Rattle.std.proofs.Common.{◌≡◌, ◌≢◌, ℕ, zero, suc, ◌≤◌, Bool, true, false, cond, not, ◌||◌, List, [], ◌∷◌, ◌++◌, length, map, Option, Some, None, refl, arith}
use Rattle.std.specs.Prelude.{◌==◌, nat_lt}
use Rattle.std.specs.List.{All, Contains, list_any}
use Rattle.std.proofs.lemmas.Bool.Decides.{nat_tests}
use Rattle.std.proofs.lemmas.List.Elements.{All-cons, All-nil, All-head, All-tail}
use Rattle.sql_lex.specs.Spelling.{capitals}
use Rattle.sql_text.specs.Checks.{same_name, is_too_long, is_too_large, empty_at, or_else, first_empty, first_repeat, repeated_column, repeated_key, is_column, has_unknown, wrong_at, table_refusal, command_refusal, refusal_of}
use Rattle.sql_text.specs.Plain as plain
use Rattle.sql_text.specs.Valid.{IsValidType, AreDifferent}
use Rattle.sql_text.specs.declared.check.Refusal.{Refusal}
use Rattle.sql_text.specs.declared.check.Refusal.TheVariants as refusal
use Rattle.sql_text.specs.declared.draft.DraftType.{DraftType}
use Rattle.sql_text.specs.declared.draft.DraftType.TheVariants as column
use Rattle.sql_text.specs.declared.draft.DraftColumn.{DraftColumn}
use Rattle.sql_text.specs.declared.draft.DraftKey.{DraftKey}
use Rattle.sql_text.specs.declared.tree.Columns.TheVariants as columns
use Rattle.sql_text.specs.declared.draft.Draft.{Draft}
use Rattle.sql_text.specs.declared.draft.Draft.TheVariants as draft
use Rattle.sql_text.proofs.Names.{same_capitals, other_capitals}

-- ---- tests

pub neither : (a b : Bool) → (a || b) ≡ false → (a ≡ false) × (b ≡ false)
neither true b e = absurd (cc)
neither false b e = (refl, e)

pub at_most : (n m : ℕ) → nat_lt n m ≡ false → m ≤ n
at_most n m e = grind (arith, nat_tests)

is_not : (b : Bool) → not b ≡ false → b ≡ true
is_not true e = refl
is_not false e = absurd (cc)

pub unless : {A : Type 0} (b : Bool) (a : A) (o : Option A) → cond b (Some a) o ≡ None → (b ≡ false) × (o ≡ None)
unless true a o e = absurd (cc)
unless false a o e = (refl, e)

unwrong : (o : Option ℕ) (r : Option Refusal) → wrong_at o r ≡ None → (o ≡ None) × (r ≡ None)
unwrong None r e = (refl, e)
unwrong (Some left) r e = absurd (cc)

-- ---- lists

-- what holds of each of a list, and of one behind it
pub all_append : {A : Type 0} (P : A → Type 0) (xs : List A) (x : A) → All P (xs ++ x ∷ []) → All P xs × P x
all_append P [] x h = (All-nil P, All-head P x [] h)
all_append P (y ∷ xs) x h =
    let r = all_append P xs x (All-tail P y (xs ++ x ∷ []) h) in
    (All-cons P y xs (All-head P y (xs ++ x ∷ []) h) r.0, r.1)

-- ---- lengths

type_fits : (c : DraftType) → is_too_long c ≡ false → empty_at c ≡ None → IsValidType (plain.column_type c)
type_fits column.SmallInt e f = tt
type_fits column.Integer e f = tt
type_fits column.BigInt e f = tt
type_fits (column.VarChar n left) e f = (some_length n left f, at_most 2000 n e)
  where
    some_length : (n left : ℕ) → cond (n == 0) (Some left) None ≡ None → 1 ≤ n
    some_length zero left f = absurd (cc)
    some_length (suc n) left f = omega arith
type_fits (column.VarBinary n left) e f = (some_length n left f, at_most 2000 n e)
  where
    some_length : (n left : ℕ) → cond (n == 0) (Some left) None ≡ None → 1 ≤ n
    some_length zero left f = absurd (cc)
    some_length (suc n) left f = omega arith

or_none : (a b : Option ℕ) → or_else a b ≡ None → (a ≡ None) × (b ≡ None)
or_none None b e = (refl, e)
or_none (Some n) b e = absurd (cc)

pub types_fit : (ds : List DraftColumn) → list_any (λ d. is_too_long d.column_type) ds ≡ false → first_empty ds ≡ None → All (λ d. IsValidType (plain.column_type d.column_type)) ds
types_fit [] e f = All-nil _
types_fit (d ∷ ds) e f =
    let long = neither (is_too_long d.column_type) (list_any (λ x. is_too_long x.column_type) ds) e in
    let some = or_none (empty_at d.column_type) (first_empty ds) f in
    All-cons (λ x. IsValidType (plain.column_type x.column_type)) d ds (type_fits d.column_type long.0 some.0) (types_fit ds long.1 some.1)

-- ---- repeats

module _ {A : Type 0} (name : A → List ℕ) (left : A → ℕ) where
  -- no item has a name of these before it
  Fresh : List A → List A → Type 0
  Fresh before [] = Unit {0}
  Fresh before (x ∷ xs) = All (λ y. capitals (name y) ≢ capitals (name x)) before × Fresh before xs

  not_before : (before : List A) (x : A) → list_any (λ y. same_name (name y) (name x)) before ≡ false → All (λ y. capitals (name y) ≢ capitals (name x)) before
  not_before [] x e = All-nil _
  not_before (y ∷ ys) x e =
      let n = neither (same_name (name y) (name x)) (list_any (λ z. same_name (name z) (name x)) ys) e in
      All-cons (λ z. capitals (name z) ≢ capitals (name x)) y ys (other_capitals (name y) (name x) n.0) (not_before ys x n.1)

  -- those that are fresh behind one more are fresh, and differ from it
  fewer : (before xs : List A) (x : A) → Fresh (before ++ x ∷ []) xs → Fresh before xs × All (λ n. capitals (name x) ≢ n) (map (λ y. capitals (name y)) xs)
  unfolding Fresh
  fewer before [] x f = (tt, All-nil _)
  fewer before (z ∷ zs) x (f, fs) =
      let r = fewer before zs x fs in
      let a = all_append (λ y. capitals (name y) ≢ capitals (name z)) before x f in
      ((a.0, r.0), All-cons (λ n. capitals (name x) ≢ n) (capitals (name z)) (map (λ y. capitals (name y)) zs) a.1 r.1)

  none_repeats : (before xs : List A) → first_repeat name left before xs ≡ None → Fresh before xs × AreDifferent (map (λ x. capitals (name x)) xs)
  unfolding Fresh
  none_repeats before [] e = (tt, tt)
  none_repeats before (x ∷ xs) e =
      let u = unless (list_any (λ y. same_name (name y) (name x)) before) (left x) (first_repeat name left (before ++ x ∷ []) xs) e in
      let r = none_repeats (before ++ x ∷ []) xs u.1 in
      let f = fewer before xs x r.0 in
      ((not_before before x u.0, f.0), (f.1, r.1))

  pub all_differ : (xs : List A) → first_repeat name left [] xs ≡ None → AreDifferent (map (λ x. capitals (name x)) xs)
  all_differ xs e = (none_repeats [] xs e).1

-- ---- known columns

contains_cons : {A : Type 0} (x y : A) (xs : List A) → Contains xs x → Contains (y ∷ xs) x
contains_cons x y xs (k, below, is) = (suc k, omega arith, is)

known_by : (d : DraftColumn) (ds : List DraftColumn) (name : List ℕ) (b more : Bool) → same_name d.name name ≡ b → (more ≡ true → Contains (map (λ x. capitals x.name) ds) (capitals name)) → (b || more) ≡ true
    → Contains (map (λ x. capitals x.name) (d ∷ ds)) (capitals name)
known_by d ds name true more s ih e = (0, omega arith, same_capitals d.name name s)
known_by d ds name false more s ih e = contains_cons (capitals name) (capitals d.name) (map (λ x. capitals x.name) ds) (ih e)

known : (ds : List DraftColumn) (name : List ℕ) → is_column ds name ≡ true → Contains (map (λ d. capitals d.name) ds) (capitals name)
known [] name e = absurd (cc)
known (d ∷ ds) name e = known_by d ds name (same_name d.name name) (list_any (λ x. same_name x.name name) ds) refl (known ds name) e

pub all_known : (ds : List DraftColumn) (ks : List DraftKey) → has_unknown ds ks ≡ false → All (λ k. Contains (map (λ d. capitals d.name) ds) (capitals k.name)) ks
all_known ds [] e = All-nil _
all_known ds (k ∷ ks) e =
    let n = neither (not (is_column ds k.name)) (list_any (λ x. not (is_column ds x.name)) ks) e in
    All-cons (λ x. Contains (map (λ d. capitals d.name) ds) (capitals x.name)) k ks (known ds k.name (is_not (is_column ds k.name) n.0)) (all_known ds ks n.1)

-- ---- what a table is that is not refused

pub record Passed (ds : List DraftColumn) (ks : List DraftKey) : Type 0 where
  pub columns : length ds ≤ 64
  pub key : length ks ≤ 4
  pub types : All (λ d. IsValidType (plain.column_type d.column_type)) ds
  pub differ : AreDifferent (map (λ d. capitals d.name) ds)
  pub key_differs : AreDifferent (map (λ k. capitals k.name) ks)
  pub known : All (λ k. Contains (map (λ d. capitals d.name) ds) (capitals k.name)) ks

table_passes : (ds : List DraftColumn) (ks : List DraftKey) → ((nat_lt 64 (length ds) || nat_lt 4 (length ks)) || list_any (λ d. is_too_long d.column_type) ds) ≡ false → table_refusal ds ks ≡ None → Passed ds ks
unfolding table_refusal
table_passes ds ks e r =
    let a = neither (nat_lt 64 (length ds) || nat_lt 4 (length ks)) (list_any (λ d. is_too_long d.column_type) ds) e in
    let b = neither (nat_lt 64 (length ds)) (nat_lt 4 (length ks)) a.0 in
    let one = unwrong (first_empty ds) (wrong_at (repeated_column ds) (wrong_at (repeated_key ks) (cond (has_unknown ds ks) (Some refusal.KeyUnknown) None))) r in
    let two = unwrong (repeated_column ds) (wrong_at (repeated_key ks) (cond (has_unknown ds ks) (Some refusal.KeyUnknown) None)) one.1 in
    let three = unwrong (repeated_key ks) (cond (has_unknown ds ks) (Some refusal.KeyUnknown) None) two.1 in
    let four = unless (has_unknown ds ks) refusal.KeyUnknown None three.1 in
    record {
      columns = at_most 64 (length ds) b.0;
      key = at_most 4 (length ks) b.1;
      types = types_fit ds a.1 one.0;
      differ = all_differ (λ d. d.name) (λ d. d.left) ds two.0;
      key_differs = all_differ (λ k. k.name) (λ k. k.left) ks three.0;
      known = all_known ds ks four.0;
    }

-- no more markers, columns and names than are allowed, and a table that is well made
abbrev pub IsPassed : Draft → Type 0
IsPassed (draft.Create table ds ks) = Passed ds ks
IsPassed (draft.Select (columns.Named names) table filter) = length names ≤ 64
IsPassed _ = Unit {0}

passed : (d : Draft) → is_too_large d ≡ false → command_refusal d ≡ None → IsPassed d
passed (draft.Create table ds ks) e r = table_passes ds ks e r
passed (draft.Select (columns.Named names) table filter) e r = at_most 64 (length names) e
passed (draft.Select columns.All table filter) e r = tt
passed (draft.Insert table l vs) e r = tt
passed (draft.Update table assigned filter) e r = tt
passed (draft.Delete table filter) e r = tt

pub all_passed : (markers : ℕ) (d : Draft) → refusal_of markers d ≡ None → (markers ≤ 128) × IsPassed d
unfolding refusal_of
all_passed markers d e =
    let u = unless (nat_lt 128 markers || is_too_large d) refusal.Limit (command_refusal d) e in
    let n = neither (nat_lt 128 markers) (is_too_large d) u.0 in
    (at_most 128 markers n.0, passed d n.1 u.1)
