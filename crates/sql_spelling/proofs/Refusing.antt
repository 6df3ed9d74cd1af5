-- No check refuses the statement that makes a table.
use Rattle.std.proofs.Common.{◌≡◌, ◌≢◌, ℕ, zero, suc, Bool, true, false, not, ◌&&◌, ◌||◌, List, [], ◌∷◌, ◌++◌, length, map, Option, Some, None, refl, sym, ap, ◌∙◌, subst, arith, nat_eq}
use Rattle.std.specs.Prelude.{bytes_eq, is_some}
use Rattle.std.specs.List.{list_all, list_any, slice_get, cons_option}
use Rattle.std.proofs.lemmas.Bool.Decides.{nat_tests}
use Rattle.drda_words.proofs.Precedes.{bytes_eq-refl}
use Rattle.sql_text.specs.Checks.{same_name, first_repeat}
use Rattle.sql_text.proofs.Names.{same_capitals, same_from_capitals}
use Rattle.row_values.specs.Column.{Column}
use Rattle.row_values.specs.Schema as schemas
use Rattle.row_values.specs.Schema.{Schema, is_name, is_key_of, is_limit, no_repeat, picked, key_columns, is_schema}
use Rattle.row_values.proofs.Keys.{are_places}
use Rattle.sql_spelling.proofs.Names.{name_stays}
use Rattle.sql_spelling.proofs.Lists.{AreFor}

both : (a b : Bool) → (a && b) ≡ true → (a ≡ true) × (b ≡ true)
both true b e = (refl, e)
both false b e = absurd (cc)

turned : (b : Bool) → not b ≡ true → b ≡ false
turned true e = absurd (cc)
turned false e = refl

-- ---- what holds of each

abbrev pub Each : {A : Type 0} → (A → Type 0) → List A → Type 0
Each P [] = Unit {0}
Each P (x ∷ xs) = P x × Each P xs

pub each_at : {A : Type 0} (P : A → Type 0) (xs : List A) (i : ℕ) (x : A) → Each P xs → slice_get xs i ≡ Some x → P x
each_at P [] i x all is = absurd (cc)
each_at P (y ∷ ys) zero x (first, rest) is = let same : y ≡ x = cc in subst P same first
each_at P (y ∷ ys) (suc i) x (first, rest) is = each_at P ys i x rest is

-- ---- names that differ

abbrev pub Differ : List (List ℕ) → Type 0
Differ [] = Unit {0}
Differ (n ∷ ns) = Each (λ m. n ≢ m) ns × Differ ns

abbrev pub names : List Column → List (List ℕ)
names cs = map (λ c. c.name) cs

none_same : (c : Column) (cs : List Column) → list_any (schemas.same_name c) cs ≡ false → Each (λ m. c.name ≢ m) (names cs)
none_same c [] e = tt
none_same c (d ∷ ds) e = let k = neither (schemas.same_name c d) (list_any (schemas.same_name c) ds) e in (λ same. apart same k.0, none_same c ds k.1)
  where
    neither : (a b : Bool) → (a || b) ≡ false → (a ≡ false) × (b ≡ false)
    neither true b e = absurd (cc)
    neither false b e = (refl, e)

    apart : c.name ≡ d.name → bytes_eq c.name d.name ≡ false → ⊥
    apart same apart_ = let yes : bytes_eq c.name d.name ≡ true = ap (λ u. bytes_eq c.name u) (sym same) ∙ bytes_eq-refl c.name in cc

pub columns_differ : (cs : List Column) → no_repeat schemas.same_name cs ≡ true → Differ (names cs)
columns_differ [] e = tt
columns_differ (c ∷ cs) e =
    let k = both (not (list_any (schemas.same_name c) cs)) (no_repeat schemas.same_name cs) e in
    (none_same c cs (turned (list_any (schemas.same_name c) cs) k.0), columns_differ cs k.1)

-- ---- the names of a key

pub at_name : (cs : List Column) (i : ℕ) (c : Column) → slice_get cs i ≡ Some c → slice_get (names cs) i ≡ Some c.name
at_name [] i c is = absurd (cc)
at_name (d ∷ ds) zero c is = let same : d ≡ c = cc in ap (λ u. Some u.name) same
at_name (d ∷ ds) (suc i) c is = at_name ds i c is

pub differ_at : (ns : List (List ℕ)) (p q : ℕ) (a b : List ℕ) → Differ ns → slice_get ns p ≡ Some a → slice_get ns q ≡ Some b → p ≢ q → a ≢ b
differ_at [] p q a b d e f apart_ same = cc
differ_at (n ∷ ns) zero zero a b d e f apart_ same = apart_ refl
differ_at (n ∷ ns) zero (suc q) a b (first, rest) e f apart_ same = let here : n ≡ a = cc in each_at (λ m. n ≢ m) ns q b first f (here ∙ same)
differ_at (n ∷ ns) (suc p) zero a b (first, rest) e f apart_ same = let here : n ≡ b = cc in each_at (λ m. n ≢ m) ns p a first e (here ∙ sym same)
differ_at (n ∷ ns) (suc p) (suc q) a b (first, rest) e f apart_ same = differ_at ns p q a b rest e f (λ even. apart_ (ap suc even)) same

other_place : (p q : ℕ) → nat_eq p q ≡ false → p ≢ q
other_place p q e same = grind (arith, nat_tests)

key_apart : (cs : List Column) (p : ℕ) (c : Column) (ps : List ℕ) → Differ (names cs) → slice_get cs p ≡ Some c → list_any (nat_eq p) ps ≡ false → are_places cs ps ≡ true → Each (λ m. c.name ≢ m) (names (picked cs ps))
key_apart cs p c [] d is none all = tt
key_apart cs p c (q ∷ qs) d is none all =
    let k = neither (nat_eq p q) (list_any (nat_eq p) qs) none in
    let l = both (is_some (slice_get cs q)) (are_places cs qs) all in
    by (slice_get cs q) refl l.0 (key_apart cs p c qs d is k.1 l.1) (λ x at. differ_at (names cs) p q c.name x.name d (at_name cs p c is) (at_name cs q x at) (other_place p q k.0))
  where
    neither : (a b : Bool) → (a || b) ≡ false → (a ≡ false) × (b ≡ false)
    neither true b e = absurd (cc)
    neither false b e = (refl, e)

    by : (o : Option Column) → slice_get cs q ≡ o → is_some o ≡ true → Each (λ m. c.name ≢ m) (names (picked cs qs)) → ((x : Column) → slice_get cs q ≡ Some x → c.name ≢ x.name) → Each (λ m. c.name ≢ m) (names (cons_option o (picked cs qs)))
    by None at some rest first = absurd (cc)
    by (Some x) at some rest first = (first x at, rest)

pub key_differs : (cs : List Column) (ps : List ℕ) → Differ (names cs) → no_repeat nat_eq ps ≡ true → are_places cs ps ≡ true → Differ (names (picked cs ps))
key_differs cs [] d e all = tt
key_differs cs (p ∷ ps) d e all =
    let k = both (not (list_any (nat_eq p) ps)) (no_repeat nat_eq ps) e in
    let l = both (is_some (slice_get cs p)) (are_places cs ps) all in
    by (slice_get cs p) refl l.0 (key_differs cs ps d k.1 l.1) (λ x at. key_apart cs p x ps d at (turned (list_any (nat_eq p) ps) k.0) l.1)
  where
    by : (o : Option Column) → slice_get cs p ≡ o → is_some o ≡ true → Differ (names (picked cs ps)) → ((x : Column) → slice_get cs p ≡ Some x → Each (λ m. x.name ≢ m) (names (picked cs ps))) → Differ (names (cons_option o (picked cs ps)))
    by None at some rest first = absurd (cc)
    by (Some x) at some rest first = (first x at, rest)

-- ---- names are compared as they are written

pub other_name : (a b : List ℕ) → is_name a ≡ true → is_name b ≡ true → a ≢ b → same_name a b ≡ false
other_name a b is is' apart_ = by (same_name a b) refl
  where
    by : (v : Bool) → same_name a b ≡ v → v ≡ false
    by true e = absurd (apart_ (sym (name_stays a is) ∙ same_capitals a b e ∙ name_stays b is'))
    by false e = refl

pub own_name : (a : List ℕ) → same_name a a ≡ true
own_name a = same_from_capitals a a refl

-- ---- none repeats an earlier one

module _ {A : Type 0} (name : A → List ℕ) (left : A → ℕ) where
  none_before : (n : List ℕ) (before : List A) → Each (λ m. same_name m n ≡ false) (map name before) → list_any (λ y. same_name (name y) n) before ≡ false
  none_before n [] all = refl
  none_before n (y ∷ ys) (first, rest) = rw first (none_before n ys rest)

  each_behind : (n m : List ℕ) (before : List A) (x : A) → Each (λ k. same_name k m ≡ false) (map name before) → same_name (name x) m ≡ false → Each (λ k. same_name k m ≡ false) (map name (before ++ x ∷ []))
  each_behind n m [] x all one = (one, tt)
  each_behind n m (y ∷ ys) x (first, rest) one = (first, each_behind n m ys x rest one)

  -- none of these is one of those before
  abbrev Apart : List A → List (List ℕ) → Type 0
  Apart before ns = Each (λ n. Each (λ m. same_name m n ≡ false) (map name before)) ns

  apart_more : (before : List A) (x : A) (ns : List (List ℕ)) → is_name (name x) ≡ true → Each (λ n. is_name n ≡ true) ns → Each (λ m. name x ≢ m) ns → Apart before ns → Apart (before ++ x ∷ []) ns
  apart_more before x [] is all apart_ before' = tt
  apart_more before x (n ∷ ns) is (good, all) (one, apart_) (here, rest) = (each_behind n n before x here (other_name (name x) n is good one), apart_more before x ns is all apart_ rest)

  pub no_first_repeat : (before xs : List A) → Each (λ n. is_name n ≡ true) (map name xs) → Differ (map name xs) → Apart before (map name xs) → first_repeat name left before xs ≡ None
  no_first_repeat before [] all d apart = refl
  no_first_repeat before (x ∷ xs) (good, all) (apart_, d) (here, rest) =
      rw (none_before (name x) before here) (no_first_repeat (before ++ x ∷ []) xs all d (apart_more before x (map name xs) good all apart_ rest))

  pub apart_none : (ns : List (List ℕ)) → Apart [] ns
  apart_none [] = tt
  apart_none (n ∷ ns) = (tt, apart_none ns)

-- ---- lists that stand for columns

module _ {D : Type 0} (Q : D → Column → Type 0) where
  pub as_many : (ds : List D) (cs : List Column) → AreFor Q ds cs → length ds ≡ length cs
  as_many [] [] are = refl
  as_many (d ∷ ds) (c ∷ cs) (q, are) = ap suc (as_many ds cs are)
  as_many [] (c ∷ cs) are = absurd are
  as_many (d ∷ ds) [] are = absurd are

  pub mapped : {X : Type 0} (f : D → X) (g : Column → X) → ((d : D) (c : Column) → Q d c → f d ≡ g c) → (ds : List D) (cs : List Column) → AreFor Q ds cs → map f ds ≡ map g cs
  mapped f g same [] [] are = refl
  mapped f g same (d ∷ ds) (c ∷ cs) (q, are) = let one = same d c q in let rest = mapped f g same ds cs are in rw (one, rest) refl
  mapped f g same [] (c ∷ cs) are = absurd are
  mapped f g same (d ∷ ds) [] are = absurd are

  pub none_passes : (p : D → Bool) → ((d : D) (c : Column) → Q d c → p d ≡ false) → (ds : List D) (cs : List Column) → AreFor Q ds cs → list_any p ds ≡ false
  none_passes p apart_ [] [] are = refl
  none_passes p apart_ (d ∷ ds) (c ∷ cs) (q, are) = let one = apart_ d c q in rw one (none_passes p apart_ ds cs are)
  none_passes p apart_ [] (c ∷ cs) are = absurd are
  none_passes p apart_ (d ∷ ds) [] are = absurd are

pub column_names_good : (cs : List Column) → list_all schemas.is_column cs ≡ true → Each (λ n. is_name n ≡ true) (names cs)
column_names_good [] e = tt
column_names_good (c ∷ cs) e = let k = both (schemas.is_column c) (list_all schemas.is_column cs) e in ((both (is_name c.name) (is_limit c.kind c.limit) k.0).0, column_names_good cs k.1)

-- a name of the list is found in it
pub found_name : {D : Type 0} (name : D → List ℕ) (ds : List D) (i : ℕ) (n : List ℕ) → slice_get (map name ds) i ≡ Some n → list_any (λ d. same_name (name d) n) ds ≡ true
found_name name [] i n is = absurd (cc)
found_name name (d ∷ ds) zero n is = let same : name d ≡ n = cc in rw (same, own_name n) refl
found_name name (d ∷ ds) (suc i) n is = behind (same_name (name d) n) (found_name name ds i n is)
  where
    behind : (b : Bool) → list_any (λ d. same_name (name d) n) ds ≡ true → (b || list_any (λ d. same_name (name d) n) ds) ≡ true
    behind true e = refl
    behind false e = e
