-- Values read one after another.
use Rattle.std.proofs.Common.{◌≡◌, ℕ, ◌+◌, ◌<◌, ◌≤◌, zero, suc, List, [], ◌∷◌, ◌++◌, false, refl, sym, ap, subst, ◌∙◌, length, drop, take, get_or, Option, Some, None, option_map, arith, add-one, append_assoc, append-nil, ◌==◌}
use Rattle.std.specs.Prelude.{is_some, IsSome, unwrap_or}
use Rattle.std.specs.Option.{option_and_then}
use Rattle.std.proofs.lemmas.Bool.Decides.{nat_tests}
use Rattle.std.specs.List.{slice_get}
use Rattle.std.proofs.Math.Seq.{drop-append_seam}
use Rattle.std.proofs.lemmas.List.{get_or-drop, drop_all}
use Rattle.drda_words.specs.Bytes.{AreBytes}
use Rattle.row_values.specs.Value.{Value}
use Rattle.row_values.specs.Column.{Column}
use Rattle.row_values.specs.Row.{StandsFrom, row_bytes, value_at, value_bytes, values_at, values_or_none}
use Rattle.row_values.proofs.ValueLaws.{chained, mapped, value_at-is}

drop_from : {X : Type 0} (xs : List X) (i : ℕ) (x : X) → slice_get xs i ≡ Some x → drop i xs ≡ x ∷ drop (suc i) xs
drop_from [] i x h = absurd cc
drop_from (y ∷ ys) zero x h = let same : y ≡ x = cc in rw same refl
drop_from (y ∷ ys) (suc i) x h = drop_from ys i x h

-- the items from place i on are the one there and those from the next place on
pub drop_at : {X : Type 0} (xs : List X) (i : ℕ) (x : X) → slice_get xs i ≡ Some x → drop i xs ≡ x ∷ drop (i + 1) xs
drop_at xs i x h = rw add-one (drop_from xs i x h)

take_to : {X : Type 0} (xs : List X) (i : ℕ) (x : X) → slice_get xs i ≡ Some x → take (suc i) xs ≡ take i xs ++ x ∷ []
take_to [] i x h = absurd cc
take_to (y ∷ ys) zero x h = let same : y ≡ x = cc in rw same refl
take_to (y ∷ ys) (suc i) x h = ap (λ l. y ∷ l) (take_to ys i x h)

pub take_at : {X : Type 0} (xs : List X) (i : ℕ) (x : X) → slice_get xs i ≡ Some x → take (i + 1) xs ≡ take i xs ++ x ∷ []
take_at xs i x h = rw add-one (take_to xs i x h)

-- a place that a list is read from is one of it
got_from : {X : Type 0} (xs : List X) (i : ℕ) (x : X) (rest : List X) → drop i xs ≡ x ∷ rest → slice_get xs i ≡ Some x
got_from [] zero x rest h = absurd cc
got_from [] (suc i) x rest h = absurd cc
got_from (y ∷ ys) zero x rest h = let same : y ≡ x = cc in ap Some same
got_from (y ∷ ys) (suc i) x rest h = got_from ys i x rest h

-- what reading from place i on does with the column there
pub read_step : (columns : List Column) (i : ℕ) (column : Column) (rest : List ℕ) (o : Option (Value × List ℕ)) → slice_get columns i ≡ Some column → o ≡ value_at column rest
    → values_at (drop i columns) rest ≡ option_and_then (λ (x : Value × List ℕ). option_map (λ values. x.0 ∷ values) (values_at (drop (i + 1) columns) x.1)) o
read_step columns i column rest o at is = ap (λ (cs : List Column). values_at cs rest) (drop_at columns i column at) ∙ ap (option_and_then (λ (x : Value × List ℕ). option_map (λ values. x.0 ∷ values) (values_at (drop (i + 1) columns) x.1))) (sym is)

pub still_some : {A B : Type 0} (f : A → B) (o : Option A) → is_some (option_map f o) ≡ is_some o
still_some f None = refl
still_some f (Some x) = refl

pub none_step : (columns : List Column) (i : ℕ) (column : Column) (rest : List ℕ) → slice_get columns i ≡ Some column → None ≡ value_at column rest → is_some (values_at (drop i columns) rest) ≡ false
none_step columns i column rest at is = ap is_some (read_step columns i column rest None at is)

pub some_step : (columns : List Column) (i : ℕ) (column : Column) (rest : List ℕ) (x : Value × List ℕ) → slice_get columns i ≡ Some column → Some x ≡ value_at column rest
    → is_some (values_at (drop (i + 1) columns) x.1) ≡ is_some (values_at (drop i columns) rest)
some_step columns i column rest x at is = sym (still_some _ (values_at (drop (i + 1) columns) x.1)) ∙ sym (ap is_some (read_step columns i column rest (Some x) at is))

apart : {X : Type 0} (x : X) → None ≡ Some x → ⊥
apart x h = cc

tails : {X : Type 0} (x : X) (xs ys : List X) → x ∷ xs ≡ x ∷ ys → xs ≡ ys
tails x xs ys h = cc

row_to : (columns : List Column) (values : List Value) (i : ℕ) (column : Column) (value : Value) → slice_get columns i ≡ Some column → slice_get values i ≡ Some value
    → row_bytes (take (suc i) columns) (take (suc i) values) ≡ row_bytes (take i columns) (take i values) ++ value_bytes column.kind value
row_to [] values i column value p q = absurd cc
row_to (c ∷ cs) [] i column value p q = absurd cc
row_to (c ∷ cs) (v ∷ vs) zero column value p q = let one : c ≡ column = cc in let two : v ≡ value = cc in rw (one, two) (append-nil (value_bytes column.kind value))
row_to (c ∷ cs) (v ∷ vs) (suc i) column value p q =
    ap (λ (l : List ℕ). value_bytes c.kind v ++ l) (row_to cs vs i column value p q) ∙ sym (append_assoc (value_bytes c.kind v) (row_bytes (take i cs) (take i vs)) (value_bytes column.kind value))

pub all_there : (o : Option (List Value)) → IsSome o → o ≡ Some (unwrap_or o [])
all_there (Some vs) h = refl
all_there None h = absurd cc

-- what place i reads, where the rest of a row has its values from there on
pub reads_at : (columns : List Column) (values : List Value) (i : ℕ) (column : Column) (rest : List ℕ) → slice_get columns i ≡ Some column → values_at (drop i columns) rest ≡ Some (drop i values)
    → (x : Value × List ℕ) × (value_at column rest ≡ Some x) × (slice_get values i ≡ Some x.0) × (values_at (drop (i + 1) columns) x.1 ≡ Some (drop (i + 1) values))
reads_at columns values i column rest at is =
    let whole = sym (read_step columns i column rest (value_at column rest) at refl) ∙ is in
    let m = chained (λ (x : Value × List ℕ). option_map (λ vs. x.0 ∷ vs) (values_at (drop (i + 1) columns) x.1)) (value_at column rest) (drop i values) whole in
    let t = mapped (λ (vs : List Value). m.0.0 ∷ vs) (values_at (drop (i + 1) columns) m.0.1) (drop i values) m.2 in
    let got : slice_get values i ≡ Some m.0.0 = got_from values i m.0.0 t.0 (sym t.2) in
    let tail : t.0 ≡ drop (i + 1) values = tails m.0.0 t.0 (drop (i + 1) values) (t.2 ∙ drop_at values i m.0.0 got) in
    (m.0, m.1, got, t.1 ∙ ap Some tail)

-- more of a row's bytes: those of the next value
pub row_bytes-more : (columns : List Column) (values : List Value) (i : ℕ) (column : Column) (value : Value) → slice_get columns i ≡ Some column → slice_get values i ≡ Some value
    → row_bytes (take (i + 1) columns) (take (i + 1) values) ≡ row_bytes (take i columns) (take i values) ++ value_bytes column.kind value
row_bytes-more columns values i column value p q = rw add-one (row_to columns values i column value p q)

-- the rest of a row's bytes are bytes
pub rest_bytes : (bytes front rest : List ℕ) → AreBytes bytes → bytes ≡ front ++ rest → AreBytes rest
rest_bytes bytes front rest all is i =
    let left : drop (length front) bytes ≡ rest = ap (drop (length front)) is ∙ drop-append_seam front rest in
    subst (λ (l : List ℕ). get_or l i 0 < 256) left (rw (get_or-drop (length front) bytes i 0) (all (length front + i)))

-- one more value is read
pub stands_step : (columns : List Column) (bytes : List ℕ) (i : ℕ) (column : Column) (rest : List ℕ) (x : Value × List ℕ) → AreBytes bytes → slice_get columns i ≡ Some column → Some x ≡ value_at column rest
    → StandsFrom columns bytes i rest → StandsFrom columns bytes (i + 1) x.1
stands_step columns bytes i column rest x all at is stands =
    let values = values_or_none columns bytes in
    let r = reads_at columns values i column rest at stands.0 in
    let same : r.0 ≡ x = let e : Some r.0 ≡ Some x = sym r.1 ∙ sym is in cc in
    let v = value_at-is column rest r.0 (rest_bytes bytes (row_bytes (take i columns) (take i values)) rest all stands.1) r.1 in
    let whole : bytes ≡ row_bytes (take (i + 1) columns) (take (i + 1) values) ++ r.0.1 =
    stands.1 ∙ ap (λ (l : List ℕ). row_bytes (take i columns) (take i values) ++ l) v.1
    ∙ sym (append_assoc (row_bytes (take i columns) (take i values)) (value_bytes column.kind r.0.0) r.0.1)
    ∙ ap (λ (l : List ℕ). l ++ r.0.1) (sym (row_bytes-more columns values i column r.0.0 at r.2)) in
    subst (λ (y : Value × List ℕ). StandsFrom columns bytes (i + 1) y.1) same (r.3, whole)

-- something is read of the next column
pub reads_there : (columns : List Column) (values : List Value) (i : ℕ) (column : Column) (rest : List ℕ) → slice_get columns i ≡ Some column → values_at (drop i columns) rest ≡ Some (drop i values) → IsSome (value_at column rest)
reads_there columns values i column rest at read = ap is_some (reads_at columns values i column rest at read).1

pub stands_there : (columns : List Column) (bytes : List ℕ) (i : ℕ) (column : Column) (rest : List ℕ) → slice_get columns i ≡ Some column → StandsFrom columns bytes i rest → IsSome (value_at column rest)
stands_there columns bytes i column rest at stands = reads_there columns (values_or_none columns bytes) i column rest at stands.0

-- at the beginning all values are to come
pub stands_first : (columns : List Column) (bytes : List ℕ) → IsSome (values_at columns bytes) → StandsFrom columns bytes 0 bytes
stands_first columns bytes some = (all_there (values_at columns bytes) some, refl)

all_read : (rest : List ℕ) → (length rest == 0) ≡ is_some (values_at [] rest)
all_read [] = refl
all_read (byte ∷ bytes) = grind (arith, nat_tests)

-- past the last column nothing may be left
pub none_left : (columns : List Column) (i : ℕ) (rest : List ℕ) → length columns ≤ i → (length rest == 0) ≡ is_some (values_at (drop i columns) rest)
none_left columns i rest past = all_read rest ∙ ap (λ (cs : List Column). is_some (values_at cs rest)) (sym (drop_all i columns past))

-- what is read of the next column is the next value, and leaves the others
pub next_read : (columns : List Column) (values : List Value) (i : ℕ) (column : Column) (rest : List ℕ) (x : Value × List ℕ) → slice_get columns i ≡ Some column → Some x ≡ value_at column rest
    → values_at (drop i columns) rest ≡ Some (drop i values) → (slice_get values i ≡ Some x.0) × (values_at (drop (i + 1) columns) x.1 ≡ Some (drop (i + 1) values))
next_read columns values i column rest x at is read =
    let r = reads_at columns values i column rest at read in
    let same : r.0 ≡ x = let e : Some r.0 ≡ Some x = sym r.1 ∙ sym is in cc in
    subst (λ (y : Value × List ℕ). (slice_get values i ≡ Some y.0) × (values_at (drop (i + 1) columns) y.1 ≡ Some (drop (i + 1) values))) same (r.2, r.3)

-- there are as many values as columns
pub values_count : (columns : List Column) (bytes : List ℕ) (values : List Value) → values_at columns bytes ≡ Some values → length values ≡ length columns
values_count [] [] values h = let none : [] ≡ values = cc in ap length (sym none)
values_count [] (byte ∷ bytes) values h = absurd cc
values_count (c ∷ cs) bytes values h =
    let m = chained (λ (x : Value × List ℕ). option_map (λ vs. x.0 ∷ vs) (values_at cs x.1)) (value_at c bytes) values h in
    let t = mapped (λ (vs : List Value). m.0.0 ∷ vs) (values_at cs m.0.1) values m.2 in
    ap length (sym t.2) ∙ ap suc (values_count cs m.0.1 t.0 t.1)

-- ---- the first of several columns

first_there : (f : Value × List ℕ → Option (List Value)) (o : Option (Value × List ℕ)) → IsSome (option_and_then f o) → IsSome o
first_there f (Some x) h = refl
first_there f None h = absurd cc

-- where all values are read, the first one is
pub walk_there : (c : Column) (cs : List Column) (rest : List ℕ) → IsSome (values_at (c ∷ cs) rest) → IsSome (value_at c rest)
walk_there c cs rest h = first_there (λ (x : Value × List ℕ). option_map (λ vs. x.0 ∷ vs) (values_at cs x.1)) (value_at c rest) h

walk_by : (c : Column) (cs : List Column) (rest : List ℕ) (x : Value × List ℕ) → Some x ≡ value_at c rest → values_at (c ∷ cs) rest ≡ option_map (λ vs. x.0 ∷ vs) (values_at cs x.1)
walk_by c cs rest x is = ap (option_and_then (λ (y : Value × List ℕ). option_map (λ vs. y.0 ∷ vs) (values_at cs y.1))) (sym is)

added : (v : Value) (o : Option (List Value)) → IsSome (option_map (λ vs. v ∷ vs) o) → unwrap_or (option_map (λ vs. v ∷ vs) o) [] ≡ v ∷ unwrap_or o []
added v (Some vs) h = refl
added v None h = absurd cc

-- the values behind the first one are read of what follows it
pub walk_on : (c : Column) (cs : List Column) (rest : List ℕ) (x : Value × List ℕ) → IsSome (values_at (c ∷ cs) rest) → Some x ≡ value_at c rest → IsSome (values_at cs x.1)
walk_on c cs rest x h is = sym (still_some (λ vs. x.0 ∷ vs) (values_at cs x.1)) ∙ sym (ap is_some (walk_by c cs rest x is)) ∙ h

-- ---- the column of a place

-- where all values from place i on are read, the one there is
pub there_from : (columns : List Column) (i : ℕ) (c : Column) (rest : List ℕ) → slice_get columns i ≡ Some c → IsSome (values_at (drop i columns) rest) → IsSome (value_at c rest)
there_from columns i c rest at h = walk_there c (drop (i + 1) columns) rest (ap (λ (cs : List Column). is_some (values_at cs rest)) (sym (drop_at columns i c at)) ∙ h)

no_values : (rest : List ℕ) → values_or_none [] rest ≡ []
no_values [] = refl
no_values (byte ∷ bytes) = refl

-- past the last column no value is to come
pub ends_from : (columns : List Column) (i : ℕ) (rest : List ℕ) → length columns ≤ i → values_or_none (drop i columns) rest ≡ []
ends_from columns i rest past = ap (λ (cs : List Column). values_or_none cs rest) (drop_all i columns past) ∙ no_values rest
