-- The columns of a row that stands in bytes.
use Rattle.std.proofs.Common.{◌≡◌, ℕ, ◌+◌, ◌≤◌, zero, suc, List, [], ◌∷◌, ◌++◌, Bool, true, false, if◌then◌else◌, IsTrue, refl, sym, ap, subst, ◌∙◌, length, drop, take, nat_le, Option, Some, None, arith, append_assoc, length-append}
use Rattle.std.proofs.lemmas.Bool.Decides.{nat_tests}
use Rattle.std.specs.Prelude.{is_some, IfSome, IsSome, unwrap_or}
use Rattle.std.specs.List.{slice_get}
use Rattle.std.proofs.Math.Seq.{drop-append_seam, take-append_seam}
use Rattle.drda_words.specs.Bytes.{AreBytes}
use Rattle.drda_words.specs.Place.{StandsAt}
use Rattle.row_values.specs.Value.{Value}
use Rattle.row_values.specs.Column.{Column, fits}
use Rattle.row_values.proofs.ValueLaws.{values_at-is}
use Rattle.row_values.specs.Schema.{Schema}
use Rattle.row_values.specs.Row.{StandsFrom, all_fit, is_row, place_of, row_bytes, value_at, value_bytes, values_at, values_in, values_of, values_or_none}
use Rattle.row_values.proofs.ReadSteps.{all_there, reads_at}
use Rattle.row_values.proofs.RowSteps.{all_fit-length, fits_at, row_at}

-- bytes between others stand behind the first of them
pub stands_in : (text front bytes after : List ℕ) → text ≡ front ++ (bytes ++ after) → StandsAt text (length front) bytes
stands_in text front bytes after is =
    let size : length text ≡ length front + (length bytes + length after) = ap length is ∙ length-append front (bytes ++ after) ∙ ap (λ (n : ℕ). length front + n) (length-append bytes after) in
    (omega (arith, size), ap (λ (t : List ℕ). take (length bytes) (drop (length front) t)) is ∙ ap (take (length bytes)) (drop-append_seam front (bytes ++ after)) ∙ take-append_seam bytes after)

some_if : (b : Bool) (o : Option (List Value)) → is_some (if b then o else None) ≡ true → (b ≡ true) × ((if b then o else None) ≡ o) × IsSome o
some_if true o h = (refl, refl, h)
some_if false o h = absurd cc

-- a row has values, and at most 4,000 bytes
pub row_is : (schema : Schema) (row : List ℕ) → is_row schema row ≡ true → (nat_le (length row) 4000 ≡ true) × (values_of schema row ≡ values_at schema.columns row) × IsSome (values_at schema.columns row)
row_is schema row h = some_if (nat_le (length row) 4000) (values_at schema.columns row) h

pub values_are : (schema : Schema) (row : List ℕ) → is_row schema row ≡ true → values_in schema row ≡ values_or_none schema.columns row
values_are schema row h = ap (λ (o : Option (List Value)). unwrap_or o []) (row_is schema row h).1

pub row_values_at : (schema : Schema) (row : List ℕ) → is_row schema row ≡ true → values_at schema.columns row ≡ Some (values_in schema row)
row_values_at schema row h = all_there (values_at schema.columns row) (row_is schema row h).2 ∙ ap Some (sym (values_are schema row h))

-- what is read as a row was written so
pub row_written : (schema : Schema) (row : List ℕ) → AreBytes row → is_row schema row ≡ true → IsTrue (all_fit schema.columns (values_in schema row)) × (row ≡ row_bytes schema.columns (values_in schema row))
row_written schema row all h = values_at-is schema.columns row (values_in schema row) all (row_values_at schema row h)

-- the bytes of a row are those up to a place, and those from there on
pub row_split : (columns : List Column) (values : List Value) (i : ℕ) → length columns ≡ length values → row_bytes columns values ≡ row_bytes (take i columns) (take i values) ++ row_bytes (drop i columns) (drop i values)
row_split [] [] zero same = refl
row_split [] [] (suc i) same = refl
row_split [] (v ∷ vs) i same = absurd (omega arith)
row_split (c ∷ cs) [] i same = absurd (omega arith)
row_split (c ∷ cs) (v ∷ vs) zero same = refl
row_split (c ∷ cs) (v ∷ vs) (suc i) same =
    ap (λ (l : List ℕ). value_bytes c.kind v ++ l) (row_split cs vs i (omega arith)) ∙ sym (append_assoc (value_bytes c.kind v) (row_bytes (take i cs) (take i vs)) (row_bytes (drop i cs) (drop i vs)))

-- the bytes of a column's value stand where those of the earlier columns end
pub column_stands : (columns : List Column) (values : List Value) (i : ℕ) (column : Column) (value : Value) → all_fit columns values ≡ true → slice_get columns i ≡ Some column → slice_get values i ≡ Some value
    → StandsAt (row_bytes columns values) (place_of columns values i) (value_bytes column.kind value)
column_stands columns values i column value fit p q =
    stands_in (row_bytes columns values) (row_bytes (take i columns) (take i values)) (value_bytes column.kind value) (row_bytes (drop (i + 1) columns) (drop (i + 1) values))
    (row_split columns values i (all_fit-length columns values fit) ∙ ap (λ (l : List ℕ). row_bytes (take i columns) (take i values) ++ l) (row_at columns values i column value p q))

-- what is wanted of a column's value
abbrev pub IsColumnAt : Schema → List ℕ → ℕ → Column → Value → Type 0
IsColumnAt schema row i column value = (slice_get (values_in schema row) i ≡ Some value) × IsTrue (fits column value) × StandsAt row (place_of schema.columns (values_in schema row) i) (value_bytes column.kind value)

-- the value of a column, read where it stands
pub column_value : (schema : Schema) (row : List ℕ) (columns : List Column) (i : ℕ) (column : Column) (rest : List ℕ) (x : Value × List ℕ) → columns ≡ schema.columns → is_row schema row ≡ true
    → IsTrue (all_fit schema.columns (values_in schema row)) × (row ≡ row_bytes schema.columns (values_in schema row)) → slice_get columns i ≡ Some column
    → StandsFrom columns row i rest → Some x ≡ value_at column rest → IsColumnAt schema row i column x.0
column_value schema row columns i column rest x same good written at stands is =
    let values = values_in schema row in
    let at' : slice_get schema.columns i ≡ Some column = subst (λ (cs : List Column). slice_get cs i ≡ Some column) same at in
    let stands' : values_at (drop i schema.columns) rest ≡ Some (drop i values) =
    subst (λ (vs : List Value). values_at (drop i schema.columns) rest ≡ Some (drop i vs)) (sym (values_are schema row good)) (subst (λ (cs : List Column). StandsFrom cs row i rest) same stands).0 in
    let r = reads_at schema.columns values i column rest at' stands' in
    let first : r.0.0 ≡ x.0 = let e : Some r.0 ≡ Some x = sym r.1 ∙ sym is in cc in
    let got : slice_get values i ≡ Some x.0 = r.2 ∙ ap Some first in (
      got,
      fits_at schema.columns values i column x.0 written.0 at' got,
      subst (λ (bytes : List ℕ). StandsAt bytes (place_of schema.columns values i) (value_bytes column.kind x.0)) (sym written.1) (column_stands schema.columns values i column x.0 written.0 at' got),
    )

pub row_found : (schema : Schema) (row : List ℕ) (columns : List Column) (b : Bool) → columns ≡ schema.columns → length row ≤ 4000 → b ≡ is_some (values_at columns row) → b ≡ true → is_row schema row ≡ true
row_found schema row columns b same short is found =
    let fits : nat_le (length row) 4000 ≡ true = grind (arith, nat_tests) in
    let some : is_some (values_at schema.columns row) ≡ true = ap (λ (cs : List Column). is_some (values_at cs row)) (sym same) ∙ sym is ∙ found in
    rw (fits, some) refl

-- a result that is told by cases on a place of a list
pub at_place : {A : Type 0} (P : A → Type 0) (xs : List A) (i : ℕ) (x : A) → slice_get xs i ≡ Some x → P x → IfSome (slice_get xs i) P
at_place P xs i x is p = subst (λ o. IfSome o P) (sym is) p
