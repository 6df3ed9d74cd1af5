-- The columns and the values of a key.
use Rattle.std.proofs.Common.{◌≡◌, ℕ, ◌<◌, ◌≤◌, zero, suc, List, [], ◌∷◌, Bool, true, false, ◌&&◌, refl, sym, ap, ◌∙◌, length, get_or, Option, Some, None, arith, map, ◌*◌, nat_eq, nat_lt, nat_le, eqb-true, length-append}
use Rattle.std.specs.Prelude.{is_none, is_some}
use Rattle.std.specs.List.{list_all, slice_get, cons_option}
use Rattle.std.proofs.lemmas.Option.{slice_get_within, slice_get_read}
use Rattle.std.proofs.lemmas.List.{length-map}
use Rattle.row_values.specs.declared.column.Column.{Column as CodeColumn}
use Rattle.std.proofs.lemmas.Bool.Decides.{nat_tests}
use Rattle.row_values.specs.declared.column.Kind.{Kind}
use Rattle.row_values.specs.declared.column.Kind.TheVariants.{SmallInt, Integer, BigInt, VarChar, VarBinary}
use Rattle.row_values.specs.Value.{Value, null, number, text, binary}
use Rattle.row_values.specs.Row.{all_fit, row_bytes, value_bytes, values_at}
use Rattle.std.specs.Str.{is_utf8}
use Rattle.row_values.specs.declared.column.Misfit.TheVariants.{TooLong}
use Rattle.row_values.specs.Column.{Column, column_of, fits, within}
use Rattle.row_values.proofs.RowSteps.{column_at}
use Rattle.row_values.specs.Schema.{Schema, are_columns, can_be_key, no_repeat, is_column, is_limit, is_name, is_schema, key_columns, picked}
use Rattle.row_values.proofs.ValueLaws.{are_counted, both_true, first_true, second_true, values_at-row_bytes}

-- each place is one of the list
abbrev pub are_places : {A : Type 0} → List A → List ℕ → Bool
are_places xs places = list_all (λ place. is_some (slice_get xs place)) places

picked_step : {A : Type 0} (xs : List A) (o : Option A) (place : ℕ) (places : List ℕ) (i : ℕ) → slice_get xs place ≡ o → is_some o ≡ true → slice_get (picked xs (place ∷ places)) (suc i) ≡ slice_get (picked xs places) i
picked_step xs (Some x) place places i is h = rw is refl
picked_step xs None place places i is h = absurd cc

picked_first : {A : Type 0} (xs : List A) (o : Option A) (place : ℕ) (places : List ℕ) → slice_get xs place ≡ o → is_some o ≡ true → slice_get (picked xs (place ∷ places)) zero ≡ slice_get xs place
picked_first xs (Some x) place places is h = rw is refl
picked_first xs None place places is h = absurd cc

-- an item that is picked is the one of its place
pub picked_at : {A : Type 0} (xs : List A) (places : List ℕ) (i place : ℕ) → are_places xs places ≡ true → slice_get places i ≡ Some place → slice_get (picked xs places) i ≡ slice_get xs place
picked_at xs [] i place all is = absurd cc
picked_at xs (p ∷ ps) zero place all is = let same : p ≡ place = cc in picked_first xs (slice_get xs p) p ps refl (first_true _ _ all) ∙ ap (slice_get xs) same
picked_at xs (p ∷ ps) (suc i) place all is = picked_step xs (slice_get xs p) p ps i refl (first_true _ _ all) ∙ picked_at xs ps i place (second_true _ _ all) is

length_step : {A : Type 0} (xs : List A) (o : Option A) (place : ℕ) (places : List ℕ) → slice_get xs place ≡ o → is_some o ≡ true → length (picked xs (place ∷ places)) ≡ suc (length (picked xs places))
length_step xs (Some x) place places is h = rw is refl
length_step xs None place places is h = absurd cc

pub length-picked : {A : Type 0} (xs : List A) (places : List ℕ) → are_places xs places ≡ true → length (picked xs places) ≡ length places
length-picked xs [] all = refl
length-picked xs (p ∷ ps) all = length_step xs (slice_get xs p) p ps refl (first_true _ _ all) ∙ ap suc (length-picked xs ps (second_true _ _ all))

is_there : (o : Option Column) → can_be_key o ≡ true → is_some o ≡ true
is_there None h = absurd cc
is_there (Some c) h = refl

key_there : (columns : List Column) (key : List ℕ) → list_all (λ place. can_be_key (slice_get columns place)) key ≡ true → are_places columns key ≡ true
key_there columns [] h = refl
key_there columns (p ∷ ps) h = let one = is_there (slice_get columns p) (first_true _ _ h) in let rest = key_there columns ps (second_true _ _ h) in rw (one, rest) refl

-- the key of a schema is of its columns
pub key_places : (schema : Schema) → is_schema schema ≡ true → are_places schema.columns schema.key ≡ true
key_places schema good = let key = second_true _ _ good in key_there schema.columns schema.key (second_true _ _ (first_true _ _ key))

pub all_at : {A : Type 0} (p : A → Bool) (xs : List A) (i : ℕ) (x : A) → list_all p xs ≡ true → slice_get xs i ≡ Some x → p x ≡ true
all_at p [] i x all is = absurd cc
all_at p (y ∷ ys) zero x all is = let same : y ≡ x = cc in ap p (sym same) ∙ first_true _ _ all
all_at p (y ∷ ys) (suc i) x all is = all_at p ys i x (second_true _ _ all) is

-- ---- the columns of a key

pub within_some : {A : Type 0} (xs : List A) (p : ℕ) (o : Option A) → slice_get xs p ≡ o → is_some o ≡ true → p < length xs
within_some xs p (Some x) is h = slice_get_within xs p x is
within_some xs p None is h = absurd cc

pub place_within : {A : Type 0} (xs : List A) (places : List ℕ) (i place : ℕ) → are_places xs places ≡ true → slice_get places i ≡ Some place → (n : ℕ) → length xs ≡ n → place < n
place_within xs [] i place all is n count = absurd cc
place_within xs (p ∷ ps) zero place all is n count = let same : p ≡ place = cc in let lt = within_some xs p (slice_get xs p) refl (first_true _ _ all) in rw (← same, ← count) lt
place_within xs (p ∷ ps) (suc i) place all is n count = place_within xs ps i place (second_true _ _ all) is n count

pub same_default : (xs : List ℕ) (i d e : ℕ) → d ≡ e → get_or xs i d ≡ get_or xs i e
same_default xs i d e is = ap (get_or xs i) is

key_at : (schema : Schema) (columns : List CodeColumn) (key : List ℕ) (i place : ℕ) → schema ≡ record { columns = map column_of columns; key = key } → i < length schema.key → place ≡ get_or key i place → slice_get key i ≡ Some place
key_at schema columns key i place is lt at =
    let count : length schema.key ≡ length key = ap (λ (s : Schema). length s.key) is in
    let lt' : i < length key = omega arith in
    slice_get_read key (length key) i place refl lt' at

-- a place of the key is one of a column
pub inside_columns : (schema : Schema) (columns : List CodeColumn) (key : List ℕ) (i place : ℕ) → schema ≡ record { columns = map column_of columns; key = key } → is_schema (record { columns = map column_of columns; key = key }) ≡ true
    → i < length schema.key → place ≡ get_or key i place → place < length columns
inside_columns schema columns key i place is good lt at =
    let inner : Schema = record { columns = map column_of columns; key = key } in
    place_within (map column_of columns) key i place (key_places inner good) (key_at schema columns key i place is lt at) (length columns) (length-map columns column_of)

-- the key column at a place of the key
pub key_column_is : (schema : Schema) (columns : List CodeColumn) (key : List ℕ) (i place : ℕ) (column : CodeColumn) → schema ≡ record { columns = map column_of columns; key = key } → is_schema (record { columns = map column_of columns; key = key }) ≡ true
    → i < length schema.key → place ≡ get_or key i place → column ≡ get_or columns place column → slice_get (key_columns schema) i ≡ Some (column_of column)
key_column_is schema columns key i place column is good lt at found =
    let inner : Schema = record { columns = map column_of columns; key = key } in
    ap (λ (s : Schema). slice_get (key_columns s) i) is ∙ picked_at (map column_of columns) key i place (key_places inner good) (key_at schema columns key i place is lt at)
    ∙ column_at columns place column (inside_columns schema columns key i place is good lt at) found

-- there are as many key columns as places
pub key_count : (schema : Schema) → is_schema schema ≡ true → length (key_columns schema) ≡ length schema.key
key_count schema good = length-picked schema.columns schema.key (key_places schema good)

all_picked : {A : Type 0} (p : A → Bool) (xs : List A) (i : ℕ) (o : Option A) → list_all p xs ≡ true → slice_get xs i ≡ o → (rest : List A) → list_all p rest ≡ true → list_all p (cons_option o rest) ≡ true
all_picked p xs i None all is rest more = more
all_picked p xs i (Some x) all is rest more = let one = all_at p xs i x all is in rw (one, more) refl

-- what all items are, all picked ones are
pub picked_all : {A : Type 0} (p : A → Bool) (xs : List A) (places : List ℕ) → list_all p xs ≡ true → list_all p (picked xs places) ≡ true
picked_all p xs [] all = refl
picked_all p xs (i ∷ is) all = all_picked p xs i (slice_get xs i) all refl (picked xs is) (picked_all p xs is all)

pub limit_counted : (kind : Kind) (limit : ℕ) → is_limit kind limit ≡ true → nat_lt limit 65536 ≡ true
limit_counted SmallInt limit h = let e : limit ≡ 0 = eqb-true limit 0 h in rw e refl
limit_counted Integer limit h = let e : limit ≡ 0 = eqb-true limit 0 h in rw e refl
limit_counted BigInt limit h = let e : limit ≡ 0 = eqb-true limit 0 h in rw e refl
limit_counted VarChar limit h = let e : nat_le limit 2000 ≡ true = second_true (nat_lt 0 limit) (nat_le limit 2000) h in grind (arith, nat_tests)
limit_counted VarBinary limit h = let e : nat_le limit 2000 ≡ true = second_true (nat_lt 0 limit) (nat_le limit 2000) h in grind (arith, nat_tests)

limit_short : (kind : Kind) (limit : ℕ) → is_limit kind limit ≡ true → limit ≤ 2000
limit_short SmallInt limit h = let e : limit ≡ 0 = eqb-true limit 0 h in omega arith
limit_short Integer limit h = let e : limit ≡ 0 = eqb-true limit 0 h in omega arith
limit_short BigInt limit h = let e : limit ≡ 0 = eqb-true limit 0 h in omega arith
limit_short VarChar limit h = let e : nat_le limit 2000 ≡ true = second_true (nat_lt 0 limit) (nat_le limit 2000) h in grind (arith, nat_tests)
limit_short VarBinary limit h = let e : nat_le limit 2000 ≡ true = second_true (nat_lt 0 limit) (nat_le limit 2000) h in grind (arith, nat_tests)

-- two bytes tell the lengths of a schema's columns
pub counted_columns : (columns : List Column) → list_all is_column columns ≡ true → are_counted columns ≡ true
counted_columns [] good = refl
counted_columns (c ∷ cs) good = both_true _ _ (limit_counted c.kind c.limit (second_true _ _ (first_true _ _ good))) (counted_columns cs (second_true _ _ good))

pub schema_columns : (schema : Schema) → is_schema schema ≡ true → list_all is_column schema.columns ≡ true
schema_columns schema good = second_true _ _ (first_true _ _ (first_true _ _ good))

-- ---- the length of a key

length_told : (b d : Bool) → (is_none (within b TooLong) && d) ≡ true → b ≡ true
length_told true d h = refl
length_told false d h = absurd cc

value_short : (nullable : Bool) (kind : Kind) (limit : ℕ) (name : List ℕ) (value : Value) → limit ≤ 2000 → fits (record { name = name; kind = kind; is_nullable = nullable; limit = limit }) value ≡ true → length (value_bytes kind value) ≤ 2003
value_short nullable kind limit name null short fit = omega arith
value_short nullable SmallInt limit name (number z) short fit = omega arith
value_short nullable Integer limit name (number z) short fit = omega arith
value_short nullable BigInt limit name (number z) short fit = omega arith
value_short nullable VarChar limit name (number z) short fit = omega arith
value_short nullable VarBinary limit name (number z) short fit = omega arith
value_short nullable SmallInt limit name (text t) short fit = omega arith
value_short nullable Integer limit name (text t) short fit = omega arith
value_short nullable BigInt limit name (text t) short fit = omega arith
value_short nullable VarChar limit name (text t) short fit = let le : nat_le (length t) limit ≡ true = length_told (nat_le (length t) limit) (is_utf8 t) fit in let l : length t ≤ limit = grind (arith, nat_tests) in omega arith
value_short nullable VarBinary limit name (text t) short fit = omega arith
value_short nullable SmallInt limit name (binary t) short fit = omega arith
value_short nullable Integer limit name (binary t) short fit = omega arith
value_short nullable BigInt limit name (binary t) short fit = omega arith
value_short nullable VarChar limit name (binary t) short fit = omega arith
value_short nullable VarBinary limit name (binary t) short fit = let le : nat_le (length t) limit ≡ true = length_told (nat_le (length t) limit) true fit in let l : length t ≤ limit = grind (arith, nat_tests) in omega arith

pub row_short : (columns : List Column) (values : List Value) → list_all is_column columns ≡ true → all_fit columns values ≡ true → length (row_bytes columns values) ≤ 2003 * length columns
row_short [] [] good fit = omega arith
row_short [] (v ∷ vs) good fit = absurd cc
row_short (c ∷ cs) [] good fit = absurd cc
row_short (c ∷ cs) (v ∷ vs) good fit =
    let one : length (value_bytes c.kind v) ≤ 2003 = value_short c.is_nullable c.kind c.limit c.name v (limit_short c.kind c.limit (second_true (is_name c.name) (is_limit c.kind c.limit) (first_true (is_column c) (list_all is_column cs) good))) (first_true (fits c v) (all_fit cs vs) fit) in
    let more : length (row_bytes cs vs) ≤ 2003 * length cs = row_short cs vs (second_true (is_column c) (list_all is_column cs) good) (second_true (fits c v) (all_fit cs vs) fit) in
    let sum = length-append (value_bytes c.kind v) (row_bytes cs vs) in
    omega arith

four : (a b c d e : Bool) → (e && (a && b && c && d)) ≡ true → b ≡ true
four true true c d true h = refl
four true false c d true h = absurd cc
four false b c d true h = absurd cc
four a b c d false h = absurd cc

few_places : (schema : Schema) → is_schema schema ≡ true → nat_le (length schema.key) 4 ≡ true
few_places schema good =
    four (nat_lt 0 (length schema.key)) (nat_le (length schema.key) 4) (list_all (λ place. can_be_key (slice_get schema.columns place)) schema.key) (no_repeat nat_eq schema.key) (are_columns schema.columns) good

-- a key has at most 4 columns
pub key_few : (schema : Schema) → is_schema schema ≡ true → length schema.key ≤ 4
key_few schema good = let told = few_places schema good in grind (arith, nat_tests)

-- a key has at most 8,012 bytes
pub key_short : (schema : Schema) (values : List Value) → is_schema schema ≡ true → all_fit (key_columns schema) values ≡ true → length (row_bytes (key_columns schema) values) ≤ 8012
key_short schema values good fit =
    let most = row_short (key_columns schema) values (picked_all is_column schema.columns schema.key (schema_columns schema good)) fit in
    let count = key_count schema good in
    let told = few_places schema good in
    let few : length schema.key ≤ 4 = grind (arith, nat_tests) in
    omega arith

-- a key that was written is read
pub key_good : (schema : Schema) (values : List Value) → is_schema schema ≡ true → all_fit (key_columns schema) values ≡ true → values_at (key_columns schema) (row_bytes (key_columns schema) values) ≡ Some values
key_good schema values good fit = values_at-row_bytes (key_columns schema) values (counted_columns (key_columns schema) (picked_all is_column schema.columns schema.key (schema_columns schema good))) fit
