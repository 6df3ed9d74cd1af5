-- What is written of tables and rows is read.
use Rattle.std.proofs.Common.{◌≡◌, ℕ, zero, suc, ◌≤◌, ◌<◌, Bool, true, ◌&&◌, List, [], ◌∷◌, ◌++◌, length, Option, Some, None, Ok, refl, sym, ap, ◌∙◌, subst, arith}
use Rattle.std.specs.Prelude.{ℤ, pos, negsuc, nat_le, nat_lt, codes, int_le}
use Rattle.std.specs.List.{slice_get, cons_option}
use Rattle.std.proofs.lemmas.Bool.Decides.{nat_tests}
use Rattle.std.proofs.lemmas.Int.{ints}
use Rattle.std.proofs.lemmas.List.{append-nil}
use Rattle.drda_words.specs.Bytes.{AreBytes}
use Rattle.drda_words.proofs.Bytes.{front_are_bytes, rest_are_bytes}
use Rattle.byteorder.specs.Endian.{big_bytes}
use Rattle.sql_lex.specs.Markers.{markers_in}
use Rattle.sql_lex.specs.Tokens.{Lexeme, tokens}
use Rattle.sql_text.specs.Checks.{refusal_of}
use Rattle.sql_text.specs.Grammar.{Tree}
use Rattle.sql_text.specs.Plain as plain
use Rattle.sql_text.specs.Rules.{command_at, longest}
use Rattle.sql_text.specs.Text.{reading, answer, outcome_answer}
use Rattle.sql_text.specs.declared.tree.Command.{Command}
use Rattle.sql_text.proofs.Answered.{few_tokens}
use Rattle.row_values.specs.declared.column.Kind.{Kind}
use Rattle.row_values.specs.declared.column.Kind.TheVariants.{SmallInt, Integer, BigInt, VarChar, VarBinary}
use Rattle.row_values.specs.Value.{Value, null, number, text, binary}
use Rattle.row_values.specs.Column.{Column, fits}
use Rattle.row_values.specs.Schema.{Schema, is_name, is_schema, is_column, key_columns, picked}
use Rattle.row_values.specs.Row.{all_fit, row_bytes, value_bytes, values_in}
use Rattle.row_values.proofs.ByteSteps.{short_name}
use Rattle.row_values.proofs.Keys.{are_places, key_places, schema_columns, key_count, picked_all}
use Rattle.row_values.proofs.ReadSteps.{values_count}
use Rattle.row_values.proofs.RowColumns.{row_is, row_written, row_values_at}
use Rattle.row_values.proofs.ValueLaws.{is_within, first_true, second_true}
use Rattle.sql_spelling.specs.Text.{separated, column_text, create_text}
use Rattle.sql_spelling.specs.Meant.{IsFree, AreFree, IsReadAs, TablesAreRead, RowsAreRead}
use Rattle.sql_spelling.proofs.Columns.{columns_written, keys_written}
use Rattle.sql_spelling.proofs.Creating as creating
use Rattle.sql_spelling.proofs.Cutting.{lexed}
use Rattle.sql_spelling.proofs.Inserting as inserting
use Rattle.sql_spelling.proofs.Lengths.{create_short, insert_short, few_columns}
use Rattle.sql_spelling.proofs.Lists.{some_listed}
use Rattle.sql_spelling.proofs.Names.{name_written}
use Rattle.sql_spelling.proofs.Numbers.{InBigInt}
use Rattle.sql_spelling.proofs.Values.{IsWhole, AreWhole}
use Rattle.sql_spelling.proofs.Writing.{Writes, next, blank, opened, comma, closed, close, create, table, primary, key}

-- ---- from the rule to the answer

read_so : (sql : List ℕ) (d : Tree) (c : Command) → length sql ≤ 32767 → command_at (tokens sql) ≡ Ok (d, []) → plain.command d ≡ c → refusal_of 0 d ≡ None → markers_in (tokens sql) ≡ 0 → IsReadAs sql c
unfolding reading answer
read_so sql d c fits e same none marks = (ap (λ o. outcome_answer sql o) e ∙ rw (marks, none, same) refl, fits)

-- a text of a rule whose tokens are read as a statement
told : {R : List Lexeme → List Lexeme → Type 0} {sql : List ℕ} {c : Command} → Writes R sql → length sql ≤ 32767
    → ((ts : List Lexeme) → length ts ≤ longest → R ts [] → (d : Tree) × (command_at ts ≡ Ok (d, [])) × (plain.command d ≡ c) × (refusal_of 0 d ≡ None)) → IsReadAs sql c
unfolding tokens
told {R} {sql} {c} x fits reads =
    let P : List ℕ → Type 0 = λ z. R (lexed z) [] in
    let r = reads (lexed sql) (few_tokens sql fits) (subst P (append-nil sql) (x.reads [] refl)) in
    let marks : markers_in (lexed sql) ≡ 0 = ap (λ z. markers_in (lexed z)) (sym (append-nil sql)) ∙ x.marks [] refl in
    read_so sql r.0 c fits r.1 r.2 r.3 marks

-- ---- rows

small_in : (z : ℤ) → (int_le (negsuc 9223372036854775807) z && int_le z (pos 9223372036854775807)) ≡ true → InBigInt z
small_in (pos n) e = grind (arith, ints, nat_tests)
small_in (negsuc n) e = grind (arith, ints, nat_tests)

wider : (low high : ℕ) (z : ℤ) → low ≤ 2147483647 → high ≤ 2147483647 → (int_le (negsuc low) z && int_le z (pos high)) ≡ true → InBigInt z
wider low high (pos n) a b e = grind (arith, ints, nat_tests)
wider low high (negsuc n) a b e = grind (arith, ints, nat_tests)

pub value_whole : (nullable : Bool) (kind : Kind) (limit : ℕ) (name : List ℕ) (v : Value) → fits (record { name = name; kind = kind; is_nullable = nullable; limit = limit }) v ≡ true → AreBytes (value_bytes kind v) → IsWhole v
value_whole nullable kind limit name null fit bytes = tt
value_whole nullable SmallInt limit name (number z) fit bytes = wider 32767 32767 z (omega arith) (omega arith) (is_within _ _ (first_true _ _ fit))
value_whole nullable Integer limit name (number z) fit bytes = wider 2147483647 2147483647 z (omega arith) (omega arith) (is_within _ _ (first_true _ _ fit))
value_whole nullable BigInt limit name (number z) fit bytes = small_in z (is_within _ _ (first_true _ _ fit))
value_whole nullable VarChar limit name (number z) fit bytes = absurd cc
value_whole nullable VarBinary limit name (number z) fit bytes = absurd cc
value_whole nullable kind limit name (text z) fit bytes = tt
value_whole nullable VarBinary limit name (binary z) fit bytes = rest_are_bytes (0 ∷ big_bytes 2 (length z)) z bytes
value_whole nullable SmallInt limit name (binary z) fit bytes = absurd cc
value_whole nullable Integer limit name (binary z) fit bytes = absurd cc
value_whole nullable BigInt limit name (binary z) fit bytes = absurd cc
value_whole nullable VarChar limit name (binary z) fit bytes = absurd cc

pub all_whole : (cs : List Column) (vs : List Value) → all_fit cs vs ≡ true → AreBytes (row_bytes cs vs) → AreWhole vs
all_whole [] [] fit bytes = tt
all_whole [] (v ∷ vs) fit bytes = absurd cc
all_whole (c ∷ cs) [] fit bytes = tt
all_whole (c ∷ cs) (v ∷ vs) fit bytes = (
  value_whole c.is_nullable c.kind c.limit c.name v (first_true _ _ fit) (front_are_bytes (value_bytes c.kind v) (row_bytes cs vs) bytes),
  all_whole cs vs (second_true _ _ fit) (rest_are_bytes (value_bytes c.kind v) (row_bytes cs vs) bytes),
)

-- a key has a column at least
pub some_places : (schema : Schema) → is_schema schema ≡ true → 0 < length schema.key
some_places schema good = some (length schema.key) (first_true _ _ (first_true _ _ (first_true _ _ (second_true _ _ good))))
  where
    some : (n : ℕ) → nat_lt 0 n ≡ true → 0 < n
    some n e = grind (arith, nat_tests)

some_columns : (schema : Schema) → is_schema schema ≡ true → 0 < length schema.columns
some_columns schema good = by schema.columns schema.key (key_places schema good) (some_places schema good)
  where
    by : (cs : List Column) (ps : List ℕ) → are_places cs ps ≡ true → 0 < length ps → 0 < length cs
    by cs [] there more = absurd (omega arith)
    by [] (p ∷ ps) there more = absurd cc
    by (c ∷ cs) (p ∷ ps) there more = omega arith

pub rows_are_read : RowsAreRead
rows_are_read name schema row is free good bytes fits_ =
    let vs = values_in schema row in
    let w = row_written schema row bytes fits_ in
    let whole = all_whole schema.columns vs w.0 (subst AreBytes w.1 bytes) in
    let count : length vs ≡ length schema.columns = values_count schema.columns row vs (row_values_at schema row fits_) in
    let few = few_columns schema good in
    let some : 0 < length vs = omega (arith, some_columns schema good) in
    let size : length (row_bytes schema.columns vs) ≤ 4000 = subst (λ (z : List ℕ). length z ≤ 4000) w.1 (at_most (length row) (row_is schema row fits_).0) in
    told (inserting.insert_written name vs is free some whole) (insert_short name schema.columns vs (short_name name is) whole w.0 (omega arith) size)
    (λ ts few' r. inserting.is_inserted name vs ts few' r)
  where
    at_most : (n : ℕ) → nat_le n 4000 ≡ true → n ≤ 4000
    at_most n e = grind (arith, nat_tests)

-- ---- tables

free_at : (cs : List Column) (i : ℕ) (c : Column) → AreFree cs → slice_get cs i ≡ Some c → IsFree c.name
free_at [] i c free is = absurd cc
free_at (d ∷ ds) zero c (first, rest) is = let same : d ≡ c = cc in subst (λ (u : Column). IsFree u.name) same first
free_at (d ∷ ds) (suc i) c (first, rest) is = free_at ds i c rest is

free_one : (o : Option Column) (rest : List Column) → ((c : Column) → o ≡ Some c → IsFree c.name) → AreFree rest → AreFree (cons_option o rest)
free_one None rest first more = more
free_one (Some c) rest first more = (first c refl, more)

free_picked : (cs : List Column) (ps : List ℕ) → AreFree cs → AreFree (picked cs ps)
free_picked cs [] free = tt
free_picked cs (p ∷ ps) free = free_one (slice_get cs p) (picked cs ps) (λ c is. free_at cs p c free is) (free_picked cs ps free)

some_keys : (schema : Schema) → is_schema schema ≡ true → 0 < length (key_columns schema)
some_keys schema good = let n = key_count schema good in omega (arith, some_places schema good)

create_written : (name : List ℕ) (schema : Schema) → is_name name ≡ true → IsFree name → is_schema schema ≡ true → AreFree schema.columns → Writes (creating.Whole name schema) (create_text name schema)
unfolding create_text
create_written name schema is free good frees =
    let cs = schema.columns in
    let ks = key_columns schema in
    let good' = picked_all is_column cs schema.key (schema_columns schema good) in
    let columns = some_listed _ _ column_text cs (some_columns schema good) (columns_written cs (schema_columns schema good) frees) in
    let keys = some_listed _ _ (λ (c : Column). c.name) ks (some_keys schema good) (keys_written ks good' (free_picked cs schema.key frees)) in
    let end = codes "KEY (" ++ (separated (λ c. c.name) ks ++ codes "))") in
    let tail = codes ", PRIMARY " ++ end in
    next (codes "CREATE") (codes " TABLE " ++ (name ++ (codes " (" ++ (separated column_text cs ++ tail)))) create (λ rest e. refl)
    (blank (next (codes "TABLE") (codes " " ++ (name ++ (codes " (" ++ (separated column_text cs ++ tail)))) table (λ rest e. refl)
    (blank (next name (codes " (" ++ (separated column_text cs ++ tail)) (name_written name is free) (λ rest e. refl)
    (blank (opened (next (separated column_text cs) tail columns (λ rest e. refl)
    (comma (blank (next (codes "PRIMARY") (codes " " ++ end) primary (λ rest e. refl)
    (blank (next (codes "KEY") (codes " (" ++ (separated (λ c. c.name) ks ++ codes "))")) key (λ rest e. refl)
    (blank (opened (next (separated (λ c. c.name) ks) (codes "))") keys (λ rest e. refl) (closed close))))))))))))))))

pub tables_are_read : TablesAreRead
tables_are_read name schema is free good frees =
    told (create_written name schema is free good frees) (create_short name schema (short_name name is) good) (λ ts few r. creating.is_created name schema ts good few r)
