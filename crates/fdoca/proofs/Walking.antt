-- A row is walked column by column, and some of its values are sent.
use Rattle.std.proofs.Common.{◌≡◌, ℕ, zero, suc, ◌+◌, ◌<◌, ◌≤◌, List, [], ◌∷◌, ◌++◌, true, refl, sym, ap, ◌∙◌, map, length, take, drop, get_or, Some, option_map, arith, add-one, ◌*◌, append_assoc, length-append, nat_lt}
use Rattle.std.specs.List.{cons_option, filter_map, flat_map, list_all, slice_get}
use Rattle.std.proofs.Math.Seq.{take-append_seam}
use Rattle.std.proofs.lemmas.List.{length-map, take-append-le}
use Rattle.std.proofs.lemmas.Bool.{ltb-true}
use Rattle.std.specs.Prelude.{Result, Ok, Err, OnErr, vec_len, vec_capacity}
use Rattle.std.specs.Global.{Vec}
use Rattle.std.proofs.lemmas.Option.{slice_get-map, slice_get_read}
use Rattle.row_values.specs.declared.column.Column.{Column as CodeColumn}
use Rattle.row_values.specs.Value.{Value}
use Rattle.row_values.specs.Column.{Column, column_of, fits}
use Rattle.row_values.specs.Schema.{picked}
use Rattle.row_values.specs.Row.{all_fit, row_bytes, value_bytes}
use Rattle.fdoca.specs.Writing.{answer_closing, answer_descriptor, answer_fields, field_bytes, sent_value, sent_values}
use Rattle.fdoca.proofs.Sizes.{first_true, second_true}
use Rattle.fdoca.proofs.Steps.{drop_at}

pub column_at : (columns : List CodeColumn) (i : ℕ) (column : CodeColumn) → i < length columns → column ≡ get_or columns i column → slice_get (map column_of columns) i ≡ Some (column_of column)
column_at columns i column lt is = slice_get-map column_of columns i ∙ ap (option_map column_of) (slice_get_read columns (length columns) i column refl lt is)

-- what is at a place of a row of values that fit
record IsAt (columns : List Column) (values : List Value) (i : ℕ) (column : Column) : Type 0 where
  pub value : Value
  pub here : slice_get values i ≡ Some value
  pub fit : fits column value ≡ true
  pub bytes : row_bytes (drop i columns) (drop i values) ≡ value_bytes column.kind value ++ row_bytes (drop (suc i) columns) (drop (suc i) values)

at_place : (columns : List Column) (values : List Value) (i : ℕ) (column : Column) → all_fit columns values ≡ true → slice_get columns i ≡ Some column → IsAt columns values i column
at_place [] values i column fit p = absurd cc
at_place (c ∷ cs) [] i column fit p = absurd cc
at_place (c ∷ cs) (v ∷ vs) zero column fit p =
    let one : c ≡ column = cc in
    record { value = v; here = refl; fit = ap (λ (x : Column). fits x v) (sym one) ∙ first_true _ _ fit; bytes = ap (λ (x : Column). value_bytes x.kind v ++ row_bytes cs vs) one }
at_place (c ∷ cs) (v ∷ vs) (suc i) column fit p =
    let r = at_place cs vs i column (second_true _ _ fit) p in
    record { value = r.value; here = r.here; fit = r.fit; bytes = r.bytes }

-- one value is cut off the values from place i on
pub record Cuts (columns : List Column) (values : List Value) (i : ℕ) (column : Column) (front back : List ℕ) : Type 0 where
  pub value : Value
  pub here : slice_get values i ≡ Some value
  pub fit : fits column value ≡ true
  pub front_is : front ≡ value_bytes column.kind value
  pub back_is : back ≡ row_bytes (drop (i + 1) columns) (drop (i + 1) values)

pub cuts : (columns : List Column) (values : List Value) (i : ℕ) (column : Column) (bytes front back : List ℕ) → all_fit columns values ≡ true → slice_get columns i ≡ Some column → bytes ≡ row_bytes (drop i columns) (drop i values)
    → ((value : Value) (rest : List ℕ) → fits column value ≡ true → bytes ≡ value_bytes column.kind value ++ rest → (front ≡ value_bytes column.kind value) × (back ≡ rest))
    → Cuts columns values i column front back
cuts columns values i column bytes front back fit p is split =
    let r = at_place columns values i column fit p in
    let both = split r.value (row_bytes (drop (suc i) columns) (drop (suc i) values)) r.fit (is ∙ r.bytes) in
    record {
      value = r.value;
      here = r.here;
      fit = r.fit;
      front_is = both.0;
      back_is = both.1 ∙ ap (λ (n : ℕ). row_bytes (drop n columns) (drop n values)) (sym (add-one i));
    }

-- ---- the places

pub place_within : (n : ℕ) (places : List ℕ) (i place : ℕ) → list_all (λ p. nat_lt p n) places ≡ true → slice_get places i ≡ Some place → place < n
place_within n [] i place all p = absurd cc
place_within n (q ∷ places) zero place all p = let same : q ≡ place = cc in ltb-true place n (ap (λ (k : ℕ). nat_lt k n) (sym same) ∙ first_true _ _ all)
place_within n (q ∷ places) (suc i) place all p = place_within n places i place (second_true _ _ all) p

picked_at : {X : Type 0} (xs : List X) (places : List ℕ) (i place : ℕ) (x : X) → slice_get places i ≡ Some place → slice_get xs place ≡ Some x → picked xs (drop i places) ≡ x ∷ picked xs (drop (i + 1) places)
picked_at xs places i place x p q =
    ap (filter_map (slice_get xs)) (drop_at places i place p) ∙ ap (λ o. cons_option o (filter_map (slice_get xs) (drop (i + 1) places))) q

both : {column : Column} {value : Value} {cs ds : List Column} {vs ws : List Value} → ds ≡ column ∷ cs → ws ≡ value ∷ vs → sent_values ds ws ≡ sent_value column.is_nullable column.kind value ++ sent_values cs vs
both {column} {value} {cs} {ds} {vs} {ws} p q = ap (λ (l : List Column). sent_values l ws) p ∙ ap (λ (l : List Value). sent_values (column ∷ cs) l) q

-- the next value is sent
pub sent_step : (columns : List Column) (values : List Value) (places : List ℕ) (i place : ℕ) (column : Column) (value : Value) (out now sent : List ℕ) (whole : List ℕ)
    → slice_get places i ≡ Some place → slice_get columns place ≡ Some column → slice_get values place ≡ Some value → sent ≡ sent_value column.is_nullable column.kind value → now ≡ out ++ sent
    → out ++ sent_values (picked columns (drop i places)) (picked values (drop i places)) ≡ whole
    → now ++ sent_values (picked columns (drop (i + 1) places)) (picked values (drop (i + 1) places)) ≡ whole
sent_step columns values places i place column value out now sent whole p q r sent_is now_is h =
    let cs = picked columns (drop (i + 1) places) in
    let vs = picked values (drop (i + 1) places) in
    ap (λ (l : List ℕ). l ++ sent_values cs vs) (now_is ∙ ap (λ (l : List ℕ). out ++ l) sent_is)
    ∙ append_assoc out (sent_value column.is_nullable column.kind value) (sent_values cs vs)
    ∙ ap (λ (l : List ℕ). out ++ l) (sym (both (picked_at columns places i place column p q) (picked_at values places i place value p r)))
    ∙ h

-- ---- what is appended

pub kept_first : (old now more : List ℕ) → now ≡ old ++ more → take (length old) now ≡ old
kept_first old now more is = ap (take (length old)) is ∙ take-append_seam old more

pub longer_first : (old now more : List ℕ) → now ≡ old ++ more → length old ≤ length now
longer_first old now more is = let sum = ap length is ∙ length-append old more in omega (arith, sum)

pub kept_step : (old out now more : List ℕ) → take (length old) out ≡ old → length old ≤ length out → now ≡ out ++ more → take (length old) now ≡ old
kept_step old out now more kept le is = ap (take (length old)) is ∙ take-append-le (length old) out more le ∙ kept

pub longer_step : (old out now more : List ℕ) → length old ≤ length out → now ≡ out ++ more → length old ≤ length now
longer_step old out now more le is = let sum = ap length is ∙ length-append out more in omega (arith, sum, le)

-- ---- the room

-- a part that does not fit is too long for the whole, of which it is the next part
pub short_err : (old now : Vec ℕ) (n : ℕ) (rest whole : List ℕ) → now.items ++ rest ≡ old.items ++ whole → n ≤ length rest → vec_capacity old ≤ vec_capacity now
    → vec_capacity now < vec_len now + n → vec_capacity old < vec_len old + length whole
short_err old now n rest whole is le more less =
    let sum = sym (length-append now.items rest) ∙ ap length is ∙ length-append old.items whole in
    let a = old.ok.0 in
    let b = now.ok.0 in
    omega (arith, sum, le, more, less, a, b)

pub on_err : {X E A : Type 0} (r : Result X E) → A → OnErr r A
on_err (Ok x) a = tt
on_err (Err e) a = a

pub short : {X E : Type 0} (r : Result X E) (old now : Vec ℕ) (n : ℕ) (rest whole : List ℕ) → now.items ++ rest ≡ old.items ++ whole → n ≤ length rest → vec_capacity old ≤ vec_capacity now
    → OnErr r (vec_capacity now < vec_len now + n) → OnErr r (vec_capacity old < vec_len old + length whole)
short (Ok x) old now n rest whole is le more less = tt
short (Err e) old now n rest whole is le more less = short_err old now n rest whole is le more less

pub sent_room : (columns : List Column) (values : List Value) (places : List ℕ) (i place : ℕ) (column : Column) (value : Value) (sent : List ℕ)
    → slice_get places i ≡ Some place → slice_get columns place ≡ Some column → slice_get values place ≡ Some value → sent ≡ sent_value column.is_nullable column.kind value
    → length sent ≤ length (sent_values (picked columns (drop i places)) (picked values (drop i places)))
sent_room columns values places i place column value sent p q r sent_is =
    let rest = sent_values (picked columns (drop (i + 1) places)) (picked values (drop (i + 1) places)) in
    let whole = ap length (both (picked_at columns places i place column p q) (picked_at values places i place value p r)) in
    let same = ap length sent_is in
    let sum = length-append (sent_value column.is_nullable column.kind value) rest in
    omega (arith, whole, same, sum)

-- the next value is counted
pub counted_step : (columns : List Column) (values : List Value) (places : List ℕ) (i place : ℕ) (column : Column) (value : Value) (count : ℕ) (sent : List ℕ) (whole : ℕ)
    → slice_get places i ≡ Some place → slice_get columns place ≡ Some column → slice_get values place ≡ Some value → sent ≡ sent_value column.is_nullable column.kind value
    → count + length (sent_values (picked columns (drop i places)) (picked values (drop i places))) ≡ whole
    → count + length sent + length (sent_values (picked columns (drop (i + 1) places)) (picked values (drop (i + 1) places))) ≡ whole
counted_step columns values places i place column value count sent whole p q r sent_is h =
    let rest = sent_values (picked columns (drop (i + 1) places)) (picked values (drop (i + 1) places)) in
    let next = ap length (both (picked_at columns places i place column p q) (picked_at values places i place value p r)) in
    let same = ap length sent_is in
    let sum = length-append (sent_value column.is_nullable column.kind value) rest in
    omega (arith, next, same, sum, h)

pub described_room : (columns : List Column) (places : List ℕ) (i place : ℕ) (column : Column) (field : List ℕ) → slice_get places i ≡ Some place → slice_get columns place ≡ Some column
    → field ≡ field_bytes column → length field ≤ length (flat_map field_bytes (picked columns (drop i places)) ++ answer_closing)
described_room columns places i place column field p q field_is =
    let rest = picked columns (drop (i + 1) places) in
    let whole = ap (λ (cs : List Column). length (flat_map field_bytes cs ++ answer_closing)) (picked_at columns places i place column p q) in
    let same = ap length field_is in
    let sum = length-append (field_bytes column ++ flat_map field_bytes rest) answer_closing in
    let more = length-append (field_bytes column) (flat_map field_bytes rest) in
    omega (arith, whole, same, sum, more)

pub closing_room : (fields : List ℕ) → length answer_closing ≤ length (fields ++ answer_closing)
closing_room fields = let sum = length-append fields answer_closing in omega (arith, sum)

pub opening_room : (columns : List Column) → 3 ≤ length (answer_descriptor columns)
opening_room columns = let sum = length-append (answer_fields columns) answer_closing in omega (arith, sum)

-- ---- the description

in_list : {X : Type 0} (xs : List X) (i : ℕ) → i < length xs → (x : X) × (slice_get xs i ≡ Some x)
in_list [] i lt = absurd (omega (arith, lt))
in_list (x ∷ xs) zero lt = (x, refl)
in_list (x ∷ xs) (suc i) lt = in_list xs i (omega (arith, lt))

picked_length : {X : Type 0} (xs : List X) (places : List ℕ) → list_all (λ p. nat_lt p (length xs)) places ≡ true → length (picked xs places) ≡ length places
picked_length xs [] all = refl
picked_length xs (p ∷ places) all =
    let there = in_list xs p (ltb-true p (length xs) (first_true _ _ all)) in
    ap (λ o. length (cons_option o (picked xs places))) there.1 ∙ ap suc (picked_length xs places (second_true _ _ all))

pub described_first : (columns : List CodeColumn) (places old now : List ℕ) → list_all (λ p. nat_lt p (length columns)) places ≡ true → now ≡ old ++ ((3 + 3 * length places) ∷ 0x76 ∷ 0xD0 ∷ [])
    → now ++ (flat_map field_bytes (picked (map column_of columns) places) ++ answer_closing) ≡ old ++ answer_descriptor (picked (map column_of columns) places)
described_first columns places old now all is =
    let shown = map column_of columns in
    let within : list_all (λ p. nat_lt p (length shown)) places ≡ true = ap (λ (n : ℕ). list_all (λ p. nat_lt p n) places) (length-map columns column_of) ∙ all in
    let count : length places ≡ length (picked shown places) = sym (picked_length shown places within) in
    let body = flat_map field_bytes (picked shown places) ++ answer_closing in
    ap (λ (l : List ℕ). l ++ body) is
    ∙ append_assoc old ((3 + 3 * length places) ∷ 0x76 ∷ 0xD0 ∷ []) body
    ∙ ap (λ (n : ℕ). old ++ ((3 + 3 * n) ∷ 0x76 ∷ 0xD0 ∷ body)) count

pub described_step : (columns : List Column) (places : List ℕ) (i place : ℕ) (column : Column) (out now field whole : List ℕ) → slice_get places i ≡ Some place → slice_get columns place ≡ Some column
    → field ≡ field_bytes column → now ≡ out ++ field
    → out ++ (flat_map field_bytes (picked columns (drop i places)) ++ answer_closing) ≡ whole
    → now ++ (flat_map field_bytes (picked columns (drop (i + 1) places)) ++ answer_closing) ≡ whole
described_step columns places i place column out now field whole p q field_is now_is h =
    let rest = picked columns (drop (i + 1) places) in
    ap (λ (l : List ℕ). l ++ (flat_map field_bytes rest ++ answer_closing)) (now_is ∙ ap (λ (l : List ℕ). out ++ l) field_is)
    ∙ append_assoc out (field_bytes column) (flat_map field_bytes rest ++ answer_closing)
    ∙ ap (λ (cs : List Column). out ++ (flat_map field_bytes cs ++ answer_closing)) (sym (picked_at columns places i place column p q))
    ∙ h

-- ---- places of a schema
