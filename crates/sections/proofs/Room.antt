-- How long blocks and descriptions are.
use Rattle.std.proofs.Common.{◌≡◌, ℕ, zero, suc, ◌+◌, ◌*◌, ◌≤◌, Bool, true, false, cond, leb, ltb, List, [], ◌∷◌, length, take, drop, Option, None, Some, refl, sym, ◌∙◌, arith, lit≤, length-append, nat_le, ◌&&◌, max}
use Rattle.std.specs.List.{cons_option, flat_map, list_all, slice_get}
use Rattle.std.specs.Prelude.{is_some}
use borrow.Author.Tests.{leb-true, leb-false}
use Rattle.tables.proofs.Projected.{rows_are_short}
use Rattle.ddm_objects.specs.Objects.{Plain, Extended4, Extended8, heading}
use Rattle.ddm_objects.specs.Writing.{form_for, spelled}
use Rattle.ddm_objects.specs.declared.code_point.TheConstants.{QRYDSC, QRYDTA}
use Rattle.fdoca.specs.Writing.{answer_closing, answer_descriptor, answer_fields, field_bytes, sent_value, sent_values}
use Rattle.row_values.specs.declared.column.Kind.{Kind}
use Rattle.row_values.specs.declared.column.Kind.TheVariants.{SmallInt, Integer, BigInt, VarChar, VarBinary}
use Rattle.row_values.specs.Column.{Column}
use Rattle.row_values.specs.Row.{content_bytes, is_row, row_bytes, value_bytes, values_in}
use Rattle.row_values.specs.Schema.{is_schema, picked}
use Rattle.row_values.specs.Value.{Value, null, number, text, binary}
use Rattle.sqlam_replies.proofs.Blocks.{slice_drop}
use Rattle.sqlam_replies.specs.Rows.{IsBlock, answered, qrydsc, qrydta, rows_text}
use Rattle.tables.specs.RowList.{RowList, is_list, is_selection}

-- ---- a row

content_short : (kind : Kind) (value : Value) → length (content_bytes kind value) ≤ length (value_bytes kind value)
content_short SmallInt null = omega arith
content_short Integer null = omega arith
content_short BigInt null = omega arith
content_short VarChar null = omega arith
content_short VarBinary null = omega arith
content_short kind (number n) = omega arith
content_short kind (text bytes) = omega arith
content_short kind (binary bytes) = omega arith

value_short : (is_nullable : Bool) (kind : Kind) (value : Value) → length (sent_value is_nullable kind value) ≤ length (value_bytes kind value)
value_short true kind value = omega arith
value_short false kind value = content_short kind value

sent_short : (columns : List Column) (values : List Value) → length (sent_values columns values) ≤ length (row_bytes columns values)
sent_short [] values = omega arith
sent_short (c ∷ cs) [] = omega arith
sent_short (c ∷ cs) (v ∷ vs) =
    let one = value_short c.is_nullable c.kind v in
    let rest = sent_short cs vs in
    let a = length-append (sent_value c.is_nullable c.kind v) (sent_values cs vs) in
    let b = length-append (value_bytes c.kind v) (row_bytes cs vs) in
    omega (arith, one, rest, a, b)

row_short : (l : RowList) (i : ℕ) (row : List ℕ) → is_schema l.schema ≡ true → is_list l ≡ true → slice_get l.rows i ≡ Some row → length (answered l row) ≤ 128194
row_short l i row good listed at =
    let sent = sent_short (picked l.schema.columns l.selected) (picked (values_in l.schema row) l.selected) in
    let most = rows_are_short l i row good listed at in
    omega (arith, sent, most)

one_short : (l : RowList) (rows : List (List ℕ)) (n : ℕ) → n ≤ 1 → ((row : List ℕ) → slice_get rows 0 ≡ Some row → length (answered l row) ≤ 128194) → length (flat_map (answered l) (take n rows)) ≤ 128194
one_short l rows zero few short = omega arith
one_short l [] (suc n) few short = omega arith
one_short l (row ∷ rows) (suc zero) few short = let sum = length-append (answered l row) [] in let one = short row refl in omega (arith, sum, one)
one_short l (row ∷ rows) (suc (suc n)) few short = absurd (omega (arith, few))

-- ---- an object

heading_most : (code size : ℕ) (b c : Bool) → length (heading (cond b Plain (cond c Extended4 Extended8)) code size) ≤ 12
heading_most code size true c = lit≤ tt
heading_most code size false true = lit≤ tt
heading_most code size false false = lit≤ tt

spelled_most : (code : ℕ) (value : List ℕ) → length (spelled code value) ≤ length value + 12
unfolding spelled
spelled_most code value =
    omega (arith, length-append (heading (form_for (length value)) code (length value)) value, heading_most code (length value) (leb (length value) 32763) (ltb (length value) 0x1_0000_0000))

-- ---- a block

text_short : (l : RowList) (place size n : ℕ) → is_schema l.schema ≡ true → is_list l ≡ true → IsBlock l place size n → length (rows_text l place n) ≤ max size 128194
text_short l place size n good listed block = by (leb n 1) refl
  where
    by : (b : Bool) → leb n 1 ≡ b → length (rows_text l place n) ≤ max size 128194
    by true is =
        let one = one_short l (drop place l.rows) n (leb-true n 1 is) (λ row at. row_short l (place + 0) row good listed (sym (slice_drop l.rows place 0) ∙ at)) in
        omega (arith, one)
    by false is = let fit = block.fits (leb-false n 1 is) in omega (arith, fit)

pub blocks_short : (l : RowList) (place size n : ℕ) → is_schema l.schema ≡ true → is_list l ≡ true → IsBlock l place size n → length (qrydta l place n) ≤ max size 128194 + 12
blocks_short l place size n good listed block =
    let rows = text_short l place size n good listed block in
    let whole = spelled_most QRYDTA (rows_text l place n) in
    omega (arith, rows, whole)

-- ---- a description

count_step : {X : Type 0} (o : Option X) (rest : List X) (n : ℕ) → length rest ≤ n → length (cons_option o rest) ≤ suc n
count_step None rest n h = omega (arith, h)
count_step (Some c) rest n h = omega (arith, h)

picked_count : {X : Type 0} (xs : List X) (places : List ℕ) → length (picked xs places) ≤ length places
picked_count xs [] = omega arith
picked_count xs (p ∷ places) = count_step (slice_get xs p) (picked xs places) (length places) (picked_count xs places)

fields_length : (columns : List Column) → length (flat_map field_bytes columns) ≡ 3 * length columns
fields_length [] = refl
fields_length (c ∷ cs) = let rest = fields_length cs in let sum = length-append (field_bytes c) (flat_map field_bytes cs) in omega (arith, rest, sum)

both_first : (a b : Bool) → (a && b) ≡ true → a ≡ true
both_first true b h = refl
both_first false b h = absurd cc

pub descriptions_short : (l : RowList) → is_list l ≡ true → length (qrydsc l) ≤ 222
descriptions_short l listed =
    let columns = picked l.schema.columns l.selected in
    let selection = both_first (is_selection l.schema l.selected) (list_all (is_row l.schema) l.rows) listed in
    let told = both_first (nat_le (length l.selected) 64) (list_all (λ place. is_some (slice_get l.schema.columns place)) l.selected) selection in
    let few : length l.selected ≤ 64 = leb-true (length l.selected) 64 told in
    let count = picked_count l.schema.columns l.selected in
    let fields = fields_length columns in
    let sum = length-append (answer_fields columns) answer_closing in
    let whole = spelled_most QRYDSC (answer_descriptor columns) in
    omega (arith, few, count, fields, sum, whole)
