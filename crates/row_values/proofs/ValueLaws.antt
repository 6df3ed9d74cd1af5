-- The bytes of a value that fits its column are read back, and what is read was written so.
use Rattle.std.proofs.Common.{◌≡◌, ℕ, ◌+◌, ◌^◌, ◌<◌, ◌≤◌, ℤ, suc, List, [], ◌∷◌, ◌++◌, Bool, true, false, ◌&&◌, if◌then◌else◌, refl, sym, ap, subst, ◌∙◌, length, take, drop, nat_le, nat_lt, length-take, arith, Option, Some, None, option_map, append_assoc, FitsSigned, ◌==◌, eqb-true, ltb-true}
use Rattle.std.specs.Prelude.{is_none, slice_index}
use Rattle.std.specs.Option.{option_and_then}
use Rattle.std.proofs.lemmas.Bool.Decides.{nat_tests}
use Rattle.std.proofs.lemmas.Int.{of_z-to_z}
use Rattle.std.proofs.Math.Facts.{Fits-of_z}
use mir.Val.{bits}
use Rattle.std.specs.Int.{Width, w16, w32, w64, cast_signed, cast_unsigned, from_be_bytes}
use Rattle.std.specs.Str.{is_utf8}
use Rattle.std.proofs.lemmas.Nat.{be_bytes_2, be_bytes_4, be_bytes_8}
use Rattle.byteorder.specs.Endian.{big_bytes, big_number}
use Rattle.byteorder.specs.Numbers.{big_from-lt}
use Rattle.std.proofs.lemmas.List.{get_or-drop, get_or-take, get_or_past, length-take-le, take-append-drop}
use Rattle.row_values.specs.declared.column.Kind.{Kind}
use Rattle.row_values.specs.declared.column.Kind.TheVariants.{SmallInt, Integer, BigInt, VarChar, VarBinary}
use Rattle.row_values.specs.Value.{Value, null, number, text, binary, is_value}
use Rattle.row_values.specs.Column.{Column, misfit_in, fits, within}
use Rattle.row_values.specs.declared.column.Misfit.{Misfit}
use Rattle.row_values.specs.Row.{content_at, content_bytes, counted, counted_at, typed_value_at, front_of, number_at, utf8_in, value_at, value_bytes, all_fit, row_bytes, values_at}
use Rattle.std.specs.List.{list_all}
use Rattle.drda_words.specs.Bytes.{AreBytes}
use Rattle.row_values.proofs.RowLaws.{counted_back, fits_two, fits_four, fits_eight, number_back}

-- ---- what is written is read back

pub is_within : (b : Bool) (m : Misfit) → is_none (within b m) ≡ true → b ≡ true
is_within true m h = refl
is_within false m h = absurd cc

pub first_true : (a b : Bool) → (a && b) ≡ true → a ≡ true
first_true true b h = refl
first_true false b h = absurd cc

pub second_true : (a b : Bool) → (a && b) ≡ true → b ≡ true
second_true true b h = h
second_true false b h = absurd cc

pub both_true : (a b : Bool) → a ≡ true → b ≡ true → (a && b) ≡ true
both_true a b p q = rw (p, q) refl

short : (n limit : ℕ) → nat_le n limit ≡ true → limit < 65536 → n < 65536
short n limit h lt = grind (arith, nat_tests)

fits_unsigned : (w : Width) (z : ℤ) → FitsSigned w z → cast_unsigned w z < 2 ^ bits w
fits_unsigned w z s = (Fits-of_z {w = w} {z = z} s).fits

utf8_is : (bytes : List ℕ) → is_utf8 bytes ≡ true → utf8_in bytes ≡ Some bytes
utf8_is bytes h = rw h refl

pub content_back : (kind : Kind) (limit : ℕ) (value : Value) (rest : List ℕ) → limit < 65536 → is_none (misfit_in kind limit value) ≡ true → is_value value ≡ true → content_at kind (content_bytes kind value ++ rest) ≡ Some (value, rest)
content_back SmallInt limit (number z) rest lt fit whole = let s = fits_two z (is_within _ _ fit) in number_back 2 w16 z rest (fits_unsigned w16 z s) s
content_back Integer limit (number z) rest lt fit whole = let s = fits_four z (is_within _ _ fit) in number_back 4 w32 z rest (fits_unsigned w32 z s) s
content_back BigInt limit (number z) rest lt fit whole = let s = fits_eight z (is_within _ _ fit) in number_back 8 w64 z rest (fits_unsigned w64 z s) s
content_back VarChar limit (text bytes) rest lt fit whole =
    ap (option_and_then (λ (x : List ℕ × List ℕ). option_map (λ content. (text content, x.1)) (utf8_in x.0))) (counted_back bytes rest (short _ limit (is_within _ _ fit) lt))
    ∙ ap (option_map (λ content. (text content, rest))) (utf8_is bytes whole)
content_back VarBinary limit (binary bytes) rest lt fit whole =
    ap (option_map (λ (x : List ℕ × List ℕ). (binary x.0, x.1))) (counted_back bytes rest (short _ limit (is_within _ _ fit) lt))
content_back SmallInt limit null rest lt fit whole = absurd cc
content_back SmallInt limit (text bytes) rest lt fit whole = absurd cc
content_back SmallInt limit (binary bytes) rest lt fit whole = absurd cc
content_back Integer limit null rest lt fit whole = absurd cc
content_back Integer limit (text bytes) rest lt fit whole = absurd cc
content_back Integer limit (binary bytes) rest lt fit whole = absurd cc
content_back BigInt limit null rest lt fit whole = absurd cc
content_back BigInt limit (text bytes) rest lt fit whole = absurd cc
content_back BigInt limit (binary bytes) rest lt fit whole = absurd cc
content_back VarChar limit null rest lt fit whole = absurd cc
content_back VarChar limit (number z) rest lt fit whole = absurd cc
content_back VarChar limit (binary bytes) rest lt fit whole = absurd cc
content_back VarBinary limit null rest lt fit whole = absurd cc
content_back VarBinary limit (number z) rest lt fit whole = absurd cc
content_back VarBinary limit (text bytes) rest lt fit whole = absurd cc

value_back : (nullable : Bool) (kind : Kind) (limit : ℕ) (name : List ℕ) (value : Value) (rest : List ℕ) → limit < 65536
    → fits (record { name = name; kind = kind; is_nullable = nullable; limit = limit }) value ≡ true → typed_value_at kind (value_bytes kind value ++ rest) ≡ Some (value, rest)
value_back nullable kind limit name null rest lt fit = refl
value_back nullable kind limit name (number z) rest lt fit = content_back kind limit (number z) rest lt (first_true _ _ fit) (second_true _ _ fit)
value_back nullable kind limit name (text bytes) rest lt fit = content_back kind limit (text bytes) rest lt (first_true _ _ fit) (second_true _ _ fit)
value_back nullable kind limit name (binary bytes) rest lt fit = content_back kind limit (binary bytes) rest lt (first_true _ _ fit) (second_true _ _ fit)

chosen : (b : Bool) (x : Value × List ℕ) → b ≡ true → (if b then Some x else None) ≡ Some x
chosen b x e = rw e refl

-- a value that fits its column is read back
pub value_at-value_bytes : (column : Column) (value : Value) (rest : List ℕ) → column.limit < 65536 → fits column value ≡ true → value_at column (value_bytes column.kind value ++ rest) ≡ Some (value, rest)
unfolding value_at
value_at-value_bytes column value rest lt fit =
    ap (option_and_then (λ (x : Value × List ℕ). if fits column x.0 then Some x else None)) (value_back column.is_nullable column.kind column.limit column.name value rest lt fit)
    ∙ chosen (fits column value) (value, rest) fit

-- ---- what is read was written so

pub kept : (b : Bool) (x y : Value × List ℕ) → (if b then Some x else None) ≡ Some y → (b ≡ true) × (x ≡ y)
kept true x y h = (refl, cc)
kept false x y h = absurd cc

-- what front_of says of what it finds
pub record IsFront (n : ℕ) (bytes : List ℕ) (x : List ℕ × List ℕ) : Type 0 where
  pub len : length x.0 ≡ n
  pub whole : bytes ≡ x.0 ++ x.1
  pub front : AreBytes bytes → AreBytes x.0
  pub rest : AreBytes bytes → AreBytes x.1

in_front : (n : ℕ) (bytes : List ℕ) (i : ℕ) → AreBytes bytes → (b : Bool) → nat_lt i n ≡ b → slice_index (take n bytes) i < 256
in_front n bytes i all true is = let lt : i < n = grind (arith, nat_tests) in rw (get_or-take n bytes i 0 lt) (all i)
in_front n bytes i all false is =
    let past : n ≤ i = grind (arith, nat_tests) in
    let end : length (take n bytes) ≤ i = omega (arith, length-take n bytes) in
    rw (get_or_past (take n bytes) i 0 end) (omega arith)

is_front : (n : ℕ) (bytes : List ℕ) → n ≤ length bytes → IsFront n bytes (take n bytes, drop n bytes)
is_front n bytes le = record {
  len = length-take-le n bytes le;
  whole = sym (take-append-drop n bytes);
  front = λ all i. in_front n bytes i all (nat_lt i n) refl;
  rest = λ all i. rw (get_or-drop n bytes i 0) (all (n + i));
}

front_cases : (b : Bool) (n : ℕ) (bytes : List ℕ) (x : List ℕ × List ℕ) → nat_le n (length bytes) ≡ b → (if b then Some (take n bytes, drop n bytes) else None) ≡ Some x → IsFront n bytes x
front_cases true n bytes x is h =
    let le : n ≤ length bytes = grind (arith, nat_tests) in
    let same : (take n bytes, drop n bytes) ≡ x = cc in
    subst (IsFront n bytes) same (is_front n bytes le)
front_cases false n bytes x is h = absurd cc

pub front_is : (n : ℕ) (bytes : List ℕ) (x : List ℕ × List ℕ) → front_of n bytes ≡ Some x → IsFront n bytes x
unfolding front_of
front_is n bytes x h = front_cases (nat_le n (length bytes)) n bytes x refl h

-- a step that gave something had something to go on
pub mapped : {A B : Type 0} (f : A → B) (o : Option A) (y : B) → option_map f o ≡ Some y → (x : A) × (o ≡ Some x) × (f x ≡ y)
mapped f (Some x) y h = (x, refl, cc)
mapped f None y h = absurd cc

pub chained : {A B : Type 0} (f : A → Option B) (o : Option A) (y : B) → option_and_then f o ≡ Some y → (x : A) × (o ≡ Some x) × (f x ≡ Some y)
chained f (Some x) y h = (x, refl, h)
chained f None y h = absurd cc

-- bytes are those of their number
abbrev pub IsWritten : ℕ → Type 0
IsWritten n = (xs : List ℕ) → length xs ≡ n → AreBytes xs → big_bytes n (big_number n xs) ≡ xs

pub two_written : IsWritten 2
two_written xs len all = let same : big_number 2 xs ≡ from_be_bytes w16 xs = omega arith in be_bytes_2 xs (big_number 2 xs) len all same

four_written : IsWritten 4
four_written xs len all = let same : big_number 4 xs ≡ from_be_bytes w32 xs = omega arith in be_bytes_4 xs (big_number 4 xs) len all same

eight_written : IsWritten 8
eight_written xs len all = let same : big_number 8 xs ≡ from_be_bytes w64 xs = omega arith in be_bytes_8 xs (big_number 8 xs) len all same

-- a value, not NULL, stands in front of the bytes
record IsContent (kind : Kind) (bytes : List ℕ) (x : Value × List ℕ) : Type 0 where
  whole : bytes ≡ content_bytes kind x.0 ++ x.1
  marked : value_bytes kind x.0 ≡ 0 ∷ content_bytes kind x.0
  rest : AreBytes x.1

number_is : (n : ℕ) (w : Width) (bytes : List ℕ) (x : Value × List ℕ) → 256 ^ n ≡ 2 ^ bits w → IsWritten n → AreBytes bytes → number_at n w bytes ≡ Some x
    → (z : ℤ) × (x.0 ≡ number z) × (bytes ≡ big_bytes n (cast_unsigned w z) ++ x.1) × AreBytes x.1
number_is n w bytes x size written all h =
    let m = mapped (λ (f : List ℕ × List ℕ). (number (cast_signed w (big_number n f.0)), f.1)) (front_of n bytes) x h in
    let f = front_is n bytes m.0 m.1 in
    let below = subst (λ (k : ℕ). big_number n m.0.0 < k) size (big_from-lt 0 n m.0.0 (f.front all)) in
    let same : cast_unsigned w (cast_signed w (big_number n m.0.0)) ≡ big_number n m.0.0 = of_z-to_z w (big_number n m.0.0) below in
    let front : big_bytes n (cast_unsigned w (cast_signed w (big_number n m.0.0))) ≡ m.0.0 = ap (big_bytes n) same ∙ written m.0.0 f.len (f.front all) in
    let left : m.0.1 ≡ x.1 = ap (λ (p : Value × List ℕ). p.1) m.2 in
    (cast_signed w (big_number n m.0.0), sym (ap (λ (p : Value × List ℕ). p.0) m.2), f.whole ∙ ap (λ (xs : List ℕ). xs ++ m.0.1) (sym front) ∙ ap (λ (ys : List ℕ). big_bytes n (cast_unsigned w (cast_signed w (big_number n m.0.0))) ++ ys) left, subst AreBytes left (f.rest all))

pub counted_is : (bytes : List ℕ) (x : List ℕ × List ℕ) → AreBytes bytes → counted_at bytes ≡ Some x → (bytes ≡ counted x.0 ++ x.1) × AreBytes x.1
counted_is bytes x all h =
    let m = chained (λ (f : List ℕ × List ℕ). front_of (big_number 2 f.0) f.1) (front_of 2 bytes) x h in
    let f = front_is 2 bytes m.0 m.1 in
    let g = front_is (big_number 2 m.0.0) m.0.1 x m.2 in
    let count : big_bytes 2 (length x.0) ≡ m.0.0 = ap (big_bytes 2) g.len ∙ two_written m.0.0 f.len (f.front all) in
    (f.whole ∙ ap (λ (xs : List ℕ). xs ++ m.0.1) (sym count) ∙ ap (λ (ys : List ℕ). big_bytes 2 (length x.0) ++ ys) g.whole ∙ sym (append_assoc (big_bytes 2 (length x.0)) x.0 x.1), g.rest (f.rest all))

content_from : (kind : Kind) (bytes : List ℕ) (x : Value × List ℕ) (value : Value) → x.0 ≡ value → bytes ≡ content_bytes kind value ++ x.1 → value_bytes kind value ≡ 0 ∷ content_bytes kind value → AreBytes x.1 → IsContent kind bytes x
content_from kind bytes x value is whole marked rest = record {
  whole = whole ∙ ap (λ (v : Value). content_bytes kind v ++ x.1) (sym is);
  marked = subst (λ (v : Value). value_bytes kind v ≡ 0 ∷ content_bytes kind v) (sym is) marked;
  rest = rest;
}

utf8_same : (b : Bool) (bytes content : List ℕ) → (if b then Some bytes else None) ≡ Some content → bytes ≡ content
utf8_same true bytes content h = cc
utf8_same false bytes content h = absurd cc

content_is : (kind : Kind) (bytes : List ℕ) (x : Value × List ℕ) → AreBytes bytes → content_at kind bytes ≡ Some x → IsContent kind bytes x
content_is SmallInt bytes x all h = let r = number_is 2 w16 bytes x refl two_written all h in content_from SmallInt bytes x (number r.0) r.1 r.2 refl r.3
content_is Integer bytes x all h = let r = number_is 4 w32 bytes x refl four_written all h in content_from Integer bytes x (number r.0) r.1 r.2 refl r.3
content_is BigInt bytes x all h = let r = number_is 8 w64 bytes x refl eight_written all h in content_from BigInt bytes x (number r.0) r.1 r.2 refl r.3
content_is VarChar bytes x all h =
    let m = chained (λ (y : List ℕ × List ℕ). option_map (λ content. (text content, y.1)) (utf8_in y.0)) (counted_at bytes) x h in
    let t = mapped (λ (content : List ℕ). (text content, m.0.1)) (utf8_in m.0.0) x m.2 in
    let r = counted_is bytes m.0 all m.1 in
    let content : m.0.0 ≡ t.0 = utf8_same (is_utf8 m.0.0) m.0.0 t.0 t.1 in
    let left : m.0.1 ≡ x.1 = ap (λ (p : Value × List ℕ). p.1) t.2 in
    content_from VarChar bytes x (text t.0) (sym (ap (λ (p : Value × List ℕ). p.0) t.2)) (r.0 ∙ ap (λ (c : List ℕ). counted c ++ m.0.1) content ∙ ap (λ (ys : List ℕ). counted t.0 ++ ys) left) refl (subst AreBytes left r.1)
content_is VarBinary bytes x all h =
    let m = mapped (λ (y : List ℕ × List ℕ). (binary y.0, y.1)) (counted_at bytes) x h in
    let r = counted_is bytes m.0 all m.1 in
    let left : m.0.1 ≡ x.1 = ap (λ (p : Value × List ℕ). p.1) m.2 in
    content_from VarBinary bytes x (binary m.0.0) (sym (ap (λ (p : Value × List ℕ). p.0) m.2)) (r.0 ∙ ap (λ (ys : List ℕ). counted m.0.0 ++ ys) left) refl (subst AreBytes left r.1)

tail_bytes : (mark : ℕ) (bytes : List ℕ) → AreBytes (mark ∷ bytes) → AreBytes bytes
tail_bytes mark bytes all i = all (suc i)

typed_value_cases : (null_mark mark_0 : Bool) (kind : Kind) (mark : ℕ) (bytes : List ℕ) (x : Value × List ℕ) → (mark == 255) ≡ null_mark → (mark == 0) ≡ mark_0 → AreBytes bytes
    → (if null_mark then Some (null, bytes) else (if mark_0 then content_at kind bytes else None)) ≡ Some x → (mark ∷ bytes ≡ value_bytes kind x.0 ++ x.1) × AreBytes x.1
typed_value_cases true b kind mark bytes x is zero_is all h =
    let m : mark ≡ 255 = eqb-true mark 255 is in
    let same : (null, bytes) ≡ x = cc in
    subst (λ (y : Value × List ℕ). (mark ∷ bytes ≡ value_bytes kind y.0 ++ y.1) × AreBytes y.1) same (ap (λ (k : ℕ). k ∷ bytes) m, all)
typed_value_cases false true kind mark bytes x is zero_is all h =
    let m : mark ≡ 0 = eqb-true mark 0 zero_is in
    let c = content_is kind bytes x all h in
    (ap (λ (k : ℕ). k ∷ bytes) m ∙ ap (λ (ys : List ℕ). 0 ∷ ys) c.whole ∙ ap (λ (ys : List ℕ). ys ++ x.1) (sym c.marked), c.rest)
typed_value_cases false false kind mark bytes x is zero_is all h = absurd cc

typed_value_is : (kind : Kind) (bytes : List ℕ) (x : Value × List ℕ) → AreBytes bytes → typed_value_at kind bytes ≡ Some x → (bytes ≡ value_bytes kind x.0 ++ x.1) × AreBytes x.1
typed_value_is kind [] x all h = absurd cc
typed_value_is kind (mark ∷ bytes) x all h = typed_value_cases (mark == 255) (mark == 0) kind mark bytes x refl refl (tail_bytes mark bytes all) h

-- what is read in front was written so, and fits the column
pub value_at-is : (column : Column) (bytes : List ℕ) (x : Value × List ℕ) → AreBytes bytes → value_at column bytes ≡ Some x
    → (fits column x.0 ≡ true) × (bytes ≡ value_bytes column.kind x.0 ++ x.1) × AreBytes x.1
unfolding value_at
value_at-is column bytes x all h =
    let m = chained (λ (y : Value × List ℕ). if fits column y.0 then Some y else None) (typed_value_at column.kind bytes) x h in
    let k = kept (fits column m.0.0) m.0 x m.2 in
    let d = typed_value_is column.kind bytes m.0 all m.1 in (
      ap (λ (y : Value × List ℕ). fits column y.0) (sym k.1) ∙ k.0,
      subst (λ (y : Value × List ℕ). bytes ≡ value_bytes column.kind y.0 ++ y.1) k.1 d.0,
      subst (λ (y : Value × List ℕ). AreBytes y.1) k.1 d.1,
    )

-- ---- rows

-- lengths that two bytes can tell
abbrev pub are_counted : List Column → Bool
are_counted columns = list_all (λ column. nat_lt column.limit 65536) columns

-- a row is read back
pub values_at-row_bytes : (columns : List Column) (values : List Value) → are_counted columns ≡ true → all_fit columns values ≡ true → values_at columns (row_bytes columns values) ≡ Some values
values_at-row_bytes [] [] short fit = refl
values_at-row_bytes [] (value ∷ values) short fit = absurd cc
values_at-row_bytes (column ∷ columns) [] short fit = absurd cc
values_at-row_bytes (column ∷ columns) (value ∷ values) short fit =
    let limit : column.limit < 65536 = ltb-true column.limit 65536 (first_true _ _ short) in
    let first = value_at-value_bytes column value (row_bytes columns values) limit (first_true _ _ fit) in
    let rest = values_at-row_bytes columns values (second_true _ _ short) (second_true _ _ fit) in
    ap (option_and_then (λ (x : Value × List ℕ). option_map (λ vs. x.0 ∷ vs) (values_at columns x.1))) first ∙ ap (option_map (λ vs. value ∷ vs)) rest

-- what is read as a row was written so, and fits the columns
pub values_at-is : (columns : List Column) (bytes : List ℕ) (values : List Value) → AreBytes bytes → values_at columns bytes ≡ Some values → (all_fit columns values ≡ true) × (bytes ≡ row_bytes columns values)
values_at-is [] [] values all h = let none : [] ≡ values = cc in (subst (λ (vs : List Value). all_fit [] vs ≡ true) none refl, refl)
values_at-is [] (byte ∷ bytes) values all h = absurd cc
values_at-is (column ∷ columns) bytes values all h =
    let m = chained (λ (x : Value × List ℕ). option_map (λ vs. x.0 ∷ vs) (values_at columns x.1)) (value_at column bytes) values h in
    let t = mapped (λ (vs : List Value). m.0.0 ∷ vs) (values_at columns m.0.1) values m.2 in
    let v = value_at-is column bytes m.0 all m.1 in
    let r = values_at-is columns m.0.1 t.0 v.2 t.1 in
    subst (λ (vs : List Value). (all_fit (column ∷ columns) vs ≡ true) × (bytes ≡ row_bytes (column ∷ columns) vs)) t.2
    (both_true _ _ v.0 r.0, v.1 ∙ ap (λ (ys : List ℕ). value_bytes column.kind m.0.0 ++ ys) r.1)
