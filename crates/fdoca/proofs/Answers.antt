-- What is written of an answer is read back.
use Rattle.std.proofs.Common.{◌≡◌, ℕ, ◌+◌, ◌*◌, ◌^◌, length-append, ◌<◌, ◌≤◌, ℤ, List, [], ◌∷◌, ◌++◌, Bool, true, false, ◌&&◌, refl, sym, ap, ◌∙◌, length, map, nat_le, nat_lt, arith, Some, FitsSigned, append-nil, inl, inr, get_or}
use Rattle.std.specs.Prelude.{is_none}
use Rattle.std.specs.List.{flat_map}
use Rattle.std.specs.Int.{Width, w16, w32, w64, cast_signed, cast_unsigned, from_be_bytes, to_be_bytes}
use Rattle.std.proofs.lemmas.Bool.Decides.{nat_tests}
use Rattle.std.proofs.lemmas.Int.{to_z-of_z, ints}
use Rattle.std.proofs.lemmas.Nat.{from_be_bytes-to_be_bytes_2}
use Rattle.std.proofs.Math.Facts.{Fits-of_z}
use mir.Val.{bits}
use Rattle.byteorder.specs.Endian.{big_bytes, big_number}
use Rattle.byteorder.specs.Numbers.{big_number-reads_back, length-bytes_high_first}
use Rattle.row_values.specs.declared.column.Kind.{Kind}
use Rattle.row_values.specs.declared.column.Kind.TheVariants.{SmallInt, Integer, BigInt, VarChar, VarBinary}
use Rattle.row_values.specs.Value.{Value, null, number, text, binary, is_value}
use Rattle.row_values.specs.Column.{Column, fits, misfit_in}
use Rattle.row_values.specs.Schema.{is_limit}
use Rattle.row_values.specs.Row.{all_fit, content_bytes, counted}
use Rattle.fdoca.specs.declared.field.Field.{Field}
use Rattle.fdoca.specs.Types.{field_of, field_type_of}
use Rattle.fdoca.specs.Descriptor.{AreFields, IsTriplet}
use Rattle.fdoca.specs.Row.{AreValues, IsContent, IsCounted, IsNumber, IsValue}
use Rattle.fdoca.specs.Writing.{answer_fields, field_bytes, field_for, field_type_for, length_for, sent_value, sent_values}
use Rattle.fdoca.specs.Laws.{have_limits}
use Rattle.fdoca.proofs.Sizes.{first_true, second_true, is_within, two_bytes}

-- ---- values

fits_two : (n : ℤ) → is_none (misfit_in SmallInt 0 (number n)) ≡ true → FitsSigned w16 n
fits_two n h = grind (arith, ints, nat_tests, is_within _ _ h)

fits_four : (n : ℤ) → is_none (misfit_in Integer 0 (number n)) ≡ true → FitsSigned w32 n
fits_four n h = grind (arith, ints, nat_tests, is_within _ _ h)

fits_eight : (n : ℤ) → is_none (misfit_in BigInt 0 (number n)) ≡ true → FitsSigned w64 n
fits_eight n h = grind (arith, ints, nat_tests, is_within _ _ h)

is_number : (size : ℕ) (w : Width) (z : ℤ) → cast_unsigned w z < 256 ^ size → FitsSigned w z → IsNumber size w (big_bytes size (cast_unsigned w z)) (number z)
is_number size w z below fit =
    let back : big_number size (big_bytes size (cast_unsigned w z)) ≡ cast_unsigned w z = ap (big_number size) (sym (append-nil (big_bytes size (cast_unsigned w z)))) ∙ big_number-reads_back size (cast_unsigned w z) [] below in
    (length-bytes_high_first size (cast_unsigned w z), ap number (sym (ap (cast_signed w) back ∙ to_z-of_z w z fit)))

counted_parts : (xs content : List ℕ) (limit : ℕ) → length xs ≡ 2 → from_be_bytes w16 xs ≡ length content → length content ≤ limit → IsCounted limit (xs ++ content) content
counted_parts [] content limit len is le = absurd (omega (arith, len))
counted_parts (a ∷ []) content limit len is le = absurd (omega (arith, len))
counted_parts (a ∷ b ∷ []) content limit len is le = (a, b, refl, is, le)
counted_parts (a ∷ b ∷ c ∷ xs) content limit len is le = absurd (omega (arith, len))

is_counted : (content : List ℕ) (limit : ℕ) → limit < 65536 → length content ≤ limit → IsCounted limit (counted content) content
is_counted content limit lt le =
    let head = big_bytes 2 (length content) in
    let below : length content < 65536 = omega (arith, lt, le) in
    let back : big_number 2 head ≡ length content = ap (big_number 2) (sym (append-nil head)) ∙ big_number-reads_back 2 (length content) [] below in
    counted_parts head content limit (length-bytes_high_first 2 (length content)) (two_bytes head (length-bytes_high_first 2 (length content)) ∙ back) le

at_most : (n limit : ℕ) → nat_le n limit ≡ true → n ≤ limit
at_most n limit h = grind (arith, nat_tests)

below_two : (n : ℕ) → (nat_lt 0 n && nat_le n 2000) ≡ true → n < 65536
below_two n h = let le = at_most n 2000 (second_true _ _ h) in omega (arith, le)

unsigned : (w : Width) (z : ℤ) → FitsSigned w z → cast_unsigned w z < 2 ^ bits w
unsigned w z s = (Fits-of_z {w = w} {z = z} s).fits

content_read : (kind : Kind) (limit : ℕ) (value : Value) → is_limit kind limit ≡ true → is_none (misfit_in kind limit value) ≡ true → is_value value ≡ true
    → IsContent (field_type_for kind) (length_for kind limit) (content_bytes kind value) value
content_read SmallInt limit (number z) lim fit whole = let s = fits_two z fit in is_number 2 w16 z (unsigned w16 z s) s
content_read Integer limit (number z) lim fit whole = let s = fits_four z fit in is_number 4 w32 z (unsigned w32 z s) s
content_read BigInt limit (number z) lim fit whole = let s = fits_eight z fit in is_number 8 w64 z (unsigned w64 z s) s
content_read VarChar limit (text bytes) lim fit whole = (bytes, is_counted bytes limit (below_two limit lim) (at_most (length bytes) limit (is_within _ _ fit)), whole, refl)
content_read VarBinary limit (binary bytes) lim fit whole = (bytes, is_counted bytes limit (below_two limit lim) (at_most (length bytes) limit (is_within _ _ fit)), refl)
content_read SmallInt limit null lim fit whole = absurd cc
content_read SmallInt limit (text bytes) lim fit whole = absurd cc
content_read SmallInt limit (binary bytes) lim fit whole = absurd cc
content_read Integer limit null lim fit whole = absurd cc
content_read Integer limit (text bytes) lim fit whole = absurd cc
content_read Integer limit (binary bytes) lim fit whole = absurd cc
content_read BigInt limit null lim fit whole = absurd cc
content_read BigInt limit (text bytes) lim fit whole = absurd cc
content_read BigInt limit (binary bytes) lim fit whole = absurd cc
content_read VarChar limit null lim fit whole = absurd cc
content_read VarChar limit (number z) lim fit whole = absurd cc
content_read VarChar limit (binary bytes) lim fit whole = absurd cc
content_read VarBinary limit null lim fit whole = absurd cc
content_read VarBinary limit (number z) lim fit whole = absurd cc
content_read VarBinary limit (text bytes) lim fit whole = absurd cc

value_read : (nullable : Bool) (kind : Kind) (limit : ℕ) (name : List ℕ) (value : Value) → is_limit kind limit ≡ true → fits (record { name = name; kind = kind; is_nullable = nullable; limit = limit }) value ≡ true
    → IsValue (field_for (record { name = name; kind = kind; is_nullable = nullable; limit = limit })) (sent_value nullable kind value) value
value_read true kind limit name null lim fit = inl (refl, refl)
value_read true kind limit name (number z) lim fit = inr (content_bytes kind (number z), refl, content_read kind limit (number z) lim (first_true _ _ fit) (second_true _ _ fit))
value_read true kind limit name (text bytes) lim fit = inr (content_bytes kind (text bytes), refl, content_read kind limit (text bytes) lim (first_true _ _ fit) (second_true _ _ fit))
value_read true kind limit name (binary bytes) lim fit = inr (content_bytes kind (binary bytes), refl, content_read kind limit (binary bytes) lim (first_true _ _ fit) (second_true _ _ fit))
value_read false kind limit name null lim fit = absurd cc
value_read false kind limit name (number z) lim fit = content_read kind limit (number z) lim (first_true _ _ fit) (second_true _ _ fit)
value_read false kind limit name (text bytes) lim fit = content_read kind limit (text bytes) lim (first_true _ _ fit) (second_true _ _ fit)
value_read false kind limit name (binary bytes) lim fit = content_read kind limit (binary bytes) lim (first_true _ _ fit) (second_true _ _ fit)

pub sent_read : (columns : List Column) (values : List Value) → have_limits columns ≡ true → all_fit columns values ≡ true → AreValues (map field_for columns) (sent_values columns values) values
sent_read [] [] lim fit = refl
sent_read [] (value ∷ values) lim fit = absurd cc
sent_read (column ∷ columns) [] lim fit = absurd cc
sent_read (column ∷ columns) (value ∷ values) lim fit = (
  sent_value column.is_nullable column.kind value,
  sent_values columns values,
  refl,
  value_read column.is_nullable column.kind column.limit column.name value (first_true _ _ lim) (first_true _ _ fit),
  sent_read columns values (second_true _ _ lim) (second_true _ _ fit),
)

-- ---- the description

field_read : (nullable : Bool) (kind : Kind) (limit : ℕ) (name : List ℕ) → is_limit kind limit ≡ true
    → field_of (get_or (field_bytes (record { name = name; kind = kind; is_nullable = nullable; limit = limit })) 0 0) (length_for kind limit) ≡ Some (field_for (record { name = name; kind = kind; is_nullable = nullable; limit = limit }))
unfolding field_of field_type_of
field_read true SmallInt limit name lim = refl
field_read false SmallInt limit name lim = refl
field_read true Integer limit name lim = refl
field_read false Integer limit name lim = refl
field_read true BigInt limit name lim = refl
field_read false BigInt limit name lim = refl
field_read true VarChar limit name lim = refl
field_read false VarChar limit name lim = refl
field_read true VarBinary limit name lim = refl
field_read false VarBinary limit name lim = refl

fields_first : (type_number len : ℕ) (xs rest : List ℕ) (field : Field) (fields : List Field) → length xs ≡ 2 → from_be_bytes w16 xs ≡ len → field_of type_number len ≡ Some field → AreFields rest fields → AreFields ((type_number ∷ xs) ++ rest) (field ∷ fields)
fields_first type_number len [] rest field fields two is h r = absurd (omega (arith, two))
fields_first type_number len (a ∷ []) rest field fields two is h r = absurd (omega (arith, two))
fields_first type_number len (a ∷ b ∷ []) rest field fields two is h r = (ap (field_of type_number) is ∙ h, r)
fields_first type_number len (a ∷ b ∷ c ∷ xs) rest field fields two is h r = absurd (omega (arith, two))

length_below : (kind : Kind) (limit : ℕ) → is_limit kind limit ≡ true → length_for kind limit < 65536
length_below SmallInt limit lim = omega arith
length_below Integer limit lim = omega arith
length_below BigInt limit lim = omega arith
length_below VarChar limit lim = below_two limit lim
length_below VarBinary limit lim = below_two limit lim

two_long : (n : ℕ) → length (to_be_bytes w16 n) ≡ 2
two_long n = refl

fields_read : (columns : List Column) → have_limits columns ≡ true → AreFields (flat_map field_bytes columns) (map field_for columns)
fields_read [] lim = tt
fields_read (column ∷ columns) lim =
    let len = length_for column.kind column.limit in
    fields_first (get_or (field_bytes column) 0 0) len (to_be_bytes w16 len) (flat_map field_bytes columns) (field_for column) (map field_for columns) (two_long len)
    (from_be_bytes-to_be_bytes_2 len (length_below column.kind column.limit (first_true _ _ lim))) (field_read column.is_nullable column.kind column.limit column.name (first_true _ _ lim)) (fields_read columns (second_true _ _ lim))

three_each : (columns : List Column) → length (flat_map field_bytes columns) ≡ 3 * length columns
three_each [] = refl
three_each (column ∷ columns) =
    let two = two_long (length_for column.kind column.limit) in
    let sum = length-append (field_bytes column) (flat_map field_bytes columns) in
    let rest = three_each columns in
    omega (arith, two, sum, rest)

pub description_read : (columns : List Column) → have_limits columns ≡ true → IsTriplet 0x76 0xD0 (answer_fields columns) (map field_for columns)
description_read columns lim =
    (flat_map field_bytes columns, ap (λ (n : ℕ). (3 + n) ∷ 0x76 ∷ 0xD0 ∷ flat_map field_bytes columns) (sym (three_each columns)), fields_read columns lim)
