-- A value in a row is as long as its first bytes say.
use Rattle.std.proofs.Common.{◌≡◌, ℕ, ◌+◌, ◌<◌, List, [], ◌∷◌, ◌++◌, Bool, true, false, ◌&&◌, refl, sym, ap, ◌∙◌, length, take, drop, nat_le, arith, append-nil, length-append}
use Rattle.std.specs.Prelude.{is_none}
use Rattle.std.specs.Int.{from_be_bytes, w16, w32, w64, cast_unsigned}
use Rattle.std.proofs.lemmas.Bool.Decides.{nat_tests}
use Rattle.byteorder.specs.Endian.{big_bytes, big_number}
use Rattle.byteorder.specs.Numbers.{big_number-reads_back, length-bytes_high_first}
use Rattle.row_values.specs.declared.column.Kind.{Kind}
use Rattle.row_values.specs.declared.column.Kind.TheVariants.{SmallInt, Integer, BigInt, VarChar, VarBinary}
use Rattle.row_values.specs.declared.column.Misfit.{Misfit}
use Rattle.row_values.specs.Value.{Value, null, number, text, binary}
use Rattle.row_values.specs.Column.{Column, fits, misfit_in, within}
use Rattle.row_values.specs.Row.{content_bytes, counted, value_bytes}
use Rattle.fdoca.specs.Writing.{content_size, counted_size, value_size}
use Rattle.fdoca.proofs.Contents.{drop_front, take_front}

pub first_true : (a b : Bool) → (a && b) ≡ true → a ≡ true
first_true true b h = refl
first_true false b h = absurd cc

pub second_true : (a b : Bool) → (a && b) ≡ true → b ≡ true
second_true true b h = h
second_true false b h = absurd cc

pub is_within : (b : Bool) (m : Misfit) → is_none (within b m) ≡ true → b ≡ true
is_within true m h = refl
is_within false m h = absurd cc

short : (n limit : ℕ) → nat_le n limit ≡ true → limit < 65536 → n < 65536
short n limit h lt = grind (arith, nat_tests)

counted_by : (xs bytes rest : List ℕ) → length xs ≡ 2 → from_be_bytes w16 xs ≡ length bytes → counted_size ((xs ++ bytes) ++ rest) ≡ length (xs ++ bytes)
counted_by [] bytes rest len is = absurd (omega (arith, len))
counted_by (a ∷ []) bytes rest len is = absurd (omega (arith, len))
counted_by (a ∷ b ∷ []) bytes rest len is = omega (arith, is)
counted_by (a ∷ b ∷ c ∷ xs) bytes rest len is = absurd (omega (arith, len))

pub two_bytes : (xs : List ℕ) → length xs ≡ 2 → from_be_bytes w16 xs ≡ big_number 2 xs
two_bytes xs len = omega arith

counted_is : (bytes rest : List ℕ) → length bytes < 65536 → counted_size (counted bytes ++ rest) ≡ length (counted bytes)
counted_is bytes rest below =
    let head = big_bytes 2 (length bytes) in
    let len : length head ≡ 2 = length-bytes_high_first 2 (length bytes) in
    let back : big_number 2 head ≡ length bytes = ap (big_number 2) (sym (append-nil head)) ∙ big_number-reads_back 2 (length bytes) [] below in
    counted_by head bytes rest len (two_bytes head len ∙ back)

content_is : (kind : Kind) (limit : ℕ) (value : Value) (rest : List ℕ) → limit < 65536 → is_none (misfit_in kind limit value) ≡ true → content_size kind (content_bytes kind value ++ rest) ≡ length (content_bytes kind value)
content_is SmallInt limit (number z) rest lt fit = sym (length-bytes_high_first 2 (cast_unsigned w16 z))
content_is Integer limit (number z) rest lt fit = sym (length-bytes_high_first 4 (cast_unsigned w32 z))
content_is BigInt limit (number z) rest lt fit = sym (length-bytes_high_first 8 (cast_unsigned w64 z))
content_is VarChar limit (text bytes) rest lt fit = counted_is bytes rest (short _ limit (is_within _ _ fit) lt)
content_is VarBinary limit (binary bytes) rest lt fit = counted_is bytes rest (short _ limit (is_within _ _ fit) lt)
content_is SmallInt limit null rest lt fit = absurd cc
content_is SmallInt limit (text bytes) rest lt fit = absurd cc
content_is SmallInt limit (binary bytes) rest lt fit = absurd cc
content_is Integer limit null rest lt fit = absurd cc
content_is Integer limit (text bytes) rest lt fit = absurd cc
content_is Integer limit (binary bytes) rest lt fit = absurd cc
content_is BigInt limit null rest lt fit = absurd cc
content_is BigInt limit (text bytes) rest lt fit = absurd cc
content_is BigInt limit (binary bytes) rest lt fit = absurd cc
content_is VarChar limit null rest lt fit = absurd cc
content_is VarChar limit (number z) rest lt fit = absurd cc
content_is VarChar limit (binary bytes) rest lt fit = absurd cc
content_is VarBinary limit null rest lt fit = absurd cc
content_is VarBinary limit (number z) rest lt fit = absurd cc
content_is VarBinary limit (text bytes) rest lt fit = absurd cc

size_by : (nullable : Bool) (kind : Kind) (limit : ℕ) (name : List ℕ) (value : Value) (rest : List ℕ) → limit < 65536
    → fits (record { name = name; kind = kind; is_nullable = nullable; limit = limit }) value ≡ true → value_size kind (value_bytes kind value ++ rest) ≡ length (value_bytes kind value)
size_by nullable kind limit name null rest lt fit = refl
size_by nullable kind limit name (number z) rest lt fit = let c = content_is kind limit (number z) rest lt (first_true _ _ fit) in omega (arith, c)
size_by nullable kind limit name (text bytes) rest lt fit = let c = content_is kind limit (text bytes) rest lt (first_true _ _ fit) in omega (arith, c)
size_by nullable kind limit name (binary bytes) rest lt fit = let c = content_is kind limit (binary bytes) rest lt (first_true _ _ fit) in omega (arith, c)

-- the value in front has so many bytes, so it is cut off whole
pub size_is : (column : Column) (value : Value) (bytes rest : List ℕ) → column.limit < 65536 → fits column value ≡ true → bytes ≡ value_bytes column.kind value ++ rest → value_size column.kind bytes ≡ length (value_bytes column.kind value)
size_is column value bytes rest lt fit is = ap (value_size column.kind) is ∙ size_by column.is_nullable column.kind column.limit column.name value rest lt fit

pub cut : (column : Column) (value : Value) (bytes rest front back : List ℕ) (size : ℕ) → column.limit < 65536 → fits column value ≡ true → bytes ≡ value_bytes column.kind value ++ rest → size ≡ value_size column.kind bytes
    → front ≡ take size bytes → back ≡ drop size bytes → (front ≡ value_bytes column.kind value) × (back ≡ rest)
cut column value bytes rest front back size lt fit is size_of front_is back_is =
    let long : length (value_bytes column.kind value) ≡ size = sym (size_of ∙ size_is column value bytes rest lt fit is) in
    (front_is ∙ ap (take size) is ∙ take_front (value_bytes column.kind value) rest size long, back_is ∙ ap (drop size) is ∙ drop_front (value_bytes column.kind value) rest size long)

pub too_long : (column : Column) (value : Value) (bytes rest : List ℕ) (size : ℕ) → column.limit < 65536 → fits column value ≡ true → bytes ≡ value_bytes column.kind value ++ rest → size ≡ value_size column.kind bytes → length bytes < size → ⊥
too_long column value bytes rest size lt fit is size_of more =
    let long : size ≡ length (value_bytes column.kind value) = size_of ∙ size_is column value bytes rest lt fit is in
    let whole : length bytes ≡ length (value_bytes column.kind value) + length rest = ap length is ∙ length-append (value_bytes column.kind value) rest in
    omega (arith, long, whole, more)
