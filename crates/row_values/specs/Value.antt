-- SQL values, and their order.
use Rattle.std.specs.Prelude.{ℕ, ℤ, pos, List, [], Bool, true}
use Rattle.std.specs.Ordering.{nat_cmp, int_cmp, ordering_then}
use Rattle.std.specs.declared.cmp.Ordering.{Ordering}
use Rattle.std.specs.Cmp.Lexicographic.{slice_cmp}
use Rattle.std.specs.Str.{is_utf8}
use Rattle.row_values.specs.declared.value.Value.{Value as CodeValue}
use Rattle.row_values.specs.declared.value.Value.TheVariants.{Null, Number, Text, Bytes}

-- a value: NULL, a number, a text by its bytes, or bytes
pub data Value : Type 0 where
  null : Value
  number : ℤ → Value
  text : List ℕ → Value
  binary : List ℕ → Value

abbrev pub value_of : CodeValue → Value
value_of Null = null
value_of (Number n) = number n
value_of (Text s) = text s.now
value_of (Bytes bytes) = binary bytes.now

-- texts are UTF-8
abbrev pub is_value : Value → Bool
is_value null = true
is_value (number n) = true
is_value (text bytes) = is_utf8 bytes
is_value (binary bytes) = true

-- the class of a value, by its place in the order
abbrev pub class_of : Value → ℕ
class_of null = 0
class_of (number n) = 1
class_of (text bytes) = 2
class_of (binary bytes) = 3

abbrev pub number_in : Value → ℤ
number_in null = pos 0
number_in (number n) = n
number_in (text bytes) = pos 0
number_in (binary bytes) = pos 0

abbrev pub bytes_in : Value → List ℕ
bytes_in null = []
bytes_in (number n) = []
bytes_in (text bytes) = bytes
bytes_in (binary bytes) = bytes

-- the order of values: by class, then numbers by value, then texts and bytes by their bytes
abbrev pub value_cmp : Value → Value → Ordering
value_cmp a b = ordering_then (nat_cmp (class_of a) (class_of b))
    (ordering_then (int_cmp (number_in a) (number_in b)) (slice_cmp nat_cmp (bytes_in a) (bytes_in b)))
