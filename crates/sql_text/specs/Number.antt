-- What digits write.
use Rattle.std.specs.Prelude.{ℕ, ◌+◌, ◌-◌, ◌*◌, ◌^◌, Bool, List, [], ◌∷◌, drop, min, nat_lt, nat_le}

-- the number of digits behind others that write n
abbrev pub number_behind : ℕ → List ℕ → ℕ
number_behind n [] = n
number_behind n (digit ∷ digits) = number_behind (n * 10 + (digit - 48)) digits

-- the number that digits write
unfoldable pub number_of : List ℕ → ℕ
number_of digits = number_behind 0 digits

-- the greatest number of BIGINT is 2^63 - 1
unfoldable pub is_bigint : List ℕ → Bool
is_bigint digits = nat_lt (number_of digits) (2 ^ 63)

-- and the least -2^63, which is spelled with a '-' before the digits
unfoldable pub is_negative_bigint : List ℕ → Bool
is_negative_bigint spelled = nat_le (number_of (drop 1 spelled)) (2 ^ 63)

-- the length that digits write, where 2,001 stands for each that is greater
unfoldable pub length_of : List ℕ → ℕ
length_of digits = min (number_of digits) 2001
