-- Unsigned decimal numbers of 64 bits, without a sign.
use Rattle.std.specs.Prelude.{ℕ, ◌^◌, ◌&&◌, Bool, true, false, nat_lt, [], ◌∷◌, Option, Some, None, if◌then◌else◌}
use Rattle.std.specs.Char.{digit_value}
use Rattle.std.specs.Str.Parse.{digits_value}
use Rattle.clap.specs.Words.{Text}

-- decimal digits alone, and one at least
abbrev pub are_digits : Text → Bool
are_digits [] = true
are_digits (c ∷ cs) = nat_lt (digit_value c) 10 && are_digits cs

abbrev pub is_numeral : Text → Bool
is_numeral [] = false
is_numeral (c ∷ cs) = are_digits (c ∷ cs)

abbrev pub number_in : Text → Option ℕ
number_in text = if is_numeral text && nat_lt (digits_value 10 text) (2 ^ 64) then Some (digits_value 10 text) else None

-- a port has 16 bits
abbrev pub port_by : Option ℕ → Option ℕ
port_by None = None
port_by (Some n) = if nat_lt n 65536 then Some n else None

abbrev pub port_in : Text → Option ℕ
port_in text = port_by (number_in text)

-- seconds: one at least, and so few that their milliseconds have 32 bits
abbrev pub seconds_by : Option ℕ → Option ℕ
seconds_by None = None
seconds_by (Some n) = if nat_lt 0 n && nat_lt n 4294968 then Some n else None

abbrev pub seconds_in : Text → Option ℕ
seconds_in text = seconds_by (number_in text)
