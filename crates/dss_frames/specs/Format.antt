-- The format byte of a DSS (DRDA V5 volume 3, DSS): 40 chained, 20 go on after an error, 10 the next
-- DSS has the same correlator; the low four bits are the type, 1 request, 2 reply, 3 object.
use Rattle.std.specs.Prelude.{ℕ, Bool, not, ◌&&◌, ◌||◌, ◌==◌, bit_and}

abbrev pub has_bit : ℕ → ℕ → Bool
has_bit bit format = not (bit_and format bit == 0)

-- another DSS of the same chain follows
abbrev pub is_chained : ℕ → Bool
is_chained format = has_bit 0x40 format

abbrev pub continues_on_error : ℕ → Bool
continues_on_error format = has_bit 0x20 format

abbrev pub has_same_correlator : ℕ → Bool
has_same_correlator format = has_bit 0x10 format

abbrev pub type_of : ℕ → ℕ
type_of format = bit_and format 0x0F

abbrev pub is_request : ℕ → Bool
is_request format = type_of format == 1

abbrev pub is_object : ℕ → Bool
is_object format = type_of format == 3

-- what may come from a requester
abbrev pub is_supported : ℕ → Bool
is_supported format = (bit_and format 0x80 == 0) && (is_request format || is_object format)

-- the next DSS has the same correlator only in a chain
abbrev pub is_paired : ℕ → Bool
is_paired format = is_chained format || not (has_same_correlator format)

-- an object of the same command follows
abbrev pub has_objects : ℕ → Bool
has_objects format = is_chained format && has_same_correlator format
