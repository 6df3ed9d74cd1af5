-- How a DSS is written (DRDA V5 volume 3, DSS): full segments of 32,767 bytes, and the last one short.
use Rattle.std.specs.Prelude.{ℕ, zero, suc, ◌+◌, ◌-◌, ◌*◌, ◌/◌, nat_lt, List, [], ◌∷◌, ◌++◌, length, take, drop, if◌then◌else◌}
use Rattle.std.specs.Int.{to_be_bytes, w16}

-- what a full segment holds behind the six bytes of a header, and behind the two of a continuation
abbrev pub first_size : ℕ
first_size = 32761

abbrev pub next_size : ℕ
next_size = 32765

-- the length of a segment that holds the first bytes of some, with its high bit on where bytes are left over
abbrev pub length_bytes : ℕ → ℕ → ℕ → List ℕ
length_bytes header size count =
    if nat_lt size count then to_be_bytes w16 (32768 + (header + size)) else to_be_bytes w16 (header + count)

-- the continuations that hold these bytes, at most so many
abbrev pub continuations : ℕ → List ℕ → List ℕ
continuations zero contents = []
continuations (suc most) [] = []
continuations (suc most) (byte ∷ bytes) =
    length_bytes 2 next_size (length (byte ∷ bytes)) ++ take next_size (byte ∷ bytes) ++ continuations most (drop next_size (byte ∷ bytes))

-- the bytes of a DSS
abbrev pub written : ℕ → ℕ → List ℕ → List ℕ
written format correlator contents =
    length_bytes 6 first_size (length contents) ++ (0xD0 ∷ format ∷ []) ++ to_be_bytes w16 correlator
    ++ take first_size contents ++ continuations (length contents) (drop first_size contents)

-- the bytes where the header of a DSS will stand
abbrev pub unset : List ℕ
unset = 0 ∷ 0 ∷ 0 ∷ 0 ∷ 0 ∷ 0 ∷ []

-- how many bytes the continuations take that hold so many
abbrev pub continued_length : ℕ → ℕ
continued_length count = count + 2 * ((count + (next_size - 1)) / next_size)

-- how many bytes a DSS takes
abbrev pub written_length : ℕ → ℕ
written_length count = 6 + count + 2 * ((count - first_size + (next_size - 1)) / next_size)
