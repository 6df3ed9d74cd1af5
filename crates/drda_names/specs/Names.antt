-- Names on the wire. A name is UTF-8 where CCSID 1208 is agreed and all its bytes are below 80, and
-- else code page 500 (DRDA V5 volume 1, "Data Conversion"; UNICODEMGR in volume 3).
use Rattle.std.specs.Prelude.{ℕ, ◌-◌, Bool, false, ◌&&◌, ◌==◌, nat_lt, nat_le, List, [], ◌∷◌, ◌++◌, length, take, drop, map, replicate, unwrap_or, Option, Some, None, if◌then◌else◌}
use Rattle.std.specs.List.{list_all}
use Rattle.ebcdic_500.specs.CodePage.{char_for, byte_for}

abbrev pub is_ascii : List ℕ → Bool
is_ascii bytes = list_all (λ b. nat_lt b 0x80) bytes

-- the character of a byte, in either encoding; a byte outside of code page 500 is none
abbrev pub character : Bool → ℕ → Option ℕ
character is_utf8 b = if is_utf8 then Some b else char_for b

-- a byte stands for this character
abbrev pub stands_for : Option ℕ → ℕ → Bool
stands_for None c = false
stands_for (Some d) c = d == c

-- the bytes spell this text, byte by byte
abbrev pub spells : Bool → List ℕ → List ℕ → Bool
spells is_utf8 [] text = length text == 0
spells is_utf8 (b ∷ bytes) [] = false
spells is_utf8 (b ∷ bytes) (c ∷ text) = stands_for (character is_utf8 b) c && spells is_utf8 bytes text

-- A name that came is this text. The encoding is chosen for each value: with CCSID 1208 agreed, bytes
-- below 80 are UTF-8, and a value with any other byte is code page 500.
abbrev pub is_name : Bool → List ℕ → List ℕ → Bool
is_name unicode bytes text = spells (unicode && is_ascii bytes) bytes text

-- a blank in either encoding
abbrev pub is_blank : Bool → ℕ → Bool
is_blank is_utf8 b = stands_for (character is_utf8 b) 0x20

-- the bytes spell this text, and behind it nothing but blanks
abbrev pub spells_padded : Bool → List ℕ → List ℕ → Bool
spells_padded is_utf8 bytes text =
    nat_le (length text) (length bytes)
    && (spells is_utf8 (take (length text) bytes) text && list_all (is_blank is_utf8) (drop (length text) bytes))

-- A name of a database that came is this one: blanks behind it do not count.
abbrev pub is_padded_name : Bool → List ℕ → List ℕ → Bool
is_padded_name unicode bytes text = spells_padded (unicode && is_ascii bytes) bytes text

-- ---- names that are answered

-- the byte for a character of printable ASCII
abbrev pub byte_in : Bool → ℕ → ℕ
byte_in unicode c = if unicode then c else unwrap_or (byte_for c) 0

abbrev pub in_encoding : Bool → List ℕ → List ℕ
in_encoding unicode text = map (byte_in unicode) text

-- a database's name is answered with 18 bytes, blanks behind it
abbrev pub padded_in : Bool → List ℕ → List ℕ
padded_in unicode name = in_encoding unicode name ++ replicate (18 - length name) (byte_in unicode 0x20)
