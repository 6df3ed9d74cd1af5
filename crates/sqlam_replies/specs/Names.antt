-- Names that are answered (DRDA V5 volume 1, "Data Conversion"; UNICODEMGR in volume 3): UTF-8 where CCSID
-- 1208 is agreed, else code page 500.
use Rattle.std.specs.Prelude.{ℕ, Bool, List, map, unwrap_or, if◌then◌else◌}
use Rattle.ebcdic_500.specs.CodePage.{byte_for}

-- the byte for a character of printable ASCII
abbrev pub byte_in : Bool → ℕ → ℕ
byte_in unicode c = if unicode then c else unwrap_or (byte_for c) 0

abbrev pub in_encoding : Bool → List ℕ → List ℕ
in_encoding unicode text = map (byte_in unicode) text
