-- Code page 500 (IBM CDRA, CCSID 500), as far as printable ASCII goes; DRDA V5 volume 1 takes it for
-- names until UNICODEMGR is agreed.
use Rattle.std.specs.Prelude.{◌≡◌, ℕ, suc, ◌<◌, List, [], ◌∷◌, length, Option, Some, None, IsSome, slice_index, Result, Ok, Err, String, string_bytes, encode_utf8, map, codes, nat_eq}
use Rattle.std.specs.Global.{Global, Vec}
use Rattle.std.specs.Map.{lookup}
use Rattle.std.specs.Option.{option_map_or}
use Rattle.std.specs.List.{flat_map}
use Rattle.ebcdic_500.specs.declared.fault.CodePageError.{CodePageError}
use Rattle.ebcdic_500.specs.declared.fault.CodePageError.TheVariants.{NotInTable, NoMemory}

-- The rows of the standard's table: a byte, and the characters that it and the bytes behind it stand for.
abbrev pub rows : List (ℕ × List ℕ)
rows =
    (0x40, codes " ") ∷
    (0xC1, codes "ABCDEFGHI") ∷
    (0xD1, codes "JKLMNOPQR") ∷
    (0xE2, codes "STUVWXYZ") ∷
    (0x81, codes "abcdefghi") ∷
    (0x91, codes "jklmnopqr") ∷
    (0xA2, codes "stuvwxyz") ∷
    (0xF0, codes "0123456789") ∷
    (0x4A, codes "[.<(+!&") ∷
    (0x5A, codes "]$*);^-/") ∷
    (0x6B, codes ",%_>?") ∷
    (0x79, codes "`:#@'=\"") ∷
    (0xA1, codes "~") ∷
    (0xBB, codes "|") ∷
    (0xC0, codes "{") ∷
    (0xD0, codes "}") ∷
    (0xE0, codes "\\") ∷
    []

-- characters that stand in a row, the first one at a byte
abbrev pub numbered : ℕ → List ℕ → List (ℕ × ℕ)
numbered byte [] = []
numbered byte (character ∷ characters) = (byte, character) ∷ numbered (suc byte) characters

-- each byte that stands for a character, with it
abbrev pub bytes_with_characters : List (ℕ × ℕ)
bytes_with_characters = flat_map (λ row. numbered row.0 row.1) rows

-- and each character with its byte
abbrev pub characters_with_bytes : List (ℕ × ℕ)
characters_with_bytes = map (λ pair. (pair.1, pair.0)) bytes_with_characters

-- the character that a byte stands for
unfoldable pub char_for : ℕ → Option ℕ
char_for b = lookup (nat_eq b) bytes_with_characters

-- the byte that stands for a character
unfoldable pub byte_for : ℕ → Option ℕ
byte_for c = lookup (nat_eq c) characters_with_bytes

-- a byte's character in UTF-8
abbrev pub utf8_for : ℕ → List ℕ
utf8_for b = option_map_or encode_utf8 (char_for b) []

-- each place below `at` is in the table
abbrev pub InTableBelow : List ℕ → ℕ → Type 0
InTableBelow bytes at = (k : ℕ) → k < at → IsSome (char_for (slice_index bytes k))

-- What is answered for bytes: their text, or the first place that is outside the table. Memory may be refused.
abbrev pub Decodes : List ℕ → Result (String Global) CodePageError → Type 0
Decodes bytes (Ok text) = InTableBelow bytes (length bytes) × (string_bytes text ≡ flat_map utf8_for bytes)
Decodes bytes (Err (NotInTable at)) = (at < length bytes) × InTableBelow bytes at × (char_for (slice_index bytes at) ≡ None)
Decodes bytes (Err NoMemory) = Unit {0}

-- What is answered for characters: their bytes, or the first place that is outside the table. Memory may be refused.
abbrev pub Encodes : List ℕ → Result (Vec ℕ) CodePageError → Type 0
Encodes chars (Ok bytes) = map byte_for chars ≡ map Some bytes.items
Encodes chars (Err (NotInTable at)) = (at < length chars) × ((k : ℕ) → k < at → IsSome (byte_for (slice_index chars k))) × (byte_for (slice_index chars at) ≡ None)
Encodes chars (Err NoMemory) = Unit {0}
