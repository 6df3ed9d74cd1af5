-- What the parts of a statement stand for.
use Rattle.std.specs.Prelude.{◌≡◌, ℕ, ◌+◌, ◌-◌, ◌*◌, ◌/◌, ◌%◌, ◌==◌, nat_lt, if◌then◌else◌, List, [], ◌∷◌, length, slice_index, ℤ, pos, neg_ℤ}
use Rattle.sql_lex.specs.Spelling.{AreDigits}
use Rattle.sql_text.specs.Number.{number_of}
use Rattle.sql_text.specs.declared.tree.Literal.{Literal}
use Rattle.sql_text.specs.declared.tree.Literal.TheVariants as literal
-- names are kept in capitals
pub use Rattle.sql_lex.specs.Spelling.{capitals}

-- a number, with or without a '-'
abbrev pub number_value : List ℕ → ℤ
number_value [] = pos 0
number_value (b ∷ text) = if b == 45 then neg_ℤ (pos (number_of text)) else pos (number_of (b ∷ text))

-- digits without a zero before them
abbrev pub IsPlain : List ℕ → Type 0
IsPlain text = AreDigits text × (slice_index text 0 ≡ 48 → length text ≡ 1)

-- a text, in which a doubled quote is one
abbrev pub undoubled : List ℕ → List ℕ
undoubled [] = []
undoubled (b ∷ []) = b ∷ []
undoubled (a ∷ b ∷ text) = if a == 39 then a ∷ undoubled text else a ∷ undoubled (b ∷ text)

-- what a hexadecimal digit counts: '0' to '9', 'A' to 'F', 'a' to 'f'
abbrev pub digit_value : ℕ → ℕ
digit_value b = if nat_lt b 58 then b - 48 else (if nat_lt b 71 then b - 55 else b - 87)

-- bytes, of two digits each
abbrev pub bytes_of_pairs : List ℕ → List ℕ
bytes_of_pairs (a ∷ b ∷ text) = (digit_value a * 16 + digit_value b) ∷ bytes_of_pairs text
bytes_of_pairs _ = []

-- the hexadecimal digit that counts n
abbrev pub hexadecimal_digit : ℕ → ℕ
hexadecimal_digit n = if nat_lt n 10 then n + 48 else n + 55

-- two digits of each byte, as capitals
abbrev pub pairs_of : List ℕ → List ℕ
pairs_of [] = []
pairs_of (b ∷ text) = hexadecimal_digit (b / 16) ∷ hexadecimal_digit (b % 16) ∷ pairs_of text

-- the value of a literal
pub data LiteralValue : Type 0 where
  Absent : LiteralValue
  Number : ℤ → LiteralValue
  Text : List ℕ → LiteralValue
  Bytes : List ℕ → LiteralValue
  -- the value that is bound to the marker of this number
  Bound : ℕ → LiteralValue

abbrev pub value_of_literal : Literal → LiteralValue
value_of_literal literal.Null = Absent
value_of_literal (literal.Number text) = Number (number_value text)
value_of_literal (literal.Text text) = Text (undoubled text)
value_of_literal (literal.Bytes text) = Bytes (bytes_of_pairs text)
value_of_literal (literal.Marker n) = Bound n
