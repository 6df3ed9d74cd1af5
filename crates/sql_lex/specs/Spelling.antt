-- How each token is spelled, in plain words.
use Rattle.std.specs.Prelude.{◌≡◌, ◌≢◌, ◌⊎◌, ◌≤◌, ℕ, ◌-◌, ◌%◌, ◌==◌, false, true, if◌then◌else◌, List, [], ◌∷◌, ◌++◌, length, drop, map, slice_index, None, Some, codes}
use Rattle.std.specs.Char.{is_ascii_alphabetic, is_ascii_digit, is_ascii_hexdigit, to_ascii_uppercase}
use Rattle.std.specs.List.{list_all}
use Rattle.std.specs.Str.{IsUtf8}
use Rattle.sql_lex.specs.Terminal.{spelling}
use Rattle.sql_lex.specs.Tokens.{Lexeme, goes_on}
use Rattle.sql_lex.specs.declared.terminal.Terminal.{Terminal}
use Rattle.sql_lex.specs.declared.token.Comparison.{Comparison}
use Rattle.sql_lex.specs.declared.token.Comparison.TheVariants as is
use Rattle.sql_lex.specs.declared.token.Token.{Token}
use Rattle.sql_lex.specs.declared.token.Token.TheVariants as t

abbrev pub capitals : List ℕ → List ℕ
capitals = map to_ascii_uppercase

-- a letter, then letters, digits and '_': at most 30 bytes, and no word of the grammar in letters of either case
abbrev pub IsName : List ℕ → Type 0
IsName n = (is_ascii_alphabetic (slice_index n 0) ≡ true) × (list_all goes_on n ≡ true) × (length n ≤ 30) × ((w : Terminal) → capitals n ≢ spelling w)

-- one digit or more
abbrev pub AreDigits : List ℕ → Type 0
AreDigits n = (1 ≤ length n) × (list_all is_ascii_digit n ≡ true)

-- pairs of hexadecimal digits
abbrev pub ArePairs : List ℕ → Type 0
ArePairs text = (length text % 2 ≡ 0) × (list_all is_ascii_hexdigit text ≡ true)

-- with each quote twice
abbrev pub doubled : List ℕ → List ℕ
doubled [] = []
doubled (b ∷ text) = if b == 39 then 39 ∷ 39 ∷ doubled text else b ∷ doubled text

abbrev pub sign_of : Comparison → List ℕ
sign_of is.Equal = codes "="
sign_of is.NotEqual = codes "<>"
sign_of is.Less = codes "<"
sign_of is.LessEqual = codes "<="
sign_of is.Greater = codes ">"
sign_of is.GreaterEqual = codes ">="

-- a byte that makes another sign of this one
abbrev pub Lengthens : Comparison → ℕ → Type 0
Lengthens is.Less b = (b ≡ 61) ⊎ (b ≡ 62)
Lengthens is.Greater b = b ≡ 61
Lengthens _ b = ⊥

-- a text from a token on: the token, with all the bytes that go on with it
abbrev pub IsSpelled : List ℕ → Token → Type 0
IsSpelled text (t.Fixed w) =
    (word : List ℕ) × (rest : List ℕ) × (text ≡ word ++ rest) × (capitals word ≡ spelling w) × (is_ascii_alphabetic (slice_index word 0) ≡ true → goes_on (slice_index rest 0) ≡ false)
IsSpelled text (t.Compare c) = (rest : List ℕ) × (text ≡ sign_of c ++ rest) × (Lengthens c (slice_index rest 0) → ⊥)
IsSpelled text (t.Minus None) = (rest : List ℕ) × (text ≡ 45 ∷ rest) × (is_ascii_digit (slice_index rest 0) ≡ false)
IsSpelled text (t.Minus (Some n)) = (digits : List ℕ) × (rest : List ℕ) × (n ≡ 45 ∷ digits) × AreDigits digits × (text ≡ n ++ rest) × (is_ascii_digit (slice_index rest 0) ≡ false)
IsSpelled text (t.Marker before) = (rest : List ℕ) × (text ≡ 63 ∷ rest)
IsSpelled text (t.Name n) = (rest : List ℕ) × (text ≡ n ++ rest) × (goes_on (slice_index rest 0) ≡ false) × IsName n
IsSpelled text (t.Number n) = (rest : List ℕ) × (text ≡ n ++ rest) × (is_ascii_digit (slice_index rest 0) ≡ false) × AreDigits n
IsSpelled text (t.Text v) = (whole : List ℕ) × (rest : List ℕ) × (v ≡ doubled whole) × (text ≡ 39 ∷ (v ++ 39 ∷ rest)) × (slice_index rest 0 ≢ 39)
IsSpelled text (t.Bytes v) = (x : ℕ) × (rest : List ℕ) × (to_ascii_uppercase x ≡ 88) × (text ≡ x ∷ 39 ∷ (v ++ 39 ∷ rest)) × ArePairs v
IsSpelled text t.Unknown = Unit {0}

abbrev pub AllSpelled : List ℕ → List Lexeme → Type 0
AllSpelled text [] = Unit {0}
AllSpelled text (l ∷ ts) = IsSpelled (drop (length text - l.0) text) l.1 × AllSpelled text ts

-- a text is UTF-8
abbrev pub IsReadable : Token → Type 0
IsReadable (t.Text v) = IsUtf8 v
IsReadable _ = Unit {0}

abbrev pub AllReadable : List Lexeme → Type 0
AllReadable [] = Unit {0}
AllReadable (l ∷ ts) = IsReadable l.1 × AllReadable ts
