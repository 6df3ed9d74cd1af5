-- Tokens of a text. Blanks, tabs and line ends stand between them, or nothing.
use Rattle.std.specs.Prelude.{◌≡◌, ℕ, zero, suc, ◌+◌, ◌-◌, ◌%◌, Bool, true, false, not, ◌&&◌, ◌||◌, if◌then◌else◌, ◌==◌, nat_le, List, [], ◌∷◌, length, take, drop, slice_index, Option, Some, None, find, position}
use Rattle.std.specs.Char.{is_ascii_digit, is_ascii_alphabetic, is_ascii_alphanumeric, is_ascii_hexdigit, eq_ignore_ascii_case}
use Rattle.std.specs.List.{prefix_len, list_all}
use Rattle.std.specs.Str.{str_eq_ignore_ascii_case}
use Rattle.sql_lex.specs.Terminal.{spelling, words}
use Rattle.sql_lex.specs.declared.terminal.Terminal.{Terminal}
use Rattle.sql_lex.specs.declared.terminal.Terminal.TheVariants as w
use Rattle.sql_lex.specs.declared.token.Comparison.TheVariants as is
use Rattle.sql_lex.specs.declared.token.Token.{Token}
use Rattle.sql_lex.specs.declared.token.Token.TheVariants as t

-- a blank, a tab or a line end
abbrev pub is_blank : ℕ → Bool
is_blank b = b == 32 || b == 9 || b == 10 || b == 13

-- a word or a name goes on with letters, digits and '_'
abbrev pub goes_on : ℕ → Bool
goes_on b = is_ascii_alphanumeric b || b == 95

abbrev pub is_spelled : List ℕ → Terminal → Bool
is_spelled text word = str_eq_ignore_ascii_case text (spelling word)

abbrev pub name_by : List ℕ → Option Terminal → Token
name_by text (Some word) = t.Fixed word
name_by text None = if nat_le (length text) 30 then t.Name text else t.Unknown

-- a word of the grammar, or else a name
unfoldable pub named : List ℕ → Token
named text = name_by text (find (is_spelled text) words)

-- how many bytes a text has behind its first quote, up to the quote that ends it; a doubled quote does not end it
abbrev pub closing : Bool → ℕ → List ℕ → Option ℕ
closing is_second at [] = None
closing true at (b ∷ text) = closing false (at + 1) text
closing false at (b ∷ text) = if b == 39 && not (slice_index text 0 == 39) then Some at else closing (b == 39) (at + 1) text

-- a text, by the place of its last quote
abbrev pub quoted_by : List ℕ → Option ℕ → Token × ℕ
quoted_by text None = (t.Unknown, 1)
quoted_by text (Some n) = (t.Text (take n text), n + 2)

abbrev pub is_pairs : List ℕ → Bool
is_pairs text = length text % 2 == 0 && list_all is_ascii_hexdigit text

-- bytes, by the place of their last quote
abbrev pub hexadecimal_by : List ℕ → Option ℕ → Token × ℕ
hexadecimal_by text None = (t.Unknown, 1)
hexadecimal_by text (Some n) = if is_pairs (take n text) then (t.Bytes (take n text), n + 3) else (t.Unknown, 1)

-- a letter begins bytes where it is the word X directly before a quote, and else a word or a name
unfoldable pub lettered : List ℕ → Token × ℕ
lettered text =
    if slice_index text 1 == 39 && eq_ignore_ascii_case (slice_index text 0) 88 then hexadecimal_by (drop 2 text) (position (λ b. b == 39) (drop 2 text))
    else (let n = prefix_len goes_on text in (named (take n text), n))

-- a '-', with the digits that stand directly behind it
abbrev pub minus : List ℕ → Token
minus text = let n = prefix_len is_ascii_digit (drop 1 text) in if n == 0 then t.Minus None else t.Minus (Some (take (n + 1) text))

-- a sign, by its first two bytes
unfoldable pub sign : ℕ → ℕ → Token × ℕ
sign b next =
    if b == 60 then (if next == 61 then (t.Compare is.LessEqual, 2) else (if next == 62 then (t.Compare is.NotEqual, 2) else (t.Compare is.Less, 1)))
    else (if b == 62 then (if next == 61 then (t.Compare is.GreaterEqual, 2) else (t.Compare is.Greater, 1))
    else (if b == 61 then (t.Compare is.Equal, 1)
    else (if b == 40 then (t.Fixed w.Open, 1)
    else (if b == 41 then (t.Fixed w.Close, 1)
    else (if b == 44 then (t.Fixed w.Comma, 1)
    else (if b == 42 then (t.Fixed w.Star, 1)
    else (if b == 43 then (t.Fixed w.Plus, 1) else (t.Unknown, 1))))))))

-- the token at the front, behind so many markers, and how many bytes it takes
unfoldable pub token : ℕ → List ℕ → Token × ℕ
token markers text =
    let b = slice_index text 0 in
    if is_ascii_alphabetic b then lettered text
    else (if is_ascii_digit b then (let n = prefix_len is_ascii_digit text in (t.Number (take n text), n))
    else (if b == 39 then quoted_by (drop 1 text) (closing false 0 (drop 1 text))
    else (if b == 45 then (minus text, 1)
    else (if b == 63 then (t.Marker markers, 1) else sign b (slice_index text 1)))))

-- a token, and how many bytes there are from it on
abbrev pub Lexeme : Type 0
Lexeme = ℕ × Token

-- how many markers stand before what follows a token
abbrev pub counted : Token → ℕ → ℕ
counted (t.Marker _) markers = markers + 1
counted _ markers = markers

-- the first number counts the bytes that are left of a token, the second the markers before it
abbrev pub tokens_from : ℕ → ℕ → List ℕ → List Lexeme
tokens_from left markers [] = []
tokens_from (suc left) markers (b ∷ text) = tokens_from left markers text
tokens_from zero markers (b ∷ text) =
    if is_blank b then tokens_from zero markers text
    else (length (b ∷ text), (token markers (b ∷ text)).0) ∷ tokens_from ((token markers (b ∷ text)).1 - 1) (counted (token markers (b ∷ text)).0 markers) text

-- the tokens of a text, each with its place
unfoldable pub tokens : List ℕ → List Lexeme
tokens text = tokens_from 0 0 text

-- the tokens of what is left of a text behind so many markers
unfoldable pub tokens_ahead : ℕ × List ℕ → List Lexeme
tokens_ahead (markers, text) = tokens_from 0 markers text

-- the next token, how many bytes there are from it on, and what follows it
abbrev pub Next : ℕ × List ℕ → Option (Token × ℕ × (ℕ × List ℕ)) → Type 0
Next cursor None = tokens_ahead cursor ≡ []
Next cursor (Some x) = tokens_ahead cursor ≡ (x.1, x.0) ∷ tokens_ahead x.2
