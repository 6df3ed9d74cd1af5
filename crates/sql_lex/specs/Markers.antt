-- The markers of a text, and their numbers.
use Rattle.std.specs.Prelude.{◌≡◌, ℕ, ◌+◌, List, [], ◌∷◌}
use Rattle.sql_lex.specs.Tokens.{Lexeme, tokens_ahead, counted}
use Rattle.sql_lex.specs.declared.token.Token.{Token}
use Rattle.sql_lex.specs.declared.token.Token.TheVariants as t

-- how many markers these tokens have
abbrev pub markers_in : List Lexeme → ℕ
markers_in [] = 0
markers_in (l ∷ ts) = counted l.1 (markers_in ts)

-- how many markers the text of a cursor has: those before it, and those to come
unfoldable pub markers_of : ℕ × List ℕ → ℕ
markers_of cursor = cursor.0 + markers_in (tokens_ahead cursor)

-- a marker has this number
abbrev pub HasNumber : ℕ → Token → Type 0
HasNumber n (t.Marker before) = before ≡ n
HasNumber n _ = Unit {0}

-- markers are numbered in the order of the text, the first of these by n
abbrev pub AreNumbered : ℕ → List Lexeme → Type 0
AreNumbered n [] = Unit {0}
AreNumbered n (l ∷ ts) = HasNumber n l.1 × AreNumbered (counted l.1 n) ts
