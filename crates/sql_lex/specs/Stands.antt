-- Each part that a token has is a slice of the text.
use Rattle.std.specs.Prelude.{ℕ, ◌+◌, ◌-◌, ◌≤◌, List, [], ◌∷◌, length, drop, Some}
use Rattle.drda_words.specs.Place.{StandsAt}
use Rattle.sql_lex.specs.Tokens.{Lexeme}
use Rattle.sql_lex.specs.declared.token.Token.{Token}
use Rattle.sql_lex.specs.declared.token.Token.TheVariants as t

-- a name, a number, and a '-' with its number stand where their token does; a text stands behind its
-- quote, and bytes behind their X and quote
abbrev pub StandsIn : List ℕ → ℕ → Token → Type 0
StandsIn text at (t.Name bytes) = StandsAt text at bytes
StandsIn text at (t.Number bytes) = StandsAt text at bytes
StandsIn text at (t.Minus (Some bytes)) = StandsAt text at bytes
StandsIn text at (t.Text bytes) = StandsAt text (at + 1) bytes
StandsIn text at (t.Bytes bytes) = StandsAt text (at + 2) bytes
StandsIn text at _ = Unit {0}

abbrev pub Stands : List ℕ → Lexeme → Type 0
Stands text l = StandsIn text (length text - l.0) l.1

abbrev pub AllStand : List ℕ → List Lexeme → Type 0
AllStand text [] = Unit {0}
AllStand text (l ∷ ts) = Stands text l × AllStand text ts

-- how many bytes of a text there are from the first of these tokens on
abbrev pub ahead_of : List Lexeme → ℕ
ahead_of [] = 0
ahead_of (l ∷ ts) = l.0

-- how many bytes there are from a token to the end of its part
abbrev pub reach : Token → ℕ
reach (t.Name bytes) = length bytes
reach (t.Number bytes) = length bytes
reach (t.Text bytes) = length bytes + 1
reach (t.Bytes bytes) = length bytes + 2
reach _ = 0

-- the number of a '-' has the digits of the token behind it
abbrev pub reach_over : Token → ℕ
reach_over (t.Minus (Some bytes)) = length bytes
reach_over _ = 0

-- each token begins where the part of the one before has ended, and the next but one where the number of a '-' has
abbrev pub AreApart : List Lexeme → Type 0
AreApart [] = Unit {0}
AreApart (l ∷ ts) = (ahead_of ts + reach l.1 ≤ l.0) × (ahead_of (drop 1 ts) + reach_over l.1 ≤ l.0) × AreApart ts

-- the tokens of a text lie in it, one behind the other
abbrev pub LieApart : List ℕ → List Lexeme → Type 0
LieApart text ts = (ahead_of ts ≤ length text) × AreApart ts
