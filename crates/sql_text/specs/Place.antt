-- Why a text is refused, and where.
use Rattle.std.specs.Prelude.{◌≡◌, ◌⊎◌, ◌≤◌, ◌<◌, ℕ, ◌-◌, List, [], ◌∷◌, ◌++◌, length, Err}
use Rattle.sql_lex.specs.Tokens.{Lexeme, tokens}
use Rattle.sql_text.specs.Grammar.{IsCommandUnder, IsStatement}
use Rattle.sql_text.specs.Reading.{place}
use Rattle.sql_text.specs.Text.{answer}
use Rattle.sql_text.specs.declared.error.SqlError.{SqlError}
use Rattle.sql_text.specs.declared.error.SqlError.TheVariants as error
use Rattle.sql_text.specs.declared.draft.Draft.{Draft}

-- both end, or go on with the same token
abbrev pub SameHead : List Lexeme → List Lexeme → Type 0
SameHead [] [] = Unit {0}
SameHead (l ∷ ts) (m ∷ us) = l.1 ≡ m.1
SameHead _ _ = ⊥

-- no statement's tokens begin with these and then go on as those do, with their first token or their end
abbrev pub IsDead : List Lexeme → List Lexeme → Type 0
IsDead front bad = (more : List Lexeme) (c : Draft) → length (front ++ more) ≤ 32767 → SameHead bad more → IsStatement c (front ++ more) → ⊥

-- and none would, were predicates nested less deep than the number allowed
abbrev pub IsDeadUnder : ℕ → List Lexeme → List Lexeme → Type 0
IsDeadUnder depth front bad = (more : List Lexeme) (c : Draft) → length (front ++ more) ≤ 32767 → SameHead bad more → IsCommandUnder depth c (front ++ more) [] → ⊥

-- the tokens of some statement would begin with these, were predicates nested less deep than the number allowed
abbrev pub BeginsUnder : ℕ → List Lexeme → Type 0
BeginsUnder depth front = (c : Draft) × (more : List Lexeme) × IsCommandUnder depth c (front ++ more) []

-- some statement's tokens begin with these
abbrev pub Begins : List Lexeme → Type 0
Begins front = (c : Draft) × (more : List Lexeme) × IsStatement c (front ++ more)

-- no statement's tokens begin with these
abbrev pub BeginsNone : List Lexeme → Type 0
BeginsNone front = (more : List Lexeme) (c : Draft) → length (front ++ more) ≤ 32767 → IsStatement c (front ++ more) → ⊥

-- at this offset stands the first token, or the end, that no statement can have there: the tokens before it begin a
-- statement, and with it they begin none, nor would they if parentheses and NOTs could be nested 65 deep
abbrev pub IsStuck : List ℕ → ℕ → Type 0
IsStuck text at = (front : List Lexeme) × (bad : List Lexeme) × (tokens text ≡ front ++ bad) × (at ≡ length text - place bad) × Begins front × IsDead front bad × IsDeadUnder 66 front bad

-- the text begins as no statement does, but would begin one if parentheses and NOTs could be nested 65 deep
abbrev pub IsTooDeep : List ℕ → Type 0
IsTooDeep text = (front : List Lexeme) × (rest : List Lexeme) × (tokens text ≡ front ++ rest) × BeginsUnder 66 front × BeginsNone front

-- the text is a statement that is refused so by what is checked behind the grammar
abbrev pub IsRefused : List ℕ → SqlError → Type 0
IsRefused text e = (c : Draft) × IsStatement c (tokens text) × (answer text c ≡ Err e)

abbrev pub Explains : List ℕ → SqlError → Type 0
Explains text (error.SqlText at) = IsRefused text (error.SqlText at) ⊎ IsStuck text at
Explains text error.Limit = (32767 < length text) ⊎ (IsRefused text error.Limit ⊎ IsTooDeep text)
Explains text error.KeyUnknown = IsRefused text error.KeyUnknown
Explains text error.NoMemory = Unit {0}
