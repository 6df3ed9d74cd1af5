-- Tokens of one fixed spelling.
use Rattle.std.specs.Prelude.{ℕ, Bool, ◌==◌, List, [], ◌∷◌, codes}
use Rattle.sql_lex.specs.declared.terminal.Terminal.{Terminal}
use Rattle.sql_lex.specs.declared.terminal.Terminal.TheVariants as w

-- the bytes of each, letters as capitals
abbrev pub spelling : Terminal → List ℕ
spelling w.Create = codes "CREATE"
spelling w.Table = codes "TABLE"
spelling w.Primary = codes "PRIMARY"
spelling w.Key = codes "KEY"
spelling w.Not = codes "NOT"
spelling w.Null = codes "NULL"
spelling w.SmallInt = codes "SMALLINT"
spelling w.Integer = codes "INTEGER"
spelling w.Int = codes "INT"
spelling w.BigInt = codes "BIGINT"
spelling w.VarChar = codes "VARCHAR"
spelling w.VarBinary = codes "VARBINARY"
spelling w.Insert = codes "INSERT"
spelling w.Into = codes "INTO"
spelling w.Values = codes "VALUES"
spelling w.Update = codes "UPDATE"
spelling w.Set = codes "SET"
spelling w.Where = codes "WHERE"
spelling w.Delete = codes "DELETE"
spelling w.From = codes "FROM"
spelling w.Select = codes "SELECT"
spelling w.Or = codes "OR"
spelling w.And = codes "AND"
spelling w.Is = codes "IS"
spelling w.Open = codes "("
spelling w.Close = codes ")"
spelling w.Comma = codes ","
spelling w.Star = codes "*"
spelling w.Plus = codes "+"

-- the words of the grammar
unfoldable pub words : List Terminal
words = w.Create ∷ w.Table ∷ w.Primary ∷ w.Key ∷ w.Not ∷ w.Null ∷ w.SmallInt ∷ w.Integer ∷ w.Int ∷ w.BigInt ∷ w.VarChar ∷ w.VarBinary ∷ w.Insert ∷ w.Into ∷ w.Values ∷ w.Update ∷ w.Set ∷ w.Where ∷ w.Delete ∷ w.From ∷ w.Select ∷ w.Or ∷ w.And ∷ w.Is ∷ []

-- a number for each
abbrev pub number : Terminal → ℕ
number w.Create = 0
number w.Table = 1
number w.Primary = 2
number w.Key = 3
number w.Not = 4
number w.Null = 5
number w.SmallInt = 6
number w.Integer = 7
number w.Int = 8
number w.BigInt = 9
number w.VarChar = 10
number w.VarBinary = 11
number w.Insert = 12
number w.Into = 13
number w.Values = 14
number w.Update = 15
number w.Set = 16
number w.Where = 17
number w.Delete = 18
number w.From = 19
number w.Select = 20
number w.Or = 21
number w.And = 22
number w.Is = 23
number w.Open = 24
number w.Close = 25
number w.Comma = 26
number w.Star = 27
number w.Plus = 28

-- whether two are the same
unfoldable pub is_same : Terminal → Terminal → Bool
is_same a b = number a == number b
