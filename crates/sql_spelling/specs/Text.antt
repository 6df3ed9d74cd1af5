-- Values, tables and rows as SQL texts.
use Rattle.std.specs.Prelude.{ℕ, Bool, true, false, List, [], ◌∷◌, ◌++◌, codes}
use Rattle.std.specs.Fmt.{decimal, signed_decimal}
use Rattle.std.specs.List.{flat_map}
use Rattle.sql_lex.specs.Spelling.{doubled}
use Rattle.sql_text.specs.Spelled.{pairs_of}
use Rattle.row_values.specs.declared.column.Kind.{Kind}
use Rattle.row_values.specs.declared.column.Kind.TheVariants.{SmallInt, Integer, BigInt, VarChar, VarBinary}
use Rattle.row_values.specs.Value.{Value, null, number, text, binary}
use Rattle.row_values.specs.Column.{Column}
use Rattle.row_values.specs.Schema.{Schema, key_columns}

-- ---- values

-- a text stands in quotes, with each quote in it twice; bytes are pairs of hexadecimal digits in quotes behind an X
abbrev pub value_text : Value → List ℕ
value_text null = codes "NULL"
value_text (number n) = signed_decimal n
value_text (text bytes) = 39 ∷ (doubled bytes ++ 39 ∷ [])
value_text (binary bytes) = 88 ∷ 39 ∷ (pairs_of bytes ++ 39 ∷ [])

-- these one behind another, with a comma and a blank between
abbrev pub separated : {A : Type 0} → (A → List ℕ) → List A → List ℕ
separated f [] = []
separated f (x ∷ xs) = f x ++ flat_map (λ y. 44 ∷ 32 ∷ f y) xs

-- ---- columns

-- a length in parentheses
abbrev pub length_text : ℕ → List ℕ
length_text n = 40 ∷ (decimal n ++ 41 ∷ [])

abbrev pub type_text : Kind → ℕ → List ℕ
type_text SmallInt n = codes "SMALLINT"
type_text Integer n = codes "INTEGER"
type_text BigInt n = codes "BIGINT"
type_text VarChar n = codes "VARCHAR" ++ length_text n
type_text VarBinary n = codes "VARBINARY" ++ length_text n

abbrev pub null_text : Bool → List ℕ
null_text true = []
null_text false = codes " NOT NULL"

abbrev pub column_text : Column → List ℕ
column_text c = c.name ++ 32 ∷ (type_text c.kind c.limit ++ null_text c.is_nullable)

-- ---- statements

-- the CREATE TABLE of a table
unfoldable pub create_text : List ℕ → Schema → List ℕ
create_text name schema =
    codes "CREATE TABLE " ++ (name ++ (codes " (" ++ (separated column_text schema.columns
    ++ (codes ", PRIMARY KEY (" ++ (separated (λ c. c.name) (key_columns schema) ++ codes "))")))))

-- the INSERT of a row
unfoldable pub insert_text : List ℕ → List Value → List ℕ
insert_text name values = codes "INSERT INTO " ++ (name ++ (codes " VALUES (" ++ (separated value_text values ++ codes ")")))
