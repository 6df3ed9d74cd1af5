-- The bytes of schemas.
use Rattle.std.specs.Prelude.{◌≡◌, ℕ, zero, suc, Bool, true, false, List, [], ◌∷◌, ◌++◌, length, take, Option, Some, None, Result, Ok, Err, ◌==◌, if◌then◌else◌, option_map}
use Rattle.std.specs.Option.{option_and_then}
use Rattle.std.specs.List.{flat_map}
use Rattle.byteorder.specs.Endian.{big_bytes, big_number}
use Rattle.row_values.specs.declared.column.Kind.{Kind}
use Rattle.row_values.specs.declared.column.Kind.TheVariants.{SmallInt, Integer, BigInt, VarChar, VarBinary}
use Rattle.row_values.specs.declared.row.ReadError.{ReadError}
use Rattle.row_values.specs.declared.row.ReadError.TheVariants.{Damaged as DamagedError, NoMemory as NoMemoryError}
use Rattle.row_values.specs.Column.{Column}
use Rattle.row_values.specs.Schema.{Schema, is_name, is_schema}
use Rattle.row_values.specs.Row.{front_of}

-- what a reader says by an error: that no value stands there, or want of memory, which may come in
-- place of any answer
abbrev pub Fails : {V : Type 0} → ReadError → Option V → Type 0
Fails DamagedError value = value ≡ None
Fails NoMemoryError value = Unit {0}

-- what a reader answers: the value that stands there
abbrev pub Reads : {X V : Type 0} → (X → V) → Result X ReadError → Option V → Type 0
Reads view (Ok x) value = value ≡ Some (view x)
Reads view (Err error) value = Fails error value

-- ---- the bytes

-- what was there stands in front
abbrev pub Keeps : List ℕ → List ℕ → Type 0
Keeps before after = take (length before) after ≡ before

-- a name behind its length
abbrev pub named : List ℕ → List ℕ
named name = length name ∷ name

abbrev pub code_of : Kind → ℕ
code_of SmallInt = 1
code_of Integer = 2
code_of BigInt = 3
code_of VarChar = 4
code_of VarBinary = 5

abbrev pub flag_of : Bool → ℕ
flag_of true = 1
flag_of false = 0

-- name, type, whether it takes NULL, length
abbrev pub column_bytes : Column → List ℕ
column_bytes c = named c.name ++ code_of c.kind ∷ flag_of c.is_nullable ∷ big_bytes 2 c.limit

-- the columns behind their number, and the places of the key behind theirs
abbrev pub schema_bytes : Schema → List ℕ
schema_bytes s = length s.columns ∷ flat_map column_bytes s.columns ++ length s.key ∷ s.key

-- ---- what stands in front of bytes, with what follows

abbrev pub named_at : List ℕ → Option (List ℕ × List ℕ)
named_at [] = None
named_at (count ∷ bytes) = front_of count bytes

-- the bytes, where they are a name
unfoldable pub name_in : List ℕ → Option (List ℕ)
name_in bytes = if is_name bytes then Some bytes else None

-- a name behind its length
abbrev pub name_at : List ℕ → Option (List ℕ × List ℕ)
name_at bytes = option_and_then (λ (x : List ℕ × List ℕ). option_map (λ (name : List ℕ). (name, x.1)) (name_in x.0)) (named_at bytes)

abbrev pub kind_at : ℕ → Option Kind
kind_at code = if code == 1 then Some SmallInt else (if code == 2 then Some Integer else (if code == 3 then Some BigInt
    else (if code == 4 then Some VarChar else (if code == 5 then Some VarBinary else None))))

abbrev pub flag_at : ℕ → Option Bool
flag_at byte = if byte == 0 then Some false else (if byte == 1 then Some true else None)

-- a column behind its name
abbrev pub column_after : List ℕ → List ℕ → Option (Column × List ℕ)
column_after name (code ∷ flag ∷ high ∷ low ∷ rest) = option_and_then (λ kind. option_map (λ nullable. (record { name = name; kind = kind; is_nullable = nullable; limit = big_number 2 (high ∷ low ∷ []) }, rest)) (flag_at flag)) (kind_at code)
column_after name bytes = None

unfoldable pub column_at : List ℕ → Option (Column × List ℕ)
column_at bytes = option_and_then (λ (x : List ℕ × List ℕ). column_after x.0 x.1) (name_at bytes)

-- n columns
abbrev pub columns_at : ℕ → List ℕ → Option (List Column × List ℕ)
columns_at zero bytes = Some ([], bytes)
columns_at (suc n) bytes = option_and_then (λ (x : Column × List ℕ). option_map (λ (y : List Column × List ℕ). (x.0 ∷ y.0, y.1)) (columns_at n x.1)) (column_at bytes)

-- the columns and the key behind the number of columns, whether or not they are a schema
abbrev pub parts_after : ℕ → List ℕ → Option (Schema × List ℕ)
parts_after count bytes = option_and_then (λ (x : List Column × List ℕ). option_map (λ (y : List ℕ × List ℕ). (record { columns = x.0; key = y.0 }, y.1)) (named_at x.1)) (columns_at count bytes)

abbrev pub parts_at : List ℕ → Option (Schema × List ℕ)
parts_at [] = None
parts_at (count ∷ bytes) = parts_after count bytes

unfoldable pub schema_at : List ℕ → Option (Schema × List ℕ)
schema_at bytes = option_and_then (λ (x : Schema × List ℕ). if is_schema x.0 then Some x else None) (parts_at bytes)
