-- Objects and lists of objects. DRDA V5 volume 3 (DDM), OBJECT and "Data Stream Structures".
use Rattle.std.specs.Prelude.{◌≡◌, ℕ, ◌+◌, ◌<◌, ◌^◌, List, [], ◌∷◌, ◌++◌, length}
use Rattle.std.specs.Int.{bytes_high_first}

-- a code point, which says what the object is, and its data
pub record Obj : Type 0 where
  pub code : ℕ
  pub value : List ℕ

-- How an object's length is spelled: in the two bytes before its code point, which count themselves, the
-- code point and the data; or, with their high bit on, in 4, 6 or 8 bytes behind the code point, which
-- count the data alone.
pub data Form : Type 0 where
  Plain : Form
  Extended4 : Form
  Extended6 : Form
  Extended8 : Form

-- what stands before the data of an object: its length and its code point
abbrev pub heading : Form → ℕ → ℕ → List ℕ
heading Plain code size = bytes_high_first 2 (size + 4) ++ bytes_high_first 2 code
heading Extended4 code size = bytes_high_first 2 0x8008 ++ bytes_high_first 2 code ++ bytes_high_first 4 size
heading Extended6 code size = bytes_high_first 2 0x800A ++ bytes_high_first 2 code ++ bytes_high_first 6 size
heading Extended8 code size = bytes_high_first 2 0x800C ++ bytes_high_first 2 code ++ bytes_high_first 8 size

-- the sizes of data that a form has room for
abbrev pub HasRoom : Form → ℕ → Type 0
HasRoom Plain size = size + 4 < 2 ^ 15
HasRoom Extended4 size = size < 2 ^ 32
HasRoom Extended6 size = size < 2 ^ 48
HasRoom Extended8 size = size < 2 ^ 64

-- the bytes are the object, in one of the forms
pub record IsObject (bytes : List ℕ) (o : Obj) : Type 0 where
  pub form : Form
  pub code_fits : o.code < 2 ^ 16
  pub size_fits : HasRoom form (length o.value)
  pub spelled : bytes ≡ heading form o.code (length o.value) ++ o.value

-- the bytes begin with these objects, one after the other, and go on with the rest
abbrev pub Begins : List ℕ → List Obj → List ℕ → Type 0
Begins bytes [] rest = bytes ≡ rest
Begins bytes (o ∷ os) rest = (front : List ℕ) × (after : List ℕ) × IsObject front o × (bytes ≡ front ++ after) × Begins after os rest

-- the bytes are these objects and nothing else
abbrev pub AreObjects : List ℕ → List Obj → Type 0
AreObjects bytes objects = Begins bytes objects []
