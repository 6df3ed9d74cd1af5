-- SQLDARD, the description of columns or of parameters (DRDA V5 volume 3, SQLDARD; volume 1, the early data
-- of SQLDAGRP). A parameter is a column without a name that takes NULL.
use Rattle.std.specs.Prelude.{ℕ, ◌+◌, Bool, ◌&&◌, nat_le, List, [], ◌∷◌, ◌++◌, length, replicate, if◌then◌else◌}
use Rattle.std.specs.List.{flat_map, list_all}
use Rattle.std.specs.Int.{w16, w64, to_be_bytes}
use Rattle.ddm_objects.specs.declared.code_point.TheConstants.{SQLDARD}
use Rattle.ddm_objects.specs.Writing.{spelled}
use Rattle.fdoca.specs.Writing.{length_for}
use Rattle.row_values.specs.declared.column.Kind.{Kind}
use Rattle.row_values.specs.declared.column.Kind.TheVariants.{SmallInt, Integer, BigInt, VarChar, VarBinary}
use Rattle.row_values.specs.Column.{Column}
use Rattle.sqlam_replies.specs.Names.{in_encoding}

-- the number of an SQL type; that of the type with NULL is one more
abbrev pub type_number : Kind → ℕ
type_number SmallInt = 500
type_number Integer = 496
type_number BigInt = 492
type_number VarChar = 448
type_number VarBinary = 448

abbrev pub sql_type : Kind → Bool → ℕ
sql_type kind is_nullable = if is_nullable then type_number kind + 1 else type_number kind

-- texts are UTF-8, CCSID 1208
abbrev pub ccsid : Kind → ℕ
ccsid SmallInt = 0
ccsid Integer = 0
ccsid BigInt = 0
ccsid VarChar = 1208
ccsid VarBinary = 0

-- what stands before a name: precision and scale, which no type here has, the length of the values, type,
-- CCSID, no XML type and no array, and the length of the name
abbrev pub before_name : Kind → Bool → ℕ → ℕ → List ℕ
before_name kind is_nullable limit name_length =
    replicate 4 0 ++ to_be_bytes w64 (length_for kind limit) ++ to_be_bytes w16 (sql_type kind is_nullable)
    ++ to_be_bytes w16 (ccsid kind) ++ replicate 3 0 ++ to_be_bytes w16 name_length

-- what stands behind it: five texts that are empty, and no further groups
abbrev pub behind_name : List ℕ
behind_name = replicate 10 0 ++ 0xFF ∷ 0xFF ∷ []

abbrev pub column_group : Bool → Column → List ℕ
column_group unicode c = before_name c.kind c.is_nullable c.limit (length c.name) ++ in_encoding unicode c.name ++ behind_name

-- no SQLCA, no header, and the columns behind their number
abbrev pub sqlda : Bool → List Column → List ℕ
sqlda unicode columns = 0xFF ∷ 0xFF ∷ to_be_bytes w16 (length columns) ++ flat_map (column_group unicode) columns

abbrev pub sqldard : Bool → List Column → List ℕ
sqldard unicode columns = spelled SQLDARD (sqlda unicode columns)

-- what is described at once: at most 128 columns or parameters, with names of at most 30 bytes
abbrev pub are_described : List Column → Bool
are_described columns = nat_le (length columns) 128 && list_all (λ (c : Column). nat_le (length c.name) 30) columns
