-- SQLCARD, the SQL communications area (DRDA V5 volume 3, SQLCARD; volume 1, the early data of SQLCAGRP).
use Rattle.std.specs.Prelude.{ℕ, ℤ, List, [], ◌∷◌, ◌++◌, codes, replicate}
use Rattle.std.specs.Int.{w32, to_be_bytes, cast_unsigned}
use Rattle.ddm_objects.specs.declared.code_point.TheConstants.{SQLCARD}
use Rattle.ddm_objects.specs.Writing.{spelled}

-- six numbers of which the third is the count of rows
abbrev pub sqlerrd : ℕ → List ℕ
sqlerrd count = replicate 8 0 ++ to_be_bytes w32 count ++ replicate 12 0

-- SQLCODE, SQLSTATE and who answers; then, behind 00, SQLERRD, the eleven warnings, all blank, three texts
-- that are empty, and no diagnostics
abbrev pub sqlca : ℤ → List ℕ → ℕ → List ℕ
sqlca code state count =
    0x00 ∷ to_be_bytes w32 (cast_unsigned w32 code) ++ state ++ codes "RDA01000"
    ++ 0x00 ∷ sqlerrd count ++ replicate 11 0x20 ++ replicate 6 0 ++ 0xFF ∷ []

abbrev pub sqlcard : ℤ → List ℕ → ℕ → List ℕ
sqlcard code state count = spelled SQLCARD (sqlca code state count)

-- nothing is to be reported
abbrev pub null_sqlcard : List ℕ
null_sqlcard = spelled SQLCARD (0xFF ∷ [])
