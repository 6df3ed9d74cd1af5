-- Descriptors: the fields of a row, in triplets (DRDA V5 volume 2, "Group Data Array"; volume 3, FDODSC).
use Rattle.std.specs.Prelude.{◌≡◌, ℕ, ◌+◌, List, [], ◌∷◌, ◌++◌, length, Some}
use Rattle.drda_words.specs.Number.{word}
use Rattle.fdoca.specs.declared.field.Field.{Field}
use Rattle.fdoca.specs.Types.{field_of}

-- the bytes are these fields: of each its type's number and its length in two bytes
abbrev pub AreFields : List ℕ → List Field → Type 0
AreFields [] [] = Unit {0}
AreFields (number ∷ high ∷ low ∷ bytes) (field ∷ fields) = (field_of number (word high low) ≡ Some field) × AreFields bytes fields
AreFields bytes fields = ⊥

-- The bytes are a triplet with these fields: its length, which counts itself, what it is, its identity,
-- and the fields, three bytes each. A length is a byte, so a triplet has at most 84.
abbrev pub IsTriplet : ℕ → ℕ → List ℕ → List Field → Type 0
IsTriplet what identity bytes fields =
    (text : List ℕ) × (bytes ≡ (3 + length text) ∷ what ∷ identity ∷ text) × AreFields text fields

-- the bytes are triplets that continue a first one, one after the other, with these fields
abbrev pub AreContinued : List ℕ → List (List Field) → Type 0
AreContinued bytes [] = bytes ≡ []
AreContinued bytes (fields ∷ others) =
    (front rest : List ℕ) × (identity : ℕ) × (bytes ≡ front ++ rest) × IsTriplet 0x7F identity front fields × AreContinued rest others

-- all of these, in order
abbrev pub joined : List (List Field) → List Field
joined [] = []
joined (fields ∷ others) = fields ++ joined others

-- the triplet that ends the description of a row: one row with the fields before
abbrev pub closing : List ℕ
closing = 0x06 ∷ 0x71 ∷ 0xE4 ∷ 0xD0 ∷ 0x00 ∷ 0x01 ∷ []

-- The bytes describe rows of these fields: a first triplet, others that continue it, and the closing one.
-- What stands behind that is not looked at.
abbrev pub Describes : List ℕ → List Field → Type 0
Describes bytes fields =
    (first continued behind : List ℕ) × (here : List Field) × (others : List (List Field))
    × (bytes ≡ first ++ (continued ++ (closing ++ behind)))
    × IsTriplet 0x76 0xD0 first here
    × AreContinued continued others
    × (fields ≡ here ++ joined others)
