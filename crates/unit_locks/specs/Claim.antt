-- What a unit claims of a table, and the bytes of it: in a Prepare record each claim is its access (00
-- read, 01 write), the table's name behind a length of one byte, and its scope: 00 for all of the table,
-- or 01 and the key behind a length of two bytes, the high one first.
use Rattle.std.specs.Prelude.{◌≡◌, ◌≤◌, ◌<◌, ℕ, ◌+◌, ◌^◌, ◌==◌, List, [], ◌∷◌, ◌++◌, length, take, drop, nat_le, nat_lt, ◌&&◌, Option, Some, None, if◌then◌else◌, option_map}
use Rattle.std.specs.Int.{w16, to_be_bytes}
use Rattle.drda_words.specs.Number.{word}
use Rattle.unit_locks.specs.declared.access.Access.{Access}
use Rattle.unit_locks.specs.declared.access.Access.TheVariants.{Read, Write}

-- the key is None where the claim is of all of the table
pub record Claim : Type 0 where
  pub access : Access
  pub table : List ℕ
  pub key : Option (List ℕ)

-- the key's bytes, none where there is no key
abbrev pub key_or_empty : Option (List ℕ) → List ℕ
key_or_empty None = []
key_or_empty (Some key) = key

-- a claim whose name and key are short enough for their lengths
pub record IsClaim (c : Claim) : Type 0 where
  pub name : length c.table < 2 ^ 8
  pub key : length (key_or_empty c.key) < 2 ^ 16

-- ---- its bytes

abbrev pub mode_of : Access → ℕ
mode_of Read = 0
mode_of Write = 1

abbrev pub scope_bytes : Option (List ℕ) → List ℕ
scope_bytes None = 0 ∷ []
scope_bytes (Some key) = 1 ∷ (to_be_bytes w16 (length key) ++ key)

abbrev pub claim_bytes : Claim → List ℕ
claim_bytes c = mode_of c.access ∷ length c.table ∷ (c.table ++ scope_bytes c.key)

-- bytes begin with one claim at most
abbrev pub OneReading : Type 0
OneReading = (c d : Claim) (rest more : List ℕ) → IsClaim c → IsClaim d → claim_bytes c ++ rest ≡ claim_bytes d ++ more → (c ≡ d) × (rest ≡ more)

-- ---- the claim of its bytes

abbrev pub access_of : ℕ → Access
access_of mode = if mode == 0 then Read else Write

abbrev pub key_of : List ℕ → Option (List ℕ)
key_of (mark ∷ high ∷ low ∷ key) = Some key
key_of scope = None

abbrev pub claim_of : List ℕ → Claim
claim_of (mode ∷ count ∷ rest) = record { access = access_of mode; table = take count rest; key = key_of (drop count rest) }
claim_of bytes = record { access = Read; table = []; key = None }

abbrev pub key_length_at : List ℕ → Option ℕ
key_length_at (high ∷ low ∷ rest) = if nat_le (word high low) (length rest) then Some (3 + word high low) else None
key_length_at bytes = None

-- how many bytes the scope has that stands in front
abbrev pub scope_length_at : List ℕ → Option ℕ
scope_length_at [] = None
scope_length_at (mark ∷ rest) = if mark == 0 then Some 1 else (if mark == 1 then key_length_at rest else None)

-- how many bytes the claim has that stands in front
abbrev pub length_at : List ℕ → Option ℕ
length_at (mode ∷ count ∷ rest) = if nat_le mode 1 && nat_le count (length rest) then option_map (λ n. 2 + count + n) (scope_length_at (drop count rest)) else None
length_at bytes = None
