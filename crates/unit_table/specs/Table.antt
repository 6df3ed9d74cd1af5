-- The units in the order of their owners. Each has a number, by which its claims are found.
use Rattle.std.specs.Prelude.{◌≡◌, ℕ, zero, suc, ◌==◌, ◌||◌, Bool, true, false, List, [], ◌∷◌, map}
use Rattle.unit_locks.specs.Claim.{Claim}
use Rattle.unit_locks.specs.Claims.{claims_of}
use Rattle.core_model.specs.Units.{Held, Owner, comes_before, same_owner}
use Rattle.core_model.specs.Laws.{AreListed}
use Rattle.unit_table.specs.declared.entry.Entry.{Entry}
use Rattle.unit_table.specs.Owner.{plain_owner}

abbrev pub held_by : List (List Claim) → Entry → Held
held_by claims e = record { owner = plain_owner e.owner; work = record { changes = e.changes; claims = claims_of claims e.number } }

abbrev pub held : List (List Claim) → List Entry → List Held
held claims entries = map (held_by claims) entries

-- ---- numbers

-- some unit has the number
abbrev pub is_given : ℕ → List Entry → Bool
is_given n [] = false
is_given n (e ∷ es) = (e.number == n) || is_given n es

-- no two units have the same
abbrev pub AreNumbered : List Entry → Type 0
AreNumbered [] = Unit {0}
AreNumbered (e ∷ es) = (is_given e.number es ≡ false) × AreNumbered es

-- the number is that of the unit of this owner, if it is listed, and else no unit's
abbrev pub IsNumberOf : Owner → ℕ → List Entry → Type 0
IsNumberOf o n [] = Unit {0}
IsNumberOf o n (e ∷ es) = (same_owner o (plain_owner e.owner) ≡ (e.number == n)) × IsNumberOf o n es

-- ---- the table

pub record AreKept (entries : List Entry) (claims : List (List Claim)) : Type 0 where
  pub listed : AreListed (held claims entries)
  pub numbered : AreNumbered entries
  -- the number of those that have no work
  pub nobody : is_given 65535 entries ≡ false
  pub free : (n : ℕ) → is_given n entries ≡ false → claims_of claims n ≡ []

-- ---- places

-- the unit of the owner stands there, behind those of owners that come first
abbrev pub IsAt : Owner → List Entry → ℕ → Type 0
IsAt o [] i = ⊥
IsAt o (e ∷ es) zero = same_owner o (plain_owner e.owner) ≡ true
IsAt o (e ∷ es) (suc i) = (same_owner o (plain_owner e.owner) ≡ false) × (comes_before o (plain_owner e.owner) ≡ false) × IsAt o es i

-- the owner has no unit, and one of it would stand there
abbrev pub IsGapFor : Owner → List Entry → ℕ → Type 0
IsGapFor o [] zero = Unit {0}
IsGapFor o [] (suc i) = ⊥
IsGapFor o (e ∷ es) zero = (same_owner o (plain_owner e.owner) ≡ false) × (comes_before o (plain_owner e.owner) ≡ true)
IsGapFor o (e ∷ es) (suc i) = (same_owner o (plain_owner e.owner) ≡ false) × (comes_before o (plain_owner e.owner) ≡ false) × IsGapFor o es i
