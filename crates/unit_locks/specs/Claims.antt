-- The claims of units, and whether a claim clashes with those of another unit.
use Rattle.std.specs.Prelude.{◌≡◌, ◌≢◌, ◌⊎◌, ℕ, Bool, true, false, List, [], ◌∷◌, ◌++◌, if◌then◌else◌}
use Rattle.std.specs.List.{list_any}
use Rattle.std.specs.Str.{bytes_eq}
use Rattle.unit_locks.specs.Claim.{Claim, claim_bytes}
use Rattle.unit_locks.specs.Clash.{clash}
use Rattle.unit_locks.specs.Lists.{row_at}

-- a unit's claims, in the order in which it first made them: those at its place
abbrev pub claims_of : List (List Claim) → ℕ → List Claim
claims_of units unit = row_at units unit

abbrev pub ClaimsOf : Type 0
ClaimsOf = ℕ → List Claim

-- another unit has a claim that clashes with this one: every pair is compared
pub record ClashesWith (claims : ClaimsOf) (unit : ℕ) (claim : Claim) (other : ℕ) : Type 0 where
  pub another : other ≢ unit
  pub clashes : list_any (clash claim) (claims other) ≡ true

-- no other unit has one
abbrev pub ClashesWithNone : ClaimsOf → ℕ → Claim → Type 0
ClashesWithNone claims unit claim = (other : ℕ) → other ≢ unit → list_any (clash claim) (claims other) ≡ false

-- ---- a claim more

-- two claims are the same, which their bytes tell
abbrev pub is_same : Claim → Claim → Bool
is_same c d = bytes_eq (claim_bytes c) (claim_bytes d)

-- the claim is among these
abbrev pub has : List Claim → Claim → Bool
has claims claim = list_any (is_same claim) claims

-- a claim is added behind the others, where it is not among them already
abbrev pub added : List Claim → Claim → List Claim
added claims claim = if has claims claim then claims else claims ++ claim ∷ []

-- the claims of a statement, one after the other
abbrev pub all_added : List Claim → List Claim → List Claim
all_added claims [] = claims
all_added claims (claim ∷ more) = all_added (added claims claim) more

abbrev pub In : Claim → List Claim → Type 0
In claim [] = ⊥
In claim (c ∷ claims) = (claim ≡ c) ⊎ In claim claims

-- no claim stands in a list twice
abbrev pub AreDistinct : List Claim → Type 0
AreDistinct [] = Unit {0}
AreDistinct (c ∷ claims) = (In c claims → ⊥) × AreDistinct claims

-- all that is in a list after more were added: what was in it, what was added, and nothing else
pub record AddsClaims : Type 0 where
  pub old : (c : Claim) (claims more : List Claim) → In c claims → In c (all_added claims more)
  pub new : (c : Claim) (claims more : List Claim) → In c more → In c (all_added claims more)
  pub only : (c : Claim) (claims more : List Claim) → In c (all_added claims more) → In c claims ⊎ In c more
  pub once : (claims more : List Claim) → AreDistinct claims → AreDistinct (all_added claims more)
  pub tells : (c : Claim) (claims : List Claim) → has claims c ≡ true → In c claims
