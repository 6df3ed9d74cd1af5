-- How the claims of units are found by what they claim. Places stand in buckets by a hash of table and
-- key, and for each unit, table and access it is counted how many claims the unit has.
use Rattle.std.specs.Prelude.{◌≡◌, ℕ, ◌+◌, ◌-◌, ◌*◌, ◌%◌, ◌^◌, ◌==◌, Bool, true, false, not, ◌&&◌, ◌||◌, nat_lt, List, [], ◌∷◌, length, fold, Option, Some, None, slice_get, if◌then◌else◌}
use Rattle.std.specs.Global.{Vec}
use Rattle.std.specs.List.{list_any}
use Rattle.std.specs.Str.{bytes_eq}
use Rattle.unit_locks.specs.declared.access.Access.{Access}
use Rattle.unit_locks.specs.declared.access.Access.TheVariants.{Read, Write}
use Rattle.unit_locks.specs.declared.place.Place.{Place}
use Rattle.unit_locks.specs.declared.holder.Holder.{Holder}
use Rattle.unit_locks.specs.Claim.{Claim}
use Rattle.unit_locks.specs.Clash.{clash, is_write}
use Rattle.unit_locks.specs.Claims.{ClaimsOf, is_same}
use Rattle.unit_locks.specs.Lists.{list_at}

-- ---- hashes

-- a byte more
abbrev pub mixed : ℕ → ℕ → ℕ
mixed hash byte = (hash * 2654435761 % 2 ^ 32 + byte) % 2 ^ 32

unfoldable pub hash_on : ℕ → List ℕ → ℕ
hash_on hash bytes = fold mixed hash bytes

-- the hash of a table's name, and of what is claimed of a table whose name has this hash
abbrev pub table_hash : List ℕ → ℕ
table_hash table = hash_on 0 table

abbrev pub scope_hash : ℕ → Option (List ℕ) → ℕ
scope_hash table None = mixed table 0
scope_hash table (Some key) = hash_on (mixed table 1) key

abbrev pub claim_hash : Claim → ℕ
claim_hash c = scope_hash (table_hash c.table) c.key

abbrev pub bucket : ℕ → ℕ
bucket hash = hash % 65536

-- ---- places

abbrev pub is_place : Place → Place → Bool
is_place p q = (p.hash == q.hash) && ((p.unit == q.unit) && (p.at == q.at))

abbrev pub is_in : Place → List Place → Bool
is_in p places = list_any (is_place p) places

-- the place is in its bucket
abbrev pub placed : List (Vec Place) → Place → Bool
placed places p = is_in p (list_at places (bucket p.hash))

-- where a unit's claim of that number stands
abbrev pub place_of : ℕ → ℕ → Claim → Place
place_of unit at c = record { at = at; hash = claim_hash c; unit = unit }

-- each claim has its place
abbrev pub IsIndexed : List (Vec Place) → ClaimsOf → Type 0
IsIndexed places claims = (unit at : ℕ) (c : Claim) → slice_get (claims unit) at ≡ Some c → placed places (place_of unit at c) ≡ true

-- the claim that a place is of clashes with this one of a unit, or is it
abbrev pub clashes_with_it : Claim → Option Claim → Bool
clashes_with_it c None = false
clashes_with_it c (Some d) = clash c d

abbrev pub is_it : Claim → Option Claim → Bool
is_it c None = false
is_it c (Some d) = is_same c d

abbrev pub clashes_there : ClaimsOf → ℕ → Claim → ℕ → Place → Bool
clashes_there claims unit c hash p = (p.hash == hash) && (not (p.unit == unit) && clashes_with_it c (slice_get (claims p.unit) p.at))

abbrev pub is_there : ClaimsOf → ℕ → Claim → ℕ → Place → Bool
is_there claims unit c hash p = (p.hash == hash) && ((p.unit == unit) && is_it c (slice_get (claims p.unit) p.at))

-- ---- uses of tables

-- a unit's reading or writing of a table
pub record Use : Type 0 where
  pub unit : ℕ
  pub table : List ℕ
  pub access : Access

abbrev pub same_access : Access → Access → Bool
same_access Read Read = true
same_access Read Write = false
same_access Write Read = false
same_access Write Write = true

abbrev pub same_use : Use → Use → Bool
same_use x y = (x.unit == y.unit) && (bytes_eq x.table y.table && same_access x.access y.access)

abbrev pub use_of : Holder → Use
use_of h = record { unit = h.unit; table = h.table.items; access = h.access }

abbrev pub use_in : ℕ → Claim → Use
use_in unit c = record { unit = unit; table = c.table; access = c.access }

abbrev pub one_if : Bool → ℕ
one_if true = 1
one_if false = 0

-- how many claims a holder counts for a use
abbrev pub amount : Holder → Use → ℕ
amount h k = if same_use (use_of h) k then h.count else 0

abbrev pub counted : List Holder → Use → ℕ
counted [] k = 0
counted (h ∷ hs) k = amount h k + counted hs k

abbrev pub held : List (Vec Holder) → Use → ℕ
held holders k = counted (list_at holders (bucket (table_hash k.table))) k

-- a holder of claims for that use
abbrev pub is_held : Use → Holder → Bool
is_held k h = same_use (use_of h) k && nat_lt 0 h.count

-- how many claims are of that table and access
abbrev pub used : List Claim → Use → ℕ
used [] k = 0
used (c ∷ cs) k = one_if (bytes_eq c.table k.table && same_access c.access k.access) + used cs k

-- each use is counted
abbrev pub IsCounted : List (Vec Holder) → ClaimsOf → Type 0
IsCounted holders claims = (k : Use) → held holders k ≡ used (claims k.unit) k

-- the holder is another unit's, and what it holds of the table clashes with a claim of all of it
abbrev pub blocks : ℕ → Claim → Holder → Bool
blocks unit c h = not (h.unit == unit) && ((is_write c.access || is_write h.access) && (bytes_eq c.table h.table.items && nat_lt 0 h.count))

-- ---- what a search finds

-- an item that passes the test, and its unit
pub record Finds {X : Type 0} (test : X → Bool) (unit_of : X → ℕ) (xs : List X) (unit : ℕ) : Type 0 where
  pub at : ℕ
  pub item : X
  pub is : slice_get xs at ≡ Some item
  pub passes : test item ≡ true
  pub unit_is : unit_of item ≡ unit

-- ---- the whole index

pub record IsIndex (units : List (Vec Claim)) (places : List (Vec Place)) (holders : List (Vec Holder)) : Type 0 where
  pub indexed : IsIndexed places (λ unit. list_at units unit)
  pub counts : IsCounted holders (λ unit. list_at units unit)

-- ---- what becomes of it

-- a place and a count more
pub record Adds (places places' : List (Vec Place)) (holders holders' : List (Vec Holder)) (p : Place) (u : Use) : Type 0 where
  pub kept : (q : Place) → placed places q ≡ true → placed places' q ≡ true
  pub there : placed places' p ≡ true
  pub up : (k : Use) → held holders' k ≡ held holders k + one_if (same_use u k)

-- a place and a count less
pub record Leaves (places places' : List (Vec Place)) (holders holders' : List (Vec Holder)) (p : Place) (u : Use) : Type 0 where
  pub kept : (q : Place) → is_place q p ≡ false → placed places q ≡ true → placed places' q ≡ true
  pub down : (k : Use) → held holders' k ≡ held holders k - one_if (same_use u k)

-- no place and no count less
pub record Stays (places places' : List (Vec Place)) (holders holders' : List (Vec Holder)) : Type 0 where
  pub kept : (q : Place) → placed places q ≡ true → placed places' q ≡ true
  pub same : (k : Use) → held holders' k ≡ held holders k
