-- Units of work: what each has changed and claims, by its owner.
use Rattle.std.specs.Prelude.{ℕ, ◌-◌, ◌==◌, ◌||◌, nat_lt, Bool, true, false, bytes_eq, List, [], ◌∷◌, ◌++◌, length, if◌then◌else◌}
use Rattle.std.specs.List.{flat_map, list_any}
use Rattle.drda_words.specs.Order.{precedes}
use Rattle.tables.specs.Change.{Change, change_bytes}
pub use Rattle.tables.specs.Applied.{apply_all}
use Rattle.tables.specs.Tables.{Store}
use Rattle.unit_locks.specs.Claim.{Claim}
use Rattle.unit_locks.specs.Clash.{clash}

-- a unit's owner: a conversation, whose local unit it is, or an XID
pub data Owner : Type 0 where
  local : ℕ → Owner
  global : List ℕ → Owner

abbrev pub same_owner : Owner → Owner → Bool
same_owner (local m) (local n) = m == n
same_owner (local m) (global x) = false
same_owner (global x) (local n) = false
same_owner (global x) (global y) = bytes_eq x y

-- the order in which units are listed: local ones by conversation, then those of XIDs by their bytes
abbrev pub comes_before : Owner → Owner → Bool
comes_before (local m) (local n) = nat_lt m n
comes_before (local m) (global x) = true
comes_before (global x) (local n) = false
comes_before (global x) (global y) = precedes x y

-- ---- one unit

-- its changes in their order, and its claims in the order in which they were first made
pub record Work : Type 0 where
  pub changes : List Change
  pub claims : List Claim

abbrev pub idle : Work
idle = record { changes = []; claims = [] }

abbrev pub has_any : {A : Type 0} → List A → Bool
has_any [] = false
has_any (x ∷ xs) = true

-- it has a claim or a change
abbrev pub has_work : Work → Bool
has_work u = has_any u.changes || has_any u.claims

-- what the unit sees of the committed store
abbrev pub view : Store → Work → Store
view s u = apply_all u.changes s

-- how many bytes of changes a unit may still add
abbrev pub left_of : Work → ℕ
left_of u = 1048576 - length (flat_map change_bytes u.changes)

-- more claims than a unit may have
abbrev pub is_full : List Claim → Bool
is_full cs = nat_lt 65535 (length cs)

-- ---- all units

pub record Held : Type 0 where
  pub owner : Owner
  pub work : Work

-- an owner's unit; one that is not listed has no work
abbrev pub unit_of : Owner → List Held → Work
unit_of o [] = idle
unit_of o (h ∷ hs) = if same_owner o h.owner then h.work else unit_of o hs

abbrev pub without : Owner → List Held → List Held
without o [] = []
without o (h ∷ hs) = if same_owner o h.owner then without o hs else h ∷ without o hs

-- with an owner's unit in its place, where none of that owner is listed
abbrev pub with_unit : Held → List Held → List Held
with_unit new [] = new ∷ []
with_unit new (h ∷ hs) = if comes_before new.owner h.owner then new ∷ h ∷ hs else h ∷ with_unit new hs

-- with another unit of an owner; without work it is not listed
abbrev pub set_unit : Owner → Work → List Held → List Held
set_unit o u hs = if has_work u then with_unit (record { owner = o; work = u }) (without o hs) else without o hs

-- the claims of the other units
abbrev pub others : Owner → List Held → List Claim
others o [] = []
others o (h ∷ hs) = if same_owner o h.owner then others o hs else h.work.claims ++ others o hs

-- some claim of the one list clashes with one of the other: every pair is compared
abbrev pub clashes : List Claim → List Claim → Bool
clashes cs ds = list_any (λ c. list_any (clash c) ds) cs
