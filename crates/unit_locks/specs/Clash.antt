-- When claims of two units clash: one of them writes, the tables are equal, and the scopes overlap. Serial
-- order of units rests on it: where no claims clash, what either unit saw is what it sees alone.
use Rattle.std.specs.Prelude.{◌≡◌, ℕ, Bool, true, false, List, Option, Some, None, ◌&&◌, ◌||◌}
use Rattle.std.specs.Str.{bytes_eq}
use Rattle.unit_locks.specs.declared.access.Access.{Access}
use Rattle.unit_locks.specs.declared.access.Access.TheVariants.{Read, Write}
use Rattle.unit_locks.specs.Claim.{Claim}

abbrev pub is_write : Access → Bool
is_write Read = false
is_write Write = true

-- two scopes of one table have a key in common; None is all of the table
abbrev pub overlap : Option (List ℕ) → Option (List ℕ) → Bool
overlap None scope = true
overlap (Some key) None = true
overlap (Some key) (Some other) = bytes_eq key other

abbrev pub clash : Claim → Claim → Bool
clash c d = (is_write c.access || is_write d.access) && (bytes_eq c.table d.table && overlap c.key d.key)

abbrev pub IsSymmetric : (Claim → Claim → Bool) → Type 0
IsSymmetric relation = (c d : Claim) → relation c d ≡ relation d c
