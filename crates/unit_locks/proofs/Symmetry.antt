-- Clash is symmetric.
use Rattle.std.proofs.Common.{◌≡◌, ℕ, List, Bool, true, false, ◌||◌, refl, ap, ◌∙◌, Option, Some, None}
use Rattle.std.specs.Str.{bytes_eq}
use Rattle.std.proofs.lemmas.Cmp.{nat_list_eq_equiv}
use Rattle.unit_locks.specs.Claim.{Claim}
use Rattle.unit_locks.specs.Clash.{IsSymmetric, clash, is_write, overlap}

pub eq_turned : (a b : List ℕ) → bytes_eq a b ≡ bytes_eq b a
eq_turned a b = nat_list_eq_equiv.symm a b

or_turned : (a b : Bool) → (a || b) ≡ (b || a)
or_turned true true = refl
or_turned true false = refl
or_turned false true = refl
or_turned false false = refl

overlap_turned : (a b : Option (List ℕ)) → overlap a b ≡ overlap b a
overlap_turned None None = refl
overlap_turned None (Some key) = refl
overlap_turned (Some key) None = refl
overlap_turned (Some key) (Some other) = eq_turned key other

pub clash_turned : IsSymmetric clash
clash_turned c d = rw (or_turned (is_write c.access) (is_write d.access), eq_turned c.table d.table, overlap_turned c.key d.key) refl
