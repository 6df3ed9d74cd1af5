-- The one claim of a list is among them.
use Rattle.std.proofs.Common.{◌≡◌, ◌≤◌, ◌∙◌, inl, ℕ, List, [], ◌∷◌, Option, length, get_or, arith}
use Rattle.sql_semantics.specs.Frame.{In}
use Rattle.unit_locks.specs.Claim.{Claim}
use Rattle.unit_locks.specs.declared.access.Access.{Access}

pub first_claimed : (claims : List Claim) (first : Claim) (table : List ℕ) (key : Option (List ℕ)) → 1 ≤ length claims → first ≡ get_or claims 0 first → table ≡ first.table → key ≡ first.key
    → (access : Access) × In (record { access = access; table = table; key = key }) claims
first_claimed [] first table key some is its_table its_key = absurd (omega (arith, some))
first_claimed (claim ∷ claims) first table key some is its_table its_key =
    let here : record { access = first.access; table = table; key = key } ≡ first = λ j. record { access = first.access; table = its_table j; key = its_key j } in
    (first.access, inl (here ∙ is))
