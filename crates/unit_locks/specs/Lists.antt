-- A row of lists by their places; past its end each list is empty.
use Rattle.std.specs.Prelude.{ℕ, List, [], Option, Some, None, slice_get, map}
use Rattle.std.specs.Global.{Vec}

abbrev pub or_empty : {X : Type 0} → Option (List X) → List X
or_empty None = []
or_empty (Some list) = list

abbrev pub row_at : {X : Type 0} → List (List X) → ℕ → List X
row_at rows at = or_empty (slice_get rows at)

abbrev pub list_at : {X : Type 0} → List (Vec X) → ℕ → List X
list_at lists at = row_at (map (λ list. list.items) lists) at
