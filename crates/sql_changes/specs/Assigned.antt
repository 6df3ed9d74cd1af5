-- What the assignments of an UPDATE, with places for names and values for literals, make of a row.
use Rattle.std.specs.Prelude.{◌≡◌, ℕ, slice_set, List, [], ◌∷◌, map, Ok}
use Rattle.std.specs.List.{slice_get}
use Rattle.sql_text.specs.declared.tree.Sum.{Sum}
use Rattle.row_values.specs.Value.{Value}
use Rattle.row_values.specs.Column.{Column}
use Rattle.sql_semantics.specs.Checked.{Checked, and_then, if_none}
use Rattle.sql_semantics.specs.Update.{place_fault, set_all, summed}
use Rattle.sql_predicates.specs.Test.{operand_value}
use Rattle.sql_changes.specs.declared.sum.BoundAddend.{BoundAddend}
use Rattle.sql_changes.specs.declared.sum.BoundSum.{BoundSum}
use Rattle.sql_changes.specs.declared.target.Target.{Target}
use Rattle.sql_changes.specs.declared.target.Targets.{Targets}

-- the columns that are assigned
abbrev pub places : List Target → List ℕ
places ts = map (λ (t : Target). t.place) ts

module _ (old : List Value) where
  -- a value and the further terms of a sum
  abbrev pub summed_from : Value → List BoundAddend → Checked Value
  summed_from v [] = Ok v
  summed_from v (a ∷ later) = and_then (summed a.operation v (operand_value old a.operand)) (λ w. summed_from w later)

  -- what a sum comes to in a row of these values
  abbrev pub total : BoundSum → Checked Value
  total s = summed_from (operand_value old s.first) s.rest.items

module _ (old : List Value) (cs : List Column) where
  -- which fits its column
  abbrev pub assigned : Target → Checked Value
  assigned t = and_then (total old t.sum) (λ v. if_none (place_fault (slice_get cs t.place) v) (Ok v))

  -- these values with what is assigned, from left to right, in their places
  abbrev pub all_set : List Target → List Value → Checked (List Value)
  all_set [] vs = Ok vs
  all_set (t ∷ ts) vs = and_then (assigned t) (λ v. all_set ts (slice_set vs t.place v))

-- they make of every row what these targets of the meaning do
abbrev pub StandFor : List Value → List Column → Targets → List (ℕ × Sum) → Type 0
StandFor params cs bound ts = (old vs : List Value) → all_set old cs bound.targets.items vs ≡ set_all params cs old ts vs
