-- Keys in rising order, each with a row or with room for one.
use Rattle.std.specs.Prelude.{ℕ, Bool, true, false, List, [], ◌∷◌, Option, Some, None, IsTrue, is_some, map, option_map}
use Rattle.std.specs.Ordering.{is_eq, nat_cmp}
use Rattle.std.specs.declared.cmp.Ordering.{Ordering}
use Rattle.std.specs.Cmp.Lexicographic.{slice_cmp}
use Rattle.std.specs.Map.{lookup}
use Rattle.std.specs.BTreeMap.{BTreeMap, IsOrdered, is_at}
use Rattle.std.specs.Global.{Vec}

abbrev pub Slots : Type 0
Slots = List (List ℕ × Option (List ℕ))

abbrev pub by_bytes : List ℕ → List ℕ → Ordering
by_bytes = slice_cmp nat_cmp

-- whether a key is this one
abbrev pub by_key : List ℕ → List ℕ → Bool
by_key key = is_at (by_bytes key)

-- a key has room for a row
abbrev pub has_room : List ℕ → Slots → Bool
has_room key slots = is_some (lookup (by_key key) slots)

abbrev pub HasRoom : List ℕ → Slots → Type 0
HasRoom key slots = IsTrue (has_room key slots)

-- a slot is there, and no row in it
abbrev pub is_blank : {X : Type 0} → Option (Option X) → Bool
is_blank None = false
is_blank (Some None) = true
is_blank (Some (Some row)) = false

-- the rows that are there, in order
abbrev pub with_row : {K X : Type 0} → K → Option X → List (K × X) → List (K × X)
with_row key None rest = rest
with_row key (Some row) rest = (key, row) ∷ rest

abbrev pub rows_of : {K X : Type 0} → List (K × Option X) → List (K × X)
rows_of [] = []
rows_of (s ∷ ss) = with_row s.0 s.1 (rows_of ss)

-- the slots that a tree has
abbrev pub slot_of : Vec ℕ × Option (Vec ℕ) → List ℕ × Option (List ℕ)
slot_of e = (e.0.items, option_map (λ row. row.items) e.1)

abbrev pub slots_in : List (Vec ℕ × Option (Vec ℕ)) → Slots
slots_in entries = map slot_of entries

abbrev pub IsInOrder : BTreeMap (Vec ℕ) (Option (Vec ℕ)) → Type 0
IsInOrder m = IsOrdered (λ x y. by_bytes x.items y.items) m

-- a query finds this key
abbrev pub finds : List ℕ → Vec ℕ → Bool
finds q k = is_eq (by_bytes q k.items)
