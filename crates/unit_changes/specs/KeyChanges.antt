-- What changes say of keys.
use Rattle.std.specs.Prelude.{ℕ, List, [], ◌∷◌, Option, Some, None}
use Rattle.std.specs.List.{AllByRecursion}
use Rattle.key_map.specs.Slots.{HasRoom, Slots}
use Rattle.key_map.specs.Merging.{Changes}
use Rattle.key_map.specs.Overlay.{said}
use Rattle.unit_changes.specs.declared.key_change.KeyChange.{KeyChange}

abbrev pub step_of : KeyChange → List ℕ × Option (List ℕ)
step_of k = (k.form.items, said k.row.items)

abbrev pub said_in : Option KeyChange → Changes
said_in None = []
said_in (Some k) = step_of k ∷ []

-- each of the keys has room
abbrev pub HaveRoom : Slots → List KeyChange → Type 0
HaveRoom slots ks = AllByRecursion (λ (k : KeyChange). HasRoom k.form.items slots) ks
