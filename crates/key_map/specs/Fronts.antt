-- How the front of a form stands to the form of a value, or of several.
use Rattle.std.specs.Prelude.{◌≡◌, ℕ, List, [], ◌++◌, Option, Some, None}
use Rattle.std.proofs.Common.{Less, Greater}
use Rattle.key_map.specs.Slots.{by_bytes}
use Rattle.key_map.specs.SortForm.{value_form}
use Rattle.row_values.specs.Value.{Value}
use Rattle.key_map.specs.declared.front.Front.{Front}
use Rattle.key_map.specs.declared.front.Front.TheVariants.{Before, Behind, Same}

-- the form comes before the piece, or behind it, whatever follows the piece; or it begins with the piece, and this
-- follows there
abbrev pub Compares : List ℕ → List ℕ → Front → Type 0
Compares form piece Before = (more : List ℕ) → by_bytes form (piece ++ more) ≡ Less
Compares form piece Behind = (more : List ℕ) → by_bytes form (piece ++ more) ≡ Greater
Compares form piece (Same rest) = form ≡ piece ++ rest.now

-- the form of a value, if there is one
abbrev pub form_if : Option Value → List ℕ
form_if None = []
form_if (Some value) = value_form value
