-- Changes of a store, and their bytes.
use Rattle.std.specs.Prelude.{ℕ, Bool, List, [], ◌∷◌, ◌++◌, length, Option, Some, None, ◌&&◌, ◌==◌, nat_le, if◌then◌else◌, option_map}
use Rattle.std.specs.Option.{option_and_then}
use Rattle.row_values.specs.Schema.{Schema, is_name, is_schema}
use Rattle.row_values.specs.Row.{counted, counted_at}
use Rattle.row_values.specs.Bytes.{name_at, named, schema_at, schema_bytes}
use Rattle.std.specs.String.{string_bytes}
use Rattle.tables.specs.declared.action.Action.{Action}
use Rattle.tables.specs.declared.action.Action.TheVariants.{CreateTable, Put, Remove}

-- a new table without rows; a row, in place of the one of its key; the row of a key taken out
pub data Change : Type 0 where
  create : List ℕ → Schema → Change
  put : List ℕ → List ℕ → Change
  remove : List ℕ → List ℕ → Change

abbrev pub action_of : Action → Change
action_of (CreateTable table schema) = create (string_bytes table) schema
action_of (Put table row) = put (string_bytes table) row.items
action_of (Remove table key) = remove (string_bytes table) key.items

abbrev pub change_bytes : Change → List ℕ
change_bytes (create name schema) = 1 ∷ named name ++ schema_bytes schema
change_bytes (put name row) = 2 ∷ named name ++ counted row
change_bytes (remove name key) = 3 ∷ named name ++ counted key

-- a change that can be written: names are names, a row has at most 4,000 bytes, a key 8,012
abbrev pub is_change : Change → Bool
is_change (create name schema) = is_name name && is_schema schema
is_change (put name row) = is_name name && nat_le (length row) 4000
is_change (remove name key) = is_name name && nat_le (length key) 8012

-- at most so many bytes behind their length of two bytes
abbrev pub short_at : ℕ → List ℕ → Option (List ℕ × List ℕ)
short_at limit bytes = option_and_then (λ (x : List ℕ × List ℕ). if nat_le (length x.0) limit then Some x else None) (counted_at bytes)

-- a change behind its code and the name of its table
unfoldable pub change_after : ℕ → List ℕ → List ℕ → Option (Change × List ℕ)
change_after code name bytes = if code == 1 then option_map (λ (x : Schema × List ℕ). (create name x.0, x.1)) (schema_at bytes)
    else (if code == 2 then option_map (λ (x : List ℕ × List ℕ). (put name x.0, x.1)) (short_at 4000 bytes)
    else (if code == 3 then option_map (λ (x : List ℕ × List ℕ). (remove name x.0, x.1)) (short_at 8012 bytes) else None))

abbrev pub change_at : List ℕ → Option (Change × List ℕ)
change_at [] = None
change_at (code ∷ bytes) = option_and_then (λ (x : List ℕ × List ℕ). change_after code x.0 x.1) (name_at bytes)
