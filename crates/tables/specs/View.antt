-- When a store is one: what every change keeps.
use Rattle.std.specs.Prelude.{ℕ, Bool, true, List, ◌&&◌, bytes_eq}
use Rattle.std.specs.List.{list_all}
use Rattle.std.specs.Ordering.{nat_cmp}
use Rattle.std.specs.Cmp.Lexicographic.{slice_cmp}
use Rattle.std.specs.Map.{keys_of}
use Rattle.drda_words.specs.Order.{rises}
use Rattle.row_values.specs.Schema.{Schema, is_name, is_schema}
use Rattle.row_values.specs.Row.{is_row}
use Rattle.row_values.specs.Key.{key_cmp, row_key}
use Rattle.tables.specs.Change.{Change, create, put, remove}
use Rattle.tables.specs.Tables.{Store, Table}

-- a row of the schema, at its key
abbrev pub is_entry : Schema → List ℕ × List ℕ → Bool
is_entry schema e = is_row schema e.1 && bytes_eq e.0 (row_key schema e.1)

-- rows of the schema with rising keys
abbrev pub is_table : Table → Bool
is_table t = is_schema t.schema && list_all (is_entry t.schema) t.rows && rises (key_cmp t.schema) (keys_of t.rows)

-- what a creation creates has a name and a schema
abbrev pub is_sound : Change → Bool
is_sound (create name schema) = is_name name && is_schema schema
is_sound (put name row) = true
is_sound (remove name key) = true

-- tables with rising names
abbrev pub is_store : Store → Bool
is_store s = list_all (λ (e : List ℕ × Table). is_name e.0 && is_table e.1) s && rises (slice_cmp nat_cmp) (keys_of s)
