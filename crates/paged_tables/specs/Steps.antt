-- The forms of changes that have room.
use Rattle.std.specs.Prelude.{◌≡◌, ℕ, List, Option, map}
use Rattle.tables.specs.Tables.{schema_of}
use Rattle.paged_tables.specs.declared.steps.Step.{Step}
use Rattle.paged_tables.specs.Stored.{form_in}
use Rattle.paged_tables.specs.TablesByName.{Tables, schema_at, store_of}

-- the forms, in the order of the changes
abbrev pub forms_of : List Step → List (Option (List ℕ))
forms_of steps = map (λ (s : Step). form_in s.form) steps

-- no table is held ready
abbrev pub HoldsNone : Tables → Type 0
HoldsNone tables = (q : List ℕ) → schema_at tables q ≡ schema_of (store_of tables) q
