-- What a unit sees of the tables.
use Rattle.std.specs.Prelude.{ℕ, Bool, true, false, List, [], ◌∷◌, Option, Some, None, if◌then◌else◌}
use Rattle.std.specs.Str.{is_utf8}
use Rattle.paged_tables.specs.PagedTables.{store_in}
use Rattle.tables.specs.Applied.{apply_all}
use Rattle.tables.specs.Tables.{Store}
use Rattle.ahead_view.specs.declared.reading.Wanted.{Wanted}
use Rattle.ahead_view.specs.declared.reading.Wanted.TheVariants.{Nothing, Row, Rows}
use Rattle.unit_locks.specs.Claim.{Claim}
use Rattle.unit_locks.specs.declared.access.Access.{Access}
use Rattle.sql_semantics.specs.Frame.{In}
use Rattle.sql_text.specs.declared.tree.Command.{Command}
use Rattle.sql_text.specs.declared.tree.Command.TheVariants as command
use Rattle.unit_statements.specs.declared.sight.Sight.{Sight}

-- the committed tables, with what the unit has changed
abbrev pub seen_by : Sight → Store
seen_by s = apply_all s.changes.now (store_in s.tables.now)

-- what is read is among what is claimed
abbrev pub IsClaimed : Wanted → List Claim → Type 0
IsClaimed Nothing claims = Unit {0}
IsClaimed (Row table key) claims = (access : Access) × In (record { access = access; table = table.now; key = Some key.now }) claims
IsClaimed (Rows table) claims = (access : Access) × In (record { access = access; table = table.now; key = None }) claims

-- a statement looks at each row of a table that it claims whole
abbrev pub looks_through : Command → Bool
looks_through (command.Create table definitions key) = false
looks_through (command.Insert table listed values) = false
looks_through (command.Update table assignments filter) = true
looks_through (command.Delete table filter) = true
looks_through (command.Select selected table filter) = true

-- which rows are asked for: those of a table, or the one of a key
abbrev pub asked_in : Wanted → Option (List ℕ × Option (List ℕ))
asked_in Nothing = None
asked_in (Row table key) = Some (table.now, Some key.now)
asked_in (Rows table) = Some (table.now, None)

abbrev pub within_claim : Bool → List ℕ → Option (List ℕ) → Option (List ℕ × Option (List ℕ))
within_claim through table (Some key) = Some (table, Some key)
within_claim true table None = Some (table, None)
within_claim false table None = None

-- the row of the key that a statement claims, or all rows of the table that it claims whole and looks through
abbrev pub asked_by : Command → List Claim → Option (List ℕ × Option (List ℕ))
asked_by command [] = None
asked_by command (claim ∷ []) = if is_utf8 claim.table then within_claim (looks_through command) claim.table claim.key else None
asked_by command (claim ∷ other ∷ claims) = None
