-- What a table store shows, and for which changes it has room.
use Rattle.std.specs.Prelude.{List}
use Rattle.tables.specs.Change.{Change}
use Rattle.tables.specs.Tables.{Store}
use Rattle.paged_tables.specs.declared.store.PagedTables.{PagedTables}
use Rattle.paged_tables.specs.Steps.{forms_of}
use Rattle.paged_tables.specs.TablesByName.{AreReady, store_of}

-- the committed tables
abbrev pub store_in : PagedTables → Store
store_in s = store_of s.tables

-- there is room for these changes, made in their order
abbrev pub IsReserved : List Change → PagedTables → Type 0
IsReserved changes s = AreReady changes (forms_of s.steps.items) (store_of s.tables) s.tables
