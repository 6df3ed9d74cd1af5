-- What opening a checkpoint answers.
use Rattle.std.specs.Prelude.{ℕ, List, Result, Ok, Err}
use Rattle.std.specs.String.{string_bytes}
use Rattle.tables.specs.Tables.{Table}
use Rattle.paged_tables.specs.PagedTables.{store_in}
use Rattle.paged_tables.specs.Stored.{IsOnPages, LiesOutside, Stored, opened, table_in}
use Rattle.paged_tables.specs.TablesByName.{AreOnPages}
use Rattle.paged_tables.specs.declared.store.PagedTables.{PagedTables}
use Rattle.store_check.specs.Checkpoint.{HasCheckpoint, forms}
use Rattle.store_check.specs.Half.{BreaksHalf, HalfPages, noted_in}
use Rattle.store_check.specs.declared.half.CheckedTable.{CheckedTable}
use Rattle.store_check.specs.declared.errors.CheckError.{CheckError}
use Rattle.store_check.specs.declared.errors.CheckError.TheVariants.{NoMemory, DeviceFailed, Damaged}

-- the tables of the checkpoint that the pages have, which stand there; or the offset of the first bad page
abbrev pub OpensCheckpoint : List ℕ → HalfPages → Result PagedTables CheckError → Type 0
OpensCheckpoint image half (Ok tables) = HasCheckpoint image half (store_in tables) × AreOnPages image tables.tables
OpensCheckpoint image half (Err (Damaged here)) = BreaksHalf forms image half here
OpensCheckpoint image half (Err NoMemory) = Unit {0}
OpensCheckpoint image half (Err DeviceFailed) = Unit {0}

-- ---- tables that were checked

abbrev pub name_in : CheckedTable → List ℕ
name_in checked = string_bytes checked.table.name

-- a table that was checked, over its pages
abbrev pub opened_of : CheckedTable → Stored
opened_of checked = opened checked.table.schema checked.pages.pages (noted_in checked)

-- the table that the noted rows make, with its name
abbrev pub noted_table : CheckedTable → List ℕ × Table
noted_table checked = (name_in checked, table_in (opened_of checked))

-- its pages stand in a file with these bytes, and have those rows
abbrev pub StandsIn : List ℕ → CheckedTable → Type 0
StandsIn file checked = IsOnPages file (opened_of checked)

-- its pages end in front of an offset, or begin behind another one
abbrev pub StandsOutside : ℕ → ℕ → CheckedTable → Type 0
StandsOutside from end checked = LiesOutside from end (opened_of checked)
