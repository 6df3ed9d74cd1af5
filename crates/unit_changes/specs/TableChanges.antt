-- What the changes of one table record.
use Rattle.std.specs.Prelude.{◌≡◌, List}
use Rattle.std.specs.String.{string_bytes}
use Rattle.std.specs.Arc.{arc_value}
use Rattle.std.specs.List.{AllByRecursion, flat_map}
use Rattle.key_map.specs.Merging.{InOrder, Rows, merged}
use Rattle.key_map.specs.Overlay.{changes_of}
use Rattle.tables.specs.Change.{Change}
use Rattle.unit_changes.specs.declared.table_changes.TableChanges.{TableChanges}
use Rattle.unit_changes.specs.UnitTable.{SaysKeys, UnitTable, all_changed, said_by}

abbrev pub table_of : TableChanges → UnitTable
table_of t = record { name = string_bytes t.name; schema = arc_value t.schema; is_new = t.is_new; said = changes_of t.rows }

-- what the changes say is added to what was said of the table
pub record Records (changes : List Change) (old new : UnitTable) : Type 0 where
  pub name : new.name ≡ old.name
  pub schema : new.schema ≡ old.schema
  pub is_new : new.is_new ≡ old.is_new
  pub said : (base : Rows) → InOrder base → merged base new.said ≡ all_changed (merged base old.said) (flat_map (said_by old.schema) changes)
  pub bytes : AllByRecursion (SaysKeys old.schema) changes
