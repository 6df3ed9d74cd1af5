-- What holds of a unit's changes.
use Rattle.std.specs.Prelude.{◌≡◌, ◌-◌, true, length, map}
use Rattle.std.specs.List.{flat_map, list_all}
use Rattle.tables.specs.Change.{change_bytes, is_change}
use Rattle.tables.specs.ChangeView.{change_of}
use Rattle.unit_changes.specs.declared.unit.UnitChanges.TheInside.{Inside}
use Rattle.unit_changes.specs.TableChanges.{table_of}
use Rattle.unit_changes.specs.Index.{IsIndex}

-- the tables are told of, each change can be written, and so many bytes are left
pub record IsUnit (u : Inside) : Type 0 where
  pub index : IsIndex (map change_of u.changes.items) (map table_of u.tables.items)
  pub good : list_all is_change (map change_of u.changes.items) ≡ true
  pub left : u.left ≡ 1048576 - length (flat_map change_bytes (map change_of u.changes.items))
