-- A unit as plain lists.
use Rattle.std.specs.Prelude.{map}
use Rattle.tables.specs.ChangeView.{change_of}
use Rattle.core_model.specs.Units.{Held}
use Rattle.unit_table.specs.Owner.{plain_owner}
use Rattle.unit_table.specs.declared.plain.PlainUnit.{PlainUnit}

abbrev pub held_of : PlainUnit → Held
held_of u = record { owner = plain_owner u.owner; work = record { changes = map change_of u.changes.items; claims = u.claims.items } }
