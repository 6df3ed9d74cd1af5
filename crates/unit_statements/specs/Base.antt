-- The committed tables with the units that work over them, as the core's step has them.
use Rattle.paged_tables.specs.PagedTables.{store_in}
use Rattle.core_model.specs.Events.{Base as BaseValue}
use Rattle.unit_statements.specs.declared.base.Base.{Base}

abbrev pub base_of : Base → BaseValue
base_of b = record { store = store_in b.tables; units = b.units }
