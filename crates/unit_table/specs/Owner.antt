-- The owner of a unit, as the core's step has it.
use Rattle.unit_table.specs.declared.owner.Owner.{Owner as CodeOwner}
use Rattle.unit_table.specs.declared.owner.Owner.TheVariants as code
use Rattle.core_model.specs.Units.{Owner, global, local}

abbrev pub plain_owner : CodeOwner → Owner
plain_owner (code.Local conversation) = local conversation
plain_owner (code.Global xid) = global xid
