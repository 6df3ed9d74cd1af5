use Rattle.std.proofs.Common.{rules}
use Rattle.ddm_objects.specs.Writing.{spelled}
use Rattle.session_commands.proofs.reply.write_external_name.Goals as goal

pub returns-clause-ok : goal.returns-clause-ok
unfolding spelled
returns-clause-ok c = search rules
