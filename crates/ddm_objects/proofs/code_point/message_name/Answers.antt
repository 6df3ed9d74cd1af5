use Rattle.std.proofs.Common.{rules}
use borrow.Author.Tests.{tests}
use Rattle.ddm_objects.specs.Names.{message_of}
use Rattle.ddm_objects.proofs.code_point.message_name.Goals as goal

pub returns-in_default : goal.returns-in_default
unfolding message_of
returns-in_default c = search (tests, rules)
