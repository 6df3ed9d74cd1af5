use Rattle.ddm_objects.proofs.Nesting.{spelled_object, spelled_plain, spelled_at_most}
use Rattle.ddm_objects.proofs.laws.spelled_is_an_object.Goals as goal

pub returns : goal.returns
returns c = record { object = spelled_object; plain = spelled_plain; at_most = spelled_at_most }
