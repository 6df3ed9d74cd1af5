use Rattle.ddm_objects.proofs.Reading.{object_is_read, read_is_object}
use Rattle.ddm_objects.proofs.laws.reads_objects.Goals as goal

pub returns : goal.returns
returns c = λ bytes rest o are. (λ e. read_is_object bytes (o, rest) are e, λ x. object_is_read bytes x.0 rest o x.1 x.2)
