use Rattle.ddm_objects.proofs.Walking.{walk_at_end, walk_goes_past, walk_stops}
use Rattle.ddm_objects.proofs.laws.walk_goes_on.Goals as goal

pub returns : goal.returns
returns c = record { at_end = walk_at_end; past = walk_goes_past; stopped = walk_stops }
