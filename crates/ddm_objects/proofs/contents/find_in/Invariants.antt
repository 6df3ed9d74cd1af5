use Rattle.ddm_objects.proofs.Finding.{SoFar}
use Rattle.ddm_objects.proofs.contents.find_in.Given as goal

abbrev pub invariant-loop-part : goal.invariant-loop-part
invariant-loop-part l = SoFar l.source l.code l.found l.twice l.part-iterator
