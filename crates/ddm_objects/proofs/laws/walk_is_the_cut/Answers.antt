use Rattle.std.proofs.Common.{[], refl, Some, None, subst}
use Rattle.ddm_objects.specs.Objects.{Begins}
use Rattle.ddm_objects.proofs.Walking.{walk_of_cut, cut_of_walk}
use Rattle.ddm_objects.proofs.laws.walk_is_the_cut.Goals as goal

pub returns : goal.returns
returns c = record {
  cut = λ bytes objects are. (λ is. walk_of_cut bytes objects [] None is refl, λ e. let cut = cut_of_walk bytes objects None are e in subst (Begins bytes objects) cut.2 cut.1);
  fault = λ bytes objects f are. (λ e. let cut = cut_of_walk bytes objects (Some f) are e in (cut.0, cut.1, cut.2.0, cut.2.1), λ x. walk_of_cut bytes objects x.0 (Some f) x.1 (x.2, x.3));
}
