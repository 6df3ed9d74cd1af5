-- A walk over objects, seen as the objects and the fault that it still has to read.
use Rattle.std.proofs.Common.{◌≡◌, Some, None, Result, Ok, Err, subst}
use Rattle.ddm_objects.specs.declared.fault.ObjFault.{ObjFault}
use Rattle.ddm_objects.specs.declared.object.Object.{Object}
use Rattle.ddm_objects.specs.declared.parts.Parts.{Parts}
use Rattle.ddm_objects.specs.Reading.{walk, walk_end, walk_stop, walk_past}
use Rattle.ddm_objects.specs.Source.{view, Steps, rest_of}

pub ended : (p q : Parts) → Steps p None q → walk (rest_of p) ≡ walk_end
ended p q step = step.walked

module _ (p q : Parts) (part : Result Object ObjFault) (step : Steps p (Some part) q) where
  pub past_ok : (o : Object) → part ≡ Ok o → walk (rest_of p) ≡ walk_past (view o) (walk (rest_of q))
  past_ok o is = (subst (λ (x : Result Object ObjFault). Steps p (Some x) q) is step).walked

  pub stopped_err : (f : ObjFault) → part ≡ Err f → walk (rest_of p) ≡ walk_stop f
  stopped_err f is = (subst (λ (x : Result Object ObjFault). Steps p (Some x) q) is step).walked
