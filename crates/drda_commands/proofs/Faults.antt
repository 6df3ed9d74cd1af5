-- The first fault by place, object by object.
use Rattle.std.proofs.Common.{◌≡◌, true, false, Option, Some, None, Result, Ok, refl, sym, ap, ◌∙◌}
use Rattle.std.specs.Prelude.{is_some}
use Rattle.std.specs.Option.{option_map}
use Rattle.ddm_objects.specs.declared.fault.ObjFault.{ObjFault}
use Rattle.ddm_objects.specs.declared.object.Object.{Object}
use Rattle.ddm_objects.specs.declared.parts.Parts.{Parts}
use Rattle.ddm_objects.specs.Objects.{Obj}
use Rattle.ddm_objects.specs.Reading.{Walk}
use Rattle.ddm_objects.specs.Source.{Steps, rest_of, view}
use Rattle.drda_commands.specs.declared.refusal.SyntaxError.{SyntaxError}
use Rattle.drda_commands.specs.declared.refusal.SyntaxError.TheVariants.{InObject}
use Rattle.drda_commands.specs.Given.{or_else, fault_among, fault_in}
use Rattle.drda_commands.proofs.Walked.{past_ok}

later : (inside after : Option SyntaxError) → is_some inside ≡ false → or_else inside after ≡ after
later None after e = refl
later (Some f) after e = absurd cc

first : (inside after : Option SyntaxError) → is_some inside ≡ true → inside ≡ or_else inside after
first None after e = absurd cc
first (Some f) after e = refl

module _ (judge : Obj → Option SyntaxError) (p q : Parts) (part : Result Object ObjFault) (step : Steps p (Some part) q) (o : Object) (is : part ≡ Ok o)
    (inside : Option SyntaxError) (told : inside ≡ judge (view o)) where
  goes : fault_in judge (rest_of p) ≡ or_else inside (fault_in judge (rest_of q))
  goes = ap (λ (w : Walk). fault_among judge w.objects (option_map InObject w.fault)) (past_ok p q part step o is) ∙ ap (λ (f : Option SyntaxError). or_else f (fault_in judge (rest_of q))) (sym told)

  pub no_fault_inside : is_some inside ≡ false → fault_in judge (rest_of q) ≡ fault_in judge (rest_of p)
  no_fault_inside e = sym (goes ∙ later inside (fault_in judge (rest_of q)) e)

  pub fault_is_there : is_some inside ≡ true → inside ≡ fault_in judge (rest_of p)
  fault_is_there e = first inside (fault_in judge (rest_of q)) e ∙ sym goes
