use Rattle.std.proofs.Common.{List, ap, slice_get, ◌∙◌}
use Rattle.core_history.specs.declared.pass.Pass.{Pass}
use Rattle.shared_node.proofs.shared.Shared.close.Goals as goal

pub returns-then-is_just-clause-listed : goal.returns-then-is_just-clause-listed
returns-then-is_just-clause-listed g c = λ at pass here. c.is_just.ensures.listed c.if-is_just.true at pass (ap (λ (passes : List Pass). slice_get passes at) c.deref.ensures.value ∙ here)
