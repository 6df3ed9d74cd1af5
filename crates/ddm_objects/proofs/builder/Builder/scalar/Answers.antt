use Rattle.std.specs.Prelude.{reverse}
use Rattle.ddm_objects.specs.Writing.{spelled}
use Rattle.ddm_objects.proofs.Nesting.{nested_then, writing_then}
use Rattle.ddm_objects.proofs.builder.Builder.scalar.Goals as goal

pub invariant_of-self : goal.invariant_of-self
invariant_of-self c =
    nested_then c.put.result c.self.inside.out.items c.put.new.out.items (spelled c.args.code c.args.value.now) (reverse c.self.inside.containers.items) c.put.ensures.ok c.put.ensures.err c.self.invariant

pub returns-clause-ok : goal.returns-clause-ok
returns-clause-ok c =
    writing_then c.put.result c.self.inside.out.items c.put.new.out.items (spelled c.args.code c.args.value.now) (reverse c.self.inside.containers.items) c.args.self.now c.put.ensures.ok c.self.invariant c.self.view_is
