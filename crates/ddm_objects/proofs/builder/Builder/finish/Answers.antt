use Rattle.std.specs.Prelude.{reverse}
use Rattle.ddm_objects.proofs.Nesting.{text_at_end}
use Rattle.ddm_objects.proofs.builder.Builder.finish.Goals as goal

pub returns : goal.returns
returns c = text_at_end c.self.inside.out.items (reverse c.self.inside.containers.items) c.args.self c.self.view_is c.requires
