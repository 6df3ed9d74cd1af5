use Rattle.std.proofs.Common.{arith}
use Rattle.ddm_objects.proofs.Reading.{answers_found, answers_only, object_is_read}
use Rattle.ddm_objects.proofs.object.Object.parse.Goals as goal

pub returns-clause-found : goal.returns-clause-found
returns-clause-found c = answers_found c.object_of.result c.args.source.now (λ i. omega (arith, c.type_inv.source i)) c.object_of.ensures.exact

pub returns-clause-only : goal.returns-clause-only
returns-clause-only c = λ front rest o is e. answers_only c.object_of.result c.args.source.now rest o (object_is_read c.args.source.now front rest o is e) c.object_of.ensures.exact
