use Rattle.std.proofs.Common.{arith}
use Rattle.ddm_objects.proofs.Finding.{goes_on_this, goes_on_other, stops_at, ends_twice, ends_once}
use Rattle.ddm_objects.proofs.contents.find_in.Goals as goal

pub loop-part-preserved-then-object-code : goal.loop-part-preserved-then-object-code
loop-part-preserved-then-object-code c =
    goes_on_this c.args.source.now c.args.code c.loop-part.found c.loop-part.twice c.is_some-twice.result c.loop-part.part-iterator c.next.new.self c.in-Some.part c.in-Ok.object
    (λ i. omega (arith, c.type_inv.source i)) c.loop-part.invariant c.in-Some.ensures.steps c.in-Ok.is c.if-object-code.true c.is_some-twice.ensures

pub loop-part-preserved : goal.loop-part-preserved
loop-part-preserved c =
    goes_on_other c.args.source.now c.args.code c.loop-part.found c.loop-part.twice c.loop-part.part-iterator c.next.new.self c.in-Some.part c.in-Ok.object
    (λ i. omega (arith, c.type_inv.source i)) c.loop-part.invariant c.in-Some.ensures.steps c.in-Ok.is c.if-object-code.false

pub returns-in-Err : goal.returns-in-Err
returns-in-Err c =
    stops_at c.args.source.now c.args.code c.loop-part.found c.loop-part.twice c.loop-part.part-iterator c.next.new.self c.in-Some.part c.in-Err.fault
    c.loop-part.invariant c.in-Some.ensures.steps c.in-Err.is

pub returns-then-twice : goal.returns-then-twice
returns-then-twice c =
    ends_twice c.args.source.now c.args.code c.loop-part.found c.loop-part.twice c.loop-part.part-iterator c.next.new.self c.loop-part.invariant c.in-None.ensures.steps c.if-twice.true

pub returns : goal.returns
returns c =
    ends_once c.args.source.now c.args.code c.loop-part.found c.loop-part.twice c.loop-part.part-iterator c.next.new.self c.loop-part.invariant c.in-None.ensures.steps c.if-twice.false
