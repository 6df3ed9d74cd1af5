use Rattle.std.proofs.Common.{refl, sym, ◌∙◌, ◌-◌, length, take, drop, arith}
use Rattle.std.proofs.lemmas.List.{take_rest, drop_all}
use Rattle.ddm_objects.proofs.Places.{ends, passes, stops}
use Rattle.ddm_objects.proofs.parts.PartsIterator.next.Goals as goal

pub returns-then-is_empty-clause-steps : goal.returns-then-is_empty-clause-steps
returns-then-is_empty-clause-steps c =
    let source = c.args.self.now.source.now in
    let at = c.args.self.now.at in
    ends c.args.self.now (take (length source - at) (drop at source)) (take_rest source at) (sym c.is_empty.ensures ∙ c.if-is_empty.true)

pub returns-in-Ok-clause-steps : goal.returns-in-Ok-clause-steps
returns-in-Ok-clause-steps c =
    let source = c.args.self.now.source.now in
    let at = c.args.self.now.at in
    passes c.args.self.now _ (take (length source - at) (drop at source)) c.in-Ok.object c.in-Ok.field-0-1.now (take_rest source at) c.in-Ok.ensures.exact c.in-Ok.ensures.place refl refl

pub returns-in-Err-clause-steps : goal.returns-in-Err-clause-steps
returns-in-Err-clause-steps c =
    let source = c.args.self.now.source.now in
    let at = c.args.self.now.at in
    stops c.args.self.now _ (take (length source - at) (drop at source)) c.in-Err.fault (take_rest source at) (sym c.is_empty.ensures ∙ c.if-is_empty.false) c.in-Err.ensures.exact refl
    (drop_all (length source) source (omega arith))
