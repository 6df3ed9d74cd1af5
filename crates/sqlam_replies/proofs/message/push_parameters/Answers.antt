use Rattle.std.proofs.Common.{◌≡◌, ℕ, ◌+◌, ◌<◌, ◌≤◌, List, ◌++◌, Some, ap, ◌∙◌, arith, length, map, get_or}
use Rattle.std.specs.List.{flat_map, slice_get}
use Rattle.std.specs.Prelude.{vec_capacity}
use Rattle.ddm_objects.specs.Objects.{Obj}
use Rattle.ddm_objects.specs.Writing.{spelled}
use Rattle.sqlam_replies.specs.declared.message.Parameter.{Parameter}
use Rattle.sqlam_replies.specs.Parameters.{parameter_of}
use Rattle.std.proofs.lemmas.Option.{slice_get-get_or, slice_get-map}
use Rattle.std.specs.Prelude.{option_map}
use Rattle.sqlam_replies.proofs.Appending.{SoFar, room, step}
use Rattle.sqlam_replies.proofs.Sizes.{late}
use Rattle.sqlam_replies.proofs.message.push_parameters.Goals as goal

abbrev text : Obj → List ℕ
text o = spelled o.code o.value

here : (xs : List Parameter) (i : ℕ) (d : Parameter) → i < length xs → slice_get (map parameter_of xs) i ≡ Some (parameter_of (get_or xs i d))
here xs i d lt = slice_get-map parameter_of xs i ∙ ap (option_map parameter_of) (slice_get-get_or xs i d lt)

on : (xs : List Parameter) (i : ℕ) (d : Parameter) (old now next : List ℕ) → i < length xs → next ≡ now ++ spelled (get_or xs i d).code (get_or xs i d).value.now → SoFar text (map parameter_of xs) i old now → SoFar text (map parameter_of xs) (i + 1) old next
on xs i d old now next lt is s = step text (map parameter_of xs) i (parameter_of (get_or xs i d)) old now next (here xs i d lt) is s

space : (xs : List Parameter) (i : ℕ) (d : Parameter) (old now : List ℕ) → i < length xs → SoFar text (map parameter_of xs) i old now → length now + length (spelled (get_or xs i d).code (get_or xs i d).value.now) ≤ length old + length (flat_map text (map parameter_of xs))
space xs i d old now lt s = room text (map parameter_of xs) i (parameter_of (get_or xs i d)) old now (here xs i d lt) s

pub returns-in_err-put-clause-full : goal.returns-in_err-put-clause-full
returns-in_err-put-clause-full c =
    let lt : c.loop-parameter.parameter-index < length c.args.parameters.now = omega (arith, c.loop-parameter-test.true) in
    late _ c.args.out.now c.loop-parameter.out _ _ (space c.args.parameters.now c.loop-parameter.parameter-index _ c.args.out.now.items c.loop-parameter.out.items lt c.loop-parameter.invariant.0) c.loop-parameter.invariant.1 c.in_err-put.ensures.full

pub loop-parameter-preserved : goal.loop-parameter-preserved
loop-parameter-preserved c =
    let lt : c.loop-parameter.parameter-index < length c.args.parameters.now = omega (arith, c.loop-parameter-test.true) in
    let more : vec_capacity c.args.out.now ≤ vec_capacity c.put.new.out = omega (arith, c.loop-parameter.invariant.1, c.in_ok-put.ensures.capacity) in
    (on c.args.parameters.now c.loop-parameter.parameter-index _ c.args.out.now.items c.loop-parameter.out.items c.put.new.out.items lt c.in_ok-put.ensures.ok c.loop-parameter.invariant.0, more)
