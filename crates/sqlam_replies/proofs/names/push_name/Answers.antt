use Rattle.std.proofs.Common.{ℕ, ◌++◌, ◌+◌, ◌≤◌, ◌<◌, [], ◌∷◌, ap, ◌∙◌, arith, length, get_or}
use Rattle.std.proofs.lemmas.List.{length-map}
use Rattle.std.proofs.lemmas.Option.{slice_get-get_or}
use Rattle.std.specs.Prelude.{vec_capacity}
use Rattle.sqlam_replies.specs.Names.{byte_in}
use Rattle.sqlam_replies.proofs.Appending.{room, singles, step, whole}
use Rattle.sqlam_replies.proofs.Sizes.{kept_all, kept_past, kept_same, late}
use Rattle.sqlam_replies.proofs.names.push_name.Goals as goal

pub returns-in_err-push-clause-full : goal.returns-in_err-push-clause-full
returns-in_err-push-clause-full c =
    let i = c.loop-character.character-index in
    let text = c.args.text.now in
    let lt : i < length text = omega (arith, c.loop-character-test.true) in
    let space = room (λ (b : ℕ). byte_in c.args.unicode b ∷ []) text i (get_or text i 0) c.args.out.now.items c.loop-character.out.items (slice_get-get_or text i 0 lt) c.loop-character.invariant.0 in
    let all = ap length (singles (byte_in c.args.unicode) text) ∙ length-map text (byte_in c.args.unicode) in
    let fits : length c.loop-character.out.items + 1 ≤ length c.args.out.now.items + length text = omega (arith, space, all) in
    late _ c.args.out.now c.loop-character.out 1 (length text) fits c.loop-character.invariant.1 (omega (arith, c.in_err-push.ensures.full))

pub loop-character-preserved : goal.loop-character-preserved
loop-character-preserved c =
    let i = c.loop-character.character-index in
    let text = c.args.text.now in
    let lt : i < length text = omega (arith, c.loop-character-test.true) in
    let more : vec_capacity c.args.out.now ≤ vec_capacity c.push.new.self = omega (arith, c.loop-character.invariant.1, c.in_ok-push.ensures.capacity) in
    (step (λ (b : ℕ). byte_in c.args.unicode b ∷ []) text i (get_or text i 0) c.args.out.now.items c.loop-character.out.items c.push.new.self.items (slice_get-get_or text i 0 lt) (c.in_ok-push.ensures.items ∙ ap (λ b. c.loop-character.out.items ++ b ∷ []) c.byte_in.ensures) c.loop-character.invariant.0, more)

pub returns-clause-ok : goal.returns-clause-ok
returns-clause-ok c =
    let text = c.args.text.now in
    let end : length text ≤ c.loop-character.character-index = omega (arith, c.loop-character-test.false) in
    whole (λ (b : ℕ). byte_in c.args.unicode b ∷ []) text c.loop-character.character-index c.args.out.now.items c.loop-character.out.items end c.loop-character.invariant.0
    ∙ ap (λ l. c.args.out.now.items ++ l) (singles (byte_in c.args.unicode) text)

pub returns-clause-kept : goal.returns-clause-kept
returns-clause-kept c = kept_all c.args.out.now _ c.loop-character.invariant.0.kept

pub returns-in_err-push-clause-kept : goal.returns-in_err-push-clause-kept
returns-in_err-push-clause-kept c = kept_past c.args.out.now c.loop-character.out _ c.loop-character.invariant.0.longer c.loop-character.invariant.0.kept (kept_same c.loop-character.out c.push.new.self.items c.in_err-push.ensures.items)
