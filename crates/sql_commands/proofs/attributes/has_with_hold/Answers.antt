-- The parts between blanks come in turn.
use Rattle.std.proofs.Common.{rules, tests, refl, ◌+◌, ◌∙◌, length, drop, sym, ap, arith}
use Rattle.std.specs.List.{slice_split}
use Rattle.std.proofs.lemmas.Iterator.Consumers.{YieldsList-end, YieldsList-turn}
use Rattle.std.proofs.lemmas.Iterator.Splits.{YieldsList-from_slice_split}
use Rattle.std.proofs.lemmas.List.{at_drop_all, length_push}
use Rattle.command_kit.specs.Text.{is_blank}
use Rattle.sql_commands.proofs.Holding.{at_end, at_hold, at_part, found_behind, past_empty, past_word}
use Rattle.sql_commands.proofs.attributes.has_with_hold.Goals as goal

pub loop-word-preserved-then-is_empty : goal.loop-word-preserved-then-is_empty
loop-word-preserved-then-is_empty c =
    let all = slice_split is_blank c.args.text.now in
    let t = YieldsList-turn (YieldsList-from_slice_split _ is_blank c.args.text.now (cc) (cc) refl (λ x b q k. search (rules, tests))) c.loop-word.yielded _ c.loop-word.yielded_by _ _ c.in-Some.word c.in-Some.is c.next.ensures.steps in
    let rest = drop (length c.loop-word.yielded + 1) all in
    let past = past_empty c.loop-word.is_behind_with c.in-Some.word.now rest (sym c.is_empty.ensures ∙ c.if-is_empty.true) in
    record {
      next = search rules;
      finite = search rules;
      found =
          ap (λ m. found_behind c.loop-word.is_behind_with (drop m all)) (length_push c.loop-word.yielded c.in-Some.word)
          ∙ sym (at_part c.loop-word.is_behind_with all (length c.loop-word.yielded) c.in-Some.word.now t ∙ past)
          ∙ c.loop-word.invariant.found;
    }

pub loop-word-preserved : goal.loop-word-preserved
loop-word-preserved c =
    let all = slice_split is_blank c.args.text.now in
    let t = YieldsList-turn (YieldsList-from_slice_split _ is_blank c.args.text.now (cc) (cc) refl (λ x b q k. search (rules, tests))) c.loop-word.yielded _ c.loop-word.yielded_by _ _ c.in-Some.word c.in-Some.is c.next.ensures.steps in
    let rest = drop (length c.loop-word.yielded + 1) all in
    let past = past_word c.loop-word.is_behind_with c.in-Some.word.now rest (sym c.is_empty.ensures ∙ c.if-is_empty.false) (sym c.ends_with_hold.ensures ∙ c.if-ends_with_hold.false) in
    record {
      next = search rules;
      finite = search rules;
      found =
          ap (λ m. found_behind c.is_with-is_behind_with.result (drop m all)) (length_push c.loop-word.yielded c.in-Some.word)
          ∙ ap (λ w. found_behind w rest) c.is_with-is_behind_with.ensures
          ∙ sym (at_part c.loop-word.is_behind_with all (length c.loop-word.yielded) c.in-Some.word.now t ∙ past)
          ∙ c.loop-word.invariant.found;
    }

pub returns-then-ends_with_hold : goal.returns-then-ends_with_hold
returns-then-ends_with_hold c =
    let all = slice_split is_blank c.args.text.now in
    let t = YieldsList-turn (YieldsList-from_slice_split _ is_blank c.args.text.now (cc) (cc) refl (λ x b q k. search (rules, tests))) c.loop-word.yielded _ c.loop-word.yielded_by _ _ c.in-Some.word c.in-Some.is c.next.ensures.steps in
    let rest = drop (length c.loop-word.yielded + 1) all in
    let hold = at_hold c.loop-word.is_behind_with c.in-Some.word.now rest (sym c.is_empty.ensures ∙ c.if-is_empty.false) (sym c.ends_with_hold.ensures ∙ c.if-ends_with_hold.true) in
    sym (at_part c.loop-word.is_behind_with all (length c.loop-word.yielded) c.in-Some.word.now t ∙ hold) ∙ c.loop-word.invariant.found

pub returns : goal.returns
returns c =
    let all = slice_split is_blank c.args.text.now in
    let t = YieldsList-end (YieldsList-from_slice_split _ is_blank c.args.text.now (cc) (cc) refl (λ x b q k. search (rules, tests))) c.loop-word.yielded _ c.loop-word.yielded_by _ _ c.in-None.is c.next.ensures.steps in
    sym (at_drop_all (found_behind c.loop-word.is_behind_with) all (length c.loop-word.yielded) (omega (arith, t.1)) ∙ at_end c.loop-word.is_behind_with) ∙ c.loop-word.invariant.found
