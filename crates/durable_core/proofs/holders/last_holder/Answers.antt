-- A record left one of the branches in doubt, and is the last one so far, or it did not.
use Rattle.std.proofs.Common.{rules, ◌≡◌, List, inl, true, false, sym, ◌∙◌, subst}
use Rattle.unit_journal.specs.declared.record.Record.{Record}
use Rattle.unit_records.proofs.Lengths.{first_left}
use Rattle.recovery.specs.Replay.{doubts_in}
use Rattle.durable_core.specs.Holders.{IsLastHolder, NoneHolds}
use Rattle.durable_core.proofs.LeftInDoubt.{last_behind, last_here}
use Rattle.durable_core.proofs.holders.last_holder.Goals as goal

pub loop-left-preserved-then-branch : goal.loop-left-preserved-then-branch
loop-left-preserved-then-branch c =
    let doubts = doubts_in c.args.units.now in
    let first = first_left c.loop-left.left.now c.entry-item.result c.in-len1-up.len_at_least c.entry-item.is in
    let here = c.entry-item.result in
    let yes : c.in_ok-holds_for_one.field-0 ≡ true = search rules in
    record {
      later = λ at p. c.loop-left.invariant.later at (subst (λ (l : List Record). IsLastHolder doubts l at) (sym first) (last_behind doubts here _ at p));
      so_far = λ none. inl (c.loop-left.invariant.later here.at (subst (λ (l : List Record). IsLastHolder doubts l here.at) (sym first) (last_here doubts here _ (c.in_ok-holds_for_one.ensures.0 yes) none)));
    }

pub loop-left-preserved : goal.loop-left-preserved
loop-left-preserved c =
    let doubts = doubts_in c.args.units.now in
    let first = first_left c.loop-left.left.now c.entry-item.result c.in-len1-up.len_at_least c.entry-item.is in
    let here = c.entry-item.result in
    let not_so : c.in_ok-holds_for_one.field-0 ≡ false = search rules in
    record {
      later = λ at p. c.loop-left.invariant.later at (subst (λ (l : List Record). IsLastHolder doubts l at) (sym first) (last_behind doubts here _ at p));
      so_far = λ none. c.loop-left.invariant.so_far (subst (λ (l : List Record). NoneHolds doubts l) (sym first)
          ((λ p. let clash : true ≡ false = sym (c.in_ok-holds_for_one.ensures.1 p) ∙ not_so in absurd cc), none));
    }
