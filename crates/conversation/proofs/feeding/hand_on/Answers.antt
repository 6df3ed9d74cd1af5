use Rattle.std.proofs.Common.{◌≡◌, ◌≤◌, ◌∙◌, ℕ, Bool, false, arith, take, sym, ap, subst}
use Rattle.std.proofs.Math.Dec.{ltb}
use Rattle.std.proofs.lemmas.Bool.{ltb-false}
use Rattle.dss_frames.specs.Fault.{IsUnfinished}
use Rattle.conversation.specs.declared.fed.FedState.{FedState}
use Rattle.conversation.specs.Attended.{attended_by}
use Rattle.conversation.specs.Feeding.{Takes}
use Rattle.conversation.proofs.Stepping.{IsOfOne, handed, moved_on, of_one}
use Rattle.conversation.proofs.feeding.hand_on.Goals.{then-taken-gt0, else-taken-gt0}
use Rattle.conversation.proofs.feeding.hand_on.Goals as goal

none_fed : (count : ℕ) (has_fed : Bool) → has_fed ≡ ltb 0 count → has_fed ≡ false → count ≡ 0
none_fed count has_fed is not = let few : count ≤ 0 = ltb-false 0 count (sym is ∙ not) in omega (arith, few)

pub returns-clause-settled : goal.returns-clause-settled
returns-clause-settled g c =
    let count = c.feed_command-taken.result in
    let piece = c.args.piece.now in
    let step = handed g.A.Ask.asks c.stays_read.ensures.nothing c.args.front.now c.feed_command-taken.new.self c.args.asker.now (take count piece) c.args.out.now.items c.next_before-need.result c.next_before-need.new.front
    c.next_before-need.new.asker c.next_before-need.new.out.items c.requires.settled (λ un. of_one c.args.front.now.rest piece count c.feed_command-taken.ensures.within (c.feed_command-taken.ensures.first un))
    c.feed_command-taken.ensures.taken (λ shut. ap (λ (n : ℕ). take n piece) (c.feed_command-taken.ensures.closed shut)) c.next_before-need.ensures in
    step.settled

pub returns-clause-settings : goal.returns-clause-settings
returns-clause-settings g c =
    let count = c.feed_command-taken.result in
    let piece = c.args.piece.now in
    let step = handed g.A.Ask.asks c.stays_read.ensures.nothing c.args.front.now c.feed_command-taken.new.self c.args.asker.now (take count piece) c.args.out.now.items c.next_before-need.result c.next_before-need.new.front
    c.next_before-need.new.asker c.next_before-need.new.out.items c.requires.settled (λ un. of_one c.args.front.now.rest piece count c.feed_command-taken.ensures.within (c.feed_command-taken.ensures.first un))
    c.feed_command-taken.ensures.taken (λ shut. ap (λ (n : ℕ). take n piece) (c.feed_command-taken.ensures.closed shut)) c.next_before-need.ensures in
    step.settings

pub returns-clause-takes : goal.returns-clause-takes
returns-clause-takes g c =
    let asks = g.A.Ask.asks in
    let old = c.args.front.now in
    let new = c.next_before-need.new.front in
    let asked = c.args.asker.now in
    let asked' = c.next_before-need.new.asker in
    let piece = c.args.piece.now in
    let out = c.args.out.now.items in
    let out' = c.next_before-need.new.out.items in
    let count = c.feed_command-taken.result in
    let keeps : IsUnfinished old.rest → IsOfOne old.rest (take count piece) = λ un. of_one old.rest piece count c.feed_command-taken.ensures.within (c.feed_command-taken.ensures.first un) in
    let step = handed asks c.stays_read.ensures.nothing old c.feed_command-taken.new.self asked (take count piece) out c.next_before-need.result new asked' out' c.requires.settled keeps c.feed_command-taken.ensures.taken
    (λ shut. ap (λ (n : ℕ). take n piece) (c.feed_command-taken.ensures.closed shut)) c.next_before-need.ensures in
    let none : c.if-taken-gt0.state_of ≡ false → count ≡ 0 = elim c.if-taken-gt0.branch [
      | then-taken-gt0 w ↦ λ e. none_fed count c.if-taken-gt0.state_of w.state_of-is e
      | else-taken-gt0 w ↦ λ e. omega (arith, w.if-taken-gt0.false)
    ] in
    subst (λ (s : FedState). Takes asks old.settings (attended_by old asked) (take count piece) out (record { taken = count; state = s }) (attended_by new asked') out') (sym c.state_of.ensures)
    (moved_on asks c.next_before-need.result c.if-taken-gt0.state_of old asked piece out count new asked' out' c.feed_command-taken.ensures.within none c.feed_command-taken.ensures.closed c.requires.settled keeps step)
