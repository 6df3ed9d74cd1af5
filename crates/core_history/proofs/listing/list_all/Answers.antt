use Rattle.std.proofs.Common.{◌≡◌, ◌≤◌, ◌+◌, ◌∷◌, ◌++◌, ℕ, List, Option, Some, drop, length, slice_get, append_assoc, refl, sym, ap, subst, ◌∙◌, arith}
use Rattle.std.proofs.lemmas.Option.{slice_get_read}
use Rattle.serializability.specs.Answered.{AnsweredCall}
use Rattle.core_history.specs.declared.count.Count.{Count}
use Rattle.core_history.specs.declared.left.Left.{Left}
use Rattle.core_history.specs.declared.wish.Wish.{Wish}
use Rattle.core_history.specs.Gathered.{all_counted, all_left, all_listed, count_at}
use Rattle.core_history.proofs.Counting.{set_length}
use Rattle.core_history.proofs.Members.{known_still, rest_is}
use Rattle.core_history.proofs.listing.list_all.Goals as goal

pub list_one-requires-clause-numbered : goal.list_one-requires-clause-numbered
list_one-requires-clause-numbered c =
    let members = c.args.members.now in
    let w = c.member-item.result in
    let here : slice_get members c.loop-member.member-index ≡ Some w = slice_get_read members (length members) c.loop-member.member-index w refl c.loop-member-test.true c.member-item.is in
    omega (arith, (c.requires.known c.loop-member.member-index w here).numbered)

pub loop-member-preserved : goal.loop-member-preserved
loop-member-preserved c =
    let members = c.args.members.now in
    let i = c.loop-member.member-index in
    let f = c.args.has_failed in
    let more = drop (i + 1) members in
    let now = c.loop-member in
    let kept = c.loop-member.invariant in
    let done = c.list_one.ensures in
    let w = c.member-item.result in
    let here : slice_get members i ≡ Some w = slice_get_read members (length members) i w refl c.loop-member-test.true c.member-item.is in
    let rest : drop i members ≡ w ∷ more = rest_is members i w here in
    record {
      known = subst (λ (ps : List (Option Count)). (k : ℕ) (v : Wish) → i + 1 ≤ k → slice_get members k ≡ Some v → slice_get ps v.place ≡ Some (Some (count_at v))) (sym done.places)
          (known_still now.places.items members i w _ c.requires.apart here kept.known);
      calls = ap (λ (ls : List AnsweredCall). ls ++ all_listed f more) done.calls ∙ append_assoc now.calls.listed _ (all_listed f more)
          ∙ ap (λ (ws : List Wish). now.calls.listed ++ all_listed f ws) (sym rest) ∙ kept.calls;
      places = ap (λ (ps : List (Option Count)). all_counted more ps) done.places ∙ ap (λ (ws : List Wish). all_counted ws now.places.items) (sym rest) ∙ kept.places;
      left = ap (λ (ls : List (Option Left)). all_left f more ls) done.left ∙ ap (λ (ws : List Wish). all_left f ws now.left.items) (sym rest) ∙ kept.left;
      counted = λ next old. done.counted next (kept.counted next old);
      are_left = λ next old are. done.are_left next (kept.counted next old) (kept.are_left next old are);
      failures = λ b is are. done.failures b is (kept.failures b is are);
      places_stay = ap (λ (ps : List (Option Count)). length ps) done.places ∙ set_length now.places.items _ _ ∙ kept.places_stay;
      left_stay = ap (λ (ls : List (Option Left)). length ls) done.left ∙ set_length now.left.items _ _ ∙ kept.left_stay;
    }
