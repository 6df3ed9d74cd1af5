-- An ask of a desk: what its turn at the lock came to.
use Rattle.std.proofs.Common.{◌≡◌, Bool, refl, sym, subst, inr}
use Rattle.drda_disk.specs.Disk.{Life}
use Rattle.core_calls.specs.Call.{Call}
use Rattle.core_calls.specs.Answer.{Answer}
use Rattle.recovery.specs.Journaled.{Journaled, OnDisk, shown_on}
use Rattle.core_history.specs.declared.acted.Acted.{Acted}
use Rattle.core_history.specs.declared.acted.Acted.TheVariants.{Answered, StrangerPass}
use Rattle.core_history.specs.declared.pass.Pass.{Pass}
use Rattle.core_history.specs.Books.{IsKept, Told}
use Rattle.shared_node.specs.Desks.{DeskActs, DeskAsks, DeskShows, ShowsNothing, answer_told}
use Rattle.shared_node.specs.Turns.{TakesTurn}

shows_by : (pass after : Pass) (call : Call) (acted : Acted) → DeskActs pass call acted after → DeskShows pass call (answer_told acted) after
shows_by pass after call (Answered a) shows = shows
shows_by pass after call StrangerPass same = inr (record { answer_is = inr refl; same = same })

module _ {D : Type 0} (modelled : Bool) (life : D → Life) (origin : OnDisk D → Type 0) where
  pub asked : (found left : Told D) (pass after : Pass) (call : Call) (acted : Acted) (answer : Answer) → answer ≡ answer_told acted → DeskActs pass call acted after → origin found.opening → IsKept modelled life found → IsKept modelled life left
      → Journaled modelled (shown_on life found.core) (shown_on life left.core) → TakesTurn modelled life pass call acted after found left → DeskAsks modelled life origin pass call answer after
  asked found left pass after call acted answer is shows of was now journaled turn = record {
    shows = subst (λ (a : Answer). DeskShows pass call a after) (sym is) (shows_by pass after call acted shows);
    acted = acted;
    answer_is = is;
    turn = record { found = found; left = left; is_of = of; opening = turn.goes_on.opening; was_kept = was; is_kept = now; journaled = journaled; makes = turn };
  }
