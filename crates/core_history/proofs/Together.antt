-- Calls that are made together lead from the core before them to the core behind them.
use Rattle.std.proofs.Common.{◌≡◌, Bool, true, false, List, [], ◌∷◌, ◌++◌, refl, sym, subst}
use Rattle.drda_disk.specs.Disk.{Life}
use Rattle.core_model.specs.Step.{CoreState, step_state}
use Rattle.core_model.specs.Units.{Held}
use Rattle.unit_records.specs.Together.{AreTaken, all_made, call_for}
use Rattle.serializability.specs.Answered.{AnsweredCall, CallsLead, CallsLeadOn}
use Rattle.recovery.specs.Journaled.{OnDisk}
use Rattle.core_history.specs.declared.wish.Wish.{Wish}
use Rattle.core_history.specs.Wishes.{listed_wish}
use Rattle.core_history.specs.Gathered.{MakesTogether, all_listed, group_of}

-- each is answered that it was done, by a step of its own
each_leads : CallsLeadOn → (s : CoreState) (units : List Held) (members : List Wish) → AreTaken units (group_of members) s → CallsLead s (all_listed false members) (all_made (group_of members) s)
each_leads on s units [] taken = on.none s
each_leads on s units (w ∷ ws) taken =
    let (here, record_is, rest) = taken in
    let t : CoreState = step_state s w.conversation (call_for w.wished) in
    let l : AnsweredCall = listed_wish w.conversation w.wished false in
    on.both s t (all_made (group_of ws) t) (l ∷ []) (all_listed false ws) (on.one s l (sym here)) (each_leads on t units ws rest)

-- or each is answered by an excuse
none_leads : CallsLeadOn → (s : CoreState) (members : List Wish) → CallsLead s (all_listed true members) s
none_leads on s [] = on.none s
none_leads on s (w ∷ ws) = let l : AnsweredCall = listed_wish w.conversation w.wished true in on.both s s s (l ∷ []) (all_listed true ws) (on.one s l refl) (none_leads on s ws)

module _ {D : Type 0} (life : D → Life) where
  members_lead : CallsLeadOn → (old new : OnDisk D) (members : List Wish) (f : Bool) → MakesTogether life old members f new → CallsLead old.state (all_listed f members) new.state
  members_lead on old new members true together = subst (λ (s : CoreState). CallsLead old.state (all_listed true members) s) (sym together.state) (none_leads on old.state members)
  members_lead on old new members false together = subst (λ (s : CoreState). CallsLead old.state (all_listed false members) s) (sym together.state) (each_leads on old.state old.state.base.units members together.taken)

  pub leads_together : CallsLeadOn → (first : CoreState) (calls : List AnsweredCall) (old new : OnDisk D) (members : List Wish) (f : Bool) → CallsLead first calls old.state
      → MakesTogether life old members f new → CallsLead first (calls ++ all_listed f members) new.state
  leads_together on first calls old new members f lead together = on.both first old.state new.state calls (all_listed f members) lead (members_lead on old new members f together)
