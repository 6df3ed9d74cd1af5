-- Units in doubt wait for their decision.
use Rattle.std.proofs.Common.{◌≡◌, inl, inr, ⊎_elim, ℕ, Bool, true, false, List, [], ◌∷◌, Option, Some, None, refl, sym, ap, subst}
use Rattle.std.specs.Prelude.{IsTrue, option_map, unwrap_or}
use Rattle.drda_words.specs.Order.{IsRising}
use Rattle.xa_calls.specs.declared.request.Request.TheVariants as request
use Rattle.xa_manager.specs.declared.branch.Branch.{Branch}
use Rattle.xa_manager.specs.declared.branch.BranchState.{BranchState}
use Rattle.xa_manager.specs.declared.branch.BranchState.TheVariants.{Active}
use Rattle.xa_manager.specs.declared.due.Action.{Action}
use Rattle.xa_manager.specs.declared.due.Action.TheVariants as action
use Rattle.xa_manager.specs.declared.due.Decision.TheVariants as decided
use Rattle.xa_manager.specs.Branch.{is_undecided, joined_xid, state_of}
use Rattle.xa_manager.specs.Laws.{JoinedIsActive, PreparedOutlives, PreparedStays, is_decision}
use Rattle.core_calls.specs.Call as call
use Rattle.core_calls.specs.Call.{Call}
use Rattle.core_model.specs.Units.{Owner, global, local}
use Rattle.core_model.specs.Events.{Ask, Commit, Event, Leave}
use Rattle.core_model.specs.Step.{action_events, events, facts, lost_xids}
use Rattle.core_model.specs.Laws.{AsksNone, Ends, InDoubtWait, IsPrepared}
use Rattle.core_model.proofs.Owners.{both}
use Rattle.core_model.proofs.Keeping.{NoAsks, of_commit, of_lost, of_roll_back, of_xa}

none_asked : (closed : List ℕ → Type 0) (es : List Event) → NoAsks es → AsksNone closed es
none_asked closed [] none = tt
none_asked closed (Ask o q ∷ es) none = absurd none
none_asked closed (Commit o ∷ es) none = none_asked closed es none
none_asked closed (Leave o ∷ es) none = none_asked closed es none

abbrev is_global : Owner → Bool
is_global (local n) = false
is_global (global x) = true

abbrev xid_in : List ℕ → Owner → List ℕ
xid_in d (local n) = d
xid_in d (global x) = x

abbrev waits : Option BranchState → Bool
waits None = false
waits (Some s) = is_undecided s

-- the owner that a conversation works for is no XID in doubt
asker : JoinedIsActive → (branches : List Branch) (c : ℕ) (xid : List ℕ) (j : Option (List ℕ)) → joined_xid branches c ≡ j → IsRising (λ (r : Branch). r.xid) branches → IsPrepared branches xid → unwrap_or (option_map (λ x. global x) j) (local c) ≡ global xid → ⊥
asker active branches c xid None is rising prepared e = both false (ap is_global e) refl
asker active branches c xid (Some x) is rising prepared e =
    let joined : state_of branches x ≡ Some (Active c) = active branches c x rising is in
    let here : state_of branches xid ≡ Some (Active c) = subst (λ (y : List ℕ). state_of branches y ≡ Some (Active c)) (ap (xid_in xid) e) joined in
    both (waits (state_of branches xid)) (ap waits prepared) (ap waits here)

ends_here : (asked xid : List ℕ) (a : Action) → asked ≡ xid → IsTrue (is_decision a) → Ends (global xid) (action_events asked a)
ends_here asked xid action.Nothing e h = both false h refl
ends_here asked xid action.Start e h = both false h refl
ends_here asked xid action.Join e h = both false h refl
ends_here asked xid (action.End d) e h = both false h refl
ends_here asked xid action.Prepare e h = both false h refl
ends_here asked xid action.EndUnchanged e h = both false h refl
ends_here asked xid action.CommitOnePhase e h = both false h refl
ends_here asked xid (action.Decide decided.Commit) e h = inl (ap global (sym e))
ends_here asked xid (action.Decide decided.RollBack) e h = inl (ap global (sym e))
ends_here asked xid action.RollBack e h = both false h refl
ends_here asked xid action.Forget e h = both false h refl

module _ (active : JoinedIsActive) (stay : PreparedStays) (outlive : PreparedOutlives) where
  pub in_doubt_wait : InDoubtWait
  in_doubt_wait branches b c (call.run st params) = record { asks = λ rising. (λ xid p e. asker active branches c xid (joined_xid branches c) refl rising p e, tt); stays = λ xid p. inl p }
  in_doubt_wait branches b c (call.query st params) = record { asks = λ rising. (λ xid p e. asker active branches c xid (joined_xid branches c) refl rising p e, tt); stays = λ xid p. inl p }
  in_doubt_wait branches b c (call.describe st d) = record { asks = λ rising. (λ xid p e. asker active branches c xid (joined_xid branches c) refl rising p e, tt); stays = λ xid p. inl p }
  in_doubt_wait branches b c call.commit = record { asks = λ rising. none_asked (IsPrepared branches) (events branches b c call.commit) (of_commit (local c) (joined_xid branches c)); stays = λ xid p. inl p }
  in_doubt_wait branches b c call.roll_back = record { asks = λ rising. none_asked (IsPrepared branches) (events branches b c call.roll_back) (of_roll_back (local c) (joined_xid branches c)); stays = λ xid p. inl p }
  in_doubt_wait branches b c (call.xa None) = record { asks = λ rising. tt; stays = λ xid p. inl p }
  in_doubt_wait branches b c (call.xa (Some request.Recover)) = record { asks = λ rising. tt; stays = λ xid p. inl p }
  in_doubt_wait branches b c (call.xa (Some (request.Branch verb asked))) = record {
    asks = λ rising. none_asked (IsPrepared branches) (events branches b c (call.xa (Some (request.Branch verb asked)))) (of_xa branches b c (Some (request.Branch verb asked)));
    stays = λ xid p. ⊎_elim (λ still. inl still) (λ d. inr (ends_here asked xid _ d.0 d.1)) (stay branches c verb asked xid (facts b c asked) p);
  }
  in_doubt_wait branches b c call.lost = record {
    asks = λ rising. none_asked (IsPrepared branches) (events branches b c call.lost) (of_lost (lost_xids branches c));
    stays = λ xid p. inl (outlive branches c xid p);
  }
