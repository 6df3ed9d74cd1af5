-- The laws over all calls.
use Rattle.std.proofs.Common.{◌≡◌, ℕ, ◌+◌, ◌≤◌, Bool, true, false, cond, not, eqb, List, [], ◌∷◌, Option, Some, None, refl, sym, ap, subst, inl, inr, ◌⊎◌, arith, ◌∙◌}
use Rattle.std.specs.Prelude.{find, is_some, option_map, nat_le}
use Rattle.std.specs.Str.{bytes_eq}
use Rattle.std.proofs.lemmas.Bool.{eqb-true, leb-false}
use Rattle.drda_words.specs.Order.{precedes}
use Rattle.drda_words.proofs.Precedes.{bytes_eq-refl, same_bytes}
use Rattle.xa_calls.specs.declared.request.Ending.{Ending}
use Rattle.xa_calls.specs.declared.request.Ending.TheVariants.{Kept, Failed}
use Rattle.xa_calls.specs.declared.code.XaCode.{XaCode}
use Rattle.xa_calls.specs.declared.code.XaCode.TheVariants as code
use Rattle.xa_calls.specs.declared.request.Verb.{Verb}
use Rattle.xa_calls.specs.declared.request.Verb.TheVariants as verb
use Rattle.xa_manager.specs.declared.branch.Branch.{Branch}
use Rattle.xa_manager.specs.declared.branch.BranchState.{BranchState}
use Rattle.xa_manager.specs.declared.branch.BranchState.TheVariants.{Active, Heuristic, Idle, RollbackOnly, Prepared}
use Rattle.xa_manager.specs.declared.due.Decision.{Decision}
use Rattle.xa_manager.specs.declared.due.Decision.TheVariants as decision
use Rattle.xa_manager.specs.declared.due.Action.{Action}
use Rattle.xa_manager.specs.declared.due.Action.TheVariants as action
use Rattle.xa_manager.specs.declared.due.Due.{Due}
use Rattle.xa_manager.specs.declared.due.Facts.{Facts}
use Rattle.xa_manager.specs.Branch.{is_joined_by, is_lost_with, count_of, state_of, joined_xid, with_branch, with_state, without, without_those_of}
use Rattle.xa_manager.specs.Due.{due_at, due_of_new, due_of_free, due_of_join, due_of_end, due_of_prepare, due_of_commit, due_of_one_phase, due_of_roll_back, due_of_forget, heuristic_code, refused, done, facts_of, IsDue, left_by, next_state, after}
use Rattle.xa_manager.specs.Laws.{is_decision, is_refusal, FitsAction, action_of, RefusalsDoNothing, ActionsFit, MovesOne, PreparedStays, PreparedOutlives, OnlyPreparedDecided, HeuristicStays, HeuristicOutlives, DecidesOne, JoinedIsActive, OneEach, OneEachStays, OneEachOutlives}
use Rattle.xa_manager.proofs.Rising.{Above, Rises, rises, state_of_above, unknown_parts, count_of-with_branch, count_of-with_state, count_of-filter, counted}
use Rattle.xa_manager.specs.Counts.{weight}

-- ---- what an edit at one XID leaves of the others

pub other_with_branch : (bs : List Branch) (new : Branch) (x : List ℕ) → bytes_eq new.xid x ≡ false → state_of (with_branch bs new) x ≡ state_of bs x
other_with_branch [] new x e = rw e refl
other_with_branch (b ∷ bs) new x e =
    let rest = other_with_branch bs new x e in
    let front : state_of (new ∷ b ∷ bs) x ≡ state_of (b ∷ bs) x = rw e refl in
    let behind : state_of (b ∷ with_branch bs new) x ≡ state_of (b ∷ bs) x = rw rest refl in
    elim (precedes new.xid b.xid) as (λ t. state_of (cond t (new ∷ b ∷ bs) (b ∷ with_branch bs new)) x ≡ state_of (b ∷ bs) x) [ true ↦ front | false ↦ behind ]

-- a branch whose XID is y is not that of x
not_of : (b y x : List ℕ) → bytes_eq b y ≡ true → bytes_eq y x ≡ false → bytes_eq b x ≡ false
not_of b y x e d = subst (λ (z : List ℕ). bytes_eq z x ≡ false) (sym (same_bytes b y e)) d

pub other_with_state : (bs : List Branch) (y : List ℕ) (s : BranchState) (x : List ℕ) → bytes_eq y x ≡ false → state_of (with_state bs y s) x ≡ state_of bs x
other_with_state [] y s x d = refl
other_with_state (b ∷ bs) y s x d =
    let rest = other_with_state bs y s x d in
    let set_to : Branch = record { xid = b.xid; state = s } in
    let changed : bytes_eq b.xid y ≡ true → state_of (set_to ∷ with_state bs y s) x ≡ state_of (b ∷ bs) x = λ e. rw (not_of b.xid y x e d) rest in
    let kept : state_of (b ∷ with_state bs y s) x ≡ state_of (b ∷ bs) x = rw rest refl in
    elim (bytes_eq b.xid y) as (λ t. bytes_eq b.xid y ≡ t → state_of ((cond t set_to b) ∷ with_state bs y s) x ≡ state_of (b ∷ bs) x) [ true ↦ changed | false ↦ λ e. kept ] refl

pub other_without : (bs : List Branch) (y x : List ℕ) → bytes_eq y x ≡ false → state_of (without bs y) x ≡ state_of bs x
other_without [] y x d = refl
other_without (b ∷ bs) y x d =
    let rest = other_without bs y x d in
    let dropped : bytes_eq b.xid y ≡ true → state_of (without bs y) x ≡ state_of (b ∷ bs) x = λ e. rw (not_of b.xid y x e d) rest in
    let kept : state_of (b ∷ without bs y) x ≡ state_of (b ∷ bs) x = rw rest refl in
    elim (bytes_eq b.xid y) as (λ t. bytes_eq b.xid y ≡ t → state_of (cond (not t) (b ∷ without bs y) (without bs y)) x ≡ state_of (b ∷ bs) x) [ true ↦ dropped | false ↦ λ e. kept ] refl

other_after : (bs : List Branch) (c : ℕ) (y x : List ℕ) (a : Action) → bytes_eq y x ≡ false → state_of (after bs c y a) x ≡ state_of bs x
other_after bs c y x action.Nothing d = refl
other_after bs c y x action.Start d = other_with_branch bs (record { xid = y; state = Active c }) x d
other_after bs c y x action.Join d = other_with_state bs y (Active c) x d
other_after bs c y x (action.End e) d = other_with_state bs y (left_by c e) x d
other_after bs c y x action.EndUnchanged d = other_without bs y x d
other_after bs c y x action.Prepare d = other_with_state bs y Prepared x d
other_after bs c y x action.CommitOnePhase d = other_without bs y x d
other_after bs c y x (action.Decide o) d = other_without bs y x d
other_after bs c y x action.RollBack d = other_without bs y x d
other_after bs c y x action.Forget d = other_without bs y x d

-- ---- rows

-- a test decides, and each answer may use how it came out
either : (P : Due → Type 0) (t : Bool) (d e : Due) → (t ≡ true → P d) → (t ≡ false → P e) → P (cond t d e)
either P true d e first second = first refl
either P false d e first second = second refl

-- what every row of the table keeps to
record IsRow (s : Option BranchState) (f : Facts) (d : Due) : Type 0 where
  fits : FitsAction d.action s f
  refusal : is_refusal d.code ≡ true → d.action ≡ action.Nothing

refuses : (s : Option BranchState) (f : Facts) (c : XaCode) → IsRow s f (refused c)
refuses s f c = record { fits = tt; refusal = λ e. refl }

does : (s : Option BranchState) (f : Facts) (a : Action) → FitsAction a s f → IsRow s f (done a)
does s f a fits = record { fits = fits; refusal = λ e. absurd cc }

free_row : (s : BranchState) (f : Facts) → f.is_joined ≡ false → IsRow (Some s) f (due_of_free s)
free_row (Active c) f j = refuses (Some (Active c)) f code.Protocol
free_row (Idle c) f j = does (Some (Idle c)) f action.Join ((c, refl), j)
free_row (RollbackOnly c) f j = refuses (Some (RollbackOnly c)) f code.RolledBack
free_row Prepared f j = refuses (Some Prepared) f code.Protocol
free_row (Heuristic d) f j = refuses (Some (Heuristic d)) f code.Protocol

new_row : (f : Facts) → IsRow None f (due_of_new f)
new_row f =
    either (IsRow None f) f.is_joined (refused code.Protocol) (cond f.work.is_local (refused code.Outside) (cond (nat_le 1024 f.known) (refused code.Limit) (done action.Start))) (λ e. refuses None f code.Protocol) (λ j.
    either (IsRow None f) f.work.is_local (refused code.Outside) (cond (nat_le 1024 f.known) (refused code.Limit) (done action.Start)) (λ e. refuses None f code.Outside) (λ l.
    either (IsRow None f) (nat_le 1024 f.known) (refused code.Limit) (done action.Start) (λ e. refuses None f code.Limit) (λ k. does None f action.Start (refl, j, leb-false 1024 f.known k))))

join_row : (s : BranchState) (f : Facts) → IsRow (Some s) f (due_of_join s f)
join_row s f =
    either (IsRow (Some s) f) f.is_joined (refused code.Protocol) (cond f.work.is_local (refused code.Outside) (due_of_free s)) (λ e. refuses (Some s) f code.Protocol) (λ j.
    either (IsRow (Some s) f) f.work.is_local (refused code.Outside) (due_of_free s) (λ e. refuses (Some s) f code.Outside) (λ l. free_row s f j))

end_row : (g : Ending) (s : BranchState) (f : Facts) → IsRow (Some s) f (due_of_end g s f.conversation)
end_row g (Active c) f = either (IsRow (Some (Active c)) f) (eqb c f.conversation) (done (action.End g)) (refused code.Protocol)
    (λ e. does (Some (Active c)) f (action.End g) (inl (ap (λ (n : ℕ). let s : Option BranchState = Some (Active n) in s) (eqb-true c f.conversation e)))) (λ e. refuses (Some (Active c)) f code.Protocol)
end_row g (Idle c) f = either (IsRow (Some (Idle c)) f) (eqb c f.conversation) (done (action.End g)) (refused code.Protocol)
    (λ e. does (Some (Idle c)) f (action.End g) (inr (ap (λ (n : ℕ). let s : Option BranchState = Some (Idle n) in s) (eqb-true c f.conversation e)))) (λ e. refuses (Some (Idle c)) f code.Protocol)
end_row g (RollbackOnly c) f = refuses (Some (RollbackOnly c)) f code.Protocol
end_row g Prepared f = refuses (Some Prepared) f code.Protocol
end_row g (Heuristic d) f = refuses (Some (Heuristic d)) f code.Protocol

prepare_row : (s : BranchState) (f : Facts) → IsRow (Some s) f (due_of_prepare s f)
prepare_row (Active c) f = refuses (Some (Active c)) f code.Protocol
prepare_row (Idle c) f =
    either (IsRow (Some (Idle c)) f) f.work.has_changes (cond (nat_le 256 f.in_doubt) (refused code.Limit) (done action.Prepare)) (record { code = code.ReadOnly; action = action.EndUnchanged })
    (λ e. either (IsRow (Some (Idle c)) f) (nat_le 256 f.in_doubt) (refused code.Limit) (done action.Prepare) (λ d. refuses (Some (Idle c)) f code.Limit) (λ d. does (Some (Idle c)) f action.Prepare ((c, refl), leb-false 256 f.in_doubt d)))
    (λ e. record { fits = (c, refl); refusal = λ d. absurd cc })
prepare_row (RollbackOnly c) f = record { fits = inr (c, refl); refusal = λ e. absurd cc }
prepare_row Prepared f = refuses (Some Prepared) f code.Protocol
prepare_row (Heuristic d) f = refuses (Some (Heuristic d)) f code.Protocol

one_phase_row : (s : BranchState) (f : Facts) → IsRow (Some s) f (due_of_one_phase s)
one_phase_row (Active c) f = refuses (Some (Active c)) f code.Protocol
one_phase_row (Idle c) f = does (Some (Idle c)) f action.CommitOnePhase (c, refl)
one_phase_row (RollbackOnly c) f = record { fits = inr (c, refl); refusal = λ e. absurd cc }
one_phase_row Prepared f = refuses (Some Prepared) f code.Protocol
one_phase_row (Heuristic d) f = refuses (Some (Heuristic d)) f code.Protocol

commit_row : (s : BranchState) (f : Facts) → IsRow (Some s) f (due_of_commit s)
commit_row (Active c) f = refuses (Some (Active c)) f code.Protocol
commit_row (Idle c) f = refuses (Some (Idle c)) f code.Protocol
commit_row (RollbackOnly c) f = refuses (Some (RollbackOnly c)) f code.Protocol
commit_row Prepared f = does (Some Prepared) f (action.Decide decision.Commit) refl
commit_row (Heuristic d) f = refuses (Some (Heuristic d)) f (heuristic_code d)

roll_back_row : (s : BranchState) (f : Facts) → IsRow (Some s) f (due_of_roll_back s)
roll_back_row (Active c) f = refuses (Some (Active c)) f code.Protocol
roll_back_row (Idle c) f = does (Some (Idle c)) f action.RollBack (inl (c, refl))
roll_back_row (RollbackOnly c) f = does (Some (RollbackOnly c)) f action.RollBack (inr (c, refl))
roll_back_row Prepared f = does (Some Prepared) f (action.Decide decision.RollBack) refl
roll_back_row (Heuristic d) f = refuses (Some (Heuristic d)) f (heuristic_code d)

forget_row : (s : BranchState) (f : Facts) → IsRow (Some s) f (due_of_forget s)
forget_row (Active c) f = refuses (Some (Active c)) f code.Protocol
forget_row (Idle c) f = refuses (Some (Idle c)) f code.Protocol
forget_row (RollbackOnly c) f = refuses (Some (RollbackOnly c)) f code.Protocol
forget_row Prepared f = refuses (Some Prepared) f code.Protocol
forget_row (Heuristic d) f = does (Some (Heuristic d)) f action.Forget (d, refl)

row : (v : Verb) (s : Option BranchState) (f : Facts) → IsRow s f (due_at v s f)
row verb.Start None f = new_row f
row verb.Start (Some s) f = refuses (Some s) f code.Duplicate
row verb.Join (Some s) f = join_row s f
row (verb.End g) (Some s) f = end_row g s f
row verb.Prepare (Some s) f = prepare_row s f
row verb.Commit (Some s) f = commit_row s f
row verb.CommitOnePhase (Some s) f = one_phase_row s f
row verb.RollBack (Some s) f = roll_back_row s f
row verb.Forget (Some s) f = forget_row s f
row verb.Join None f = refuses None f code.Unknown
row (verb.End g) None f = refuses None f code.Unknown
row verb.Prepare None f = refuses None f code.Unknown
row verb.Commit None f = refuses None f code.Unknown
row verb.CommitOnePhase None f = refuses None f code.Unknown
row verb.RollBack None f = refuses None f code.Unknown
row verb.Forget None f = refuses None f code.Unknown

pub refusals_do_nothing : RefusalsDoNothing
refusals_do_nothing bs c v x work e = (row v (state_of bs x) (facts_of bs c work)).refusal e

pub actions_fit : ActionsFit
actions_fit bs c v x work = (row v (state_of bs x) (facts_of bs c work)).fits

-- the same of what is due by some call
pub fits : (bs : List Branch) (c : ℕ) (x : List ℕ) (d : Due) (due : IsDue bs c x d) → FitsAction d.action (state_of bs x) (facts_of bs c due.work)
fits bs c x d due = subst (λ (e : Due). FitsAction e.action (state_of bs x) (facts_of bs c due.work)) (sym due.answer) (actions_fit bs c due.verb x due.work)

-- no decision is due but of a prepared branch
decided : (a : Action) (s : Option BranchState) (f : Facts) → FitsAction a s f → is_decision a ≡ true → s ≡ Some Prepared
decided action.Nothing s f h e = absurd cc
decided action.Start s f h e = absurd cc
decided action.Join s f h e = absurd cc
decided (action.End g) s f h e = absurd cc
decided action.EndUnchanged s f h e = absurd cc
decided action.Prepare s f h e = absurd cc
decided action.CommitOnePhase s f h e = absurd cc
decided (action.Decide o) s f h e = h
decided action.RollBack s f h e = absurd cc
decided action.Forget s f h e = absurd cc

pub only_prepared_decided : OnlyPreparedDecided
only_prepared_decided bs c v x work e = decided (action_of bs c v x work) (state_of bs x) (facts_of bs c work) (actions_fit bs c v x work) e

-- the conversation is joined to the branch
abbrev begins : Action → Bool
begins action.Start = true
begins action.Join = true
begins _ = false

-- a conversation that is joined to a branch begins and joins no other
not_begun : (a : Action) (s : Option BranchState) (f : Facts) → FitsAction a s f → (begins a ≡ false) ⊎ (f.is_joined ≡ false)
not_begun action.Nothing s f h = inl refl
not_begun action.Start s f h = inr h.1
not_begun action.Join s f h = inr h.1
not_begun (action.End g) s f h = inl refl
not_begun action.EndUnchanged s f h = inl refl
not_begun action.Prepare s f h = inl refl
not_begun action.CommitOnePhase s f h = inl refl
not_begun (action.Decide o) s f h = inl refl
not_begun action.RollBack s f h = inl refl
not_begun action.Forget s f h = inl refl

-- ---- the branch that a call names

-- the new branch, where none had its XID
same_with_branch : (bs : List Branch) (new : Branch) → state_of bs new.xid ≡ None → state_of (with_branch bs new) new.xid ≡ Some new.state
same_with_branch [] new e = rw (bytes_eq-refl new.xid) refl
same_with_branch (b ∷ bs) new e =
    let u = unknown_parts b bs new.xid e in
    let rest = same_with_branch bs new u.1 in
    let front : state_of (new ∷ b ∷ bs) new.xid ≡ Some new.state = rw (bytes_eq-refl new.xid) refl in
    let behind : state_of (b ∷ with_branch bs new) new.xid ≡ Some new.state = rw u.0 rest in
    elim (precedes new.xid b.xid) as (λ t. state_of (cond t (new ∷ b ∷ bs) (b ∷ with_branch bs new)) new.xid ≡ Some new.state) [ true ↦ front | false ↦ behind ]

-- the branch of x, which is known, with its new state
pub same_with_state : (bs : List Branch) (x : List ℕ) (t s : BranchState) → state_of bs x ≡ Some s → state_of (with_state bs x t) x ≡ Some t
same_with_state [] x t s e = absurd cc
same_with_state (b ∷ bs) x t s e =
    let set_to : Branch = record { xid = b.xid; state = t } in
    let here : bytes_eq b.xid x ≡ true → state_of (set_to ∷ with_state bs x t) x ≡ Some t = λ f. rw f refl in
    let behind : bytes_eq b.xid x ≡ false → state_of (b ∷ with_state bs x t) x ≡ Some t = λ f. rw f (same_with_state bs x t s (rw f at e)) in
    elim (bytes_eq b.xid x) as (λ q. bytes_eq b.xid x ≡ q → state_of ((cond q set_to b) ∷ with_state bs x t) x ≡ Some t) [ true ↦ here | false ↦ behind ] refl

same_without : (bs : List Branch) (x : List ℕ) → state_of (without bs x) x ≡ None
same_without [] x = refl
same_without (b ∷ bs) x =
    let rest = same_without bs x in
    let kept : bytes_eq b.xid x ≡ false → state_of (b ∷ without bs x) x ≡ None = λ f. rw f rest in
    elim (bytes_eq b.xid x) as (λ q. bytes_eq b.xid x ≡ q → state_of (cond (not q) (b ∷ without bs x) (without bs x)) x ≡ None) [ true ↦ λ f. rest | false ↦ kept ] refl

-- where the branch stands of which an action is due, what the action leaves is its next state
same_after : (bs : List Branch) (c : ℕ) (x : List ℕ) (a : Action) (f : Facts) → FitsAction a (state_of bs x) f → state_of (after bs c x a) x ≡ next_state c a (state_of bs x)
same_after bs c x action.Nothing f h = refl
same_after bs c x action.Start f h = same_with_branch bs (record { xid = x; state = Active c }) h.0
same_after bs c x action.Join f h = same_with_state bs x (Active c) (Idle h.0.0) h.0.1
same_after bs c x (action.End g) f (inl active) = same_with_state bs x (left_by c g) (Active f.conversation) active
same_after bs c x (action.End g) f (inr idle) = same_with_state bs x (left_by c g) (Idle f.conversation) idle
same_after bs c x action.EndUnchanged f h = same_without bs x
same_after bs c x action.Prepare f h = same_with_state bs x Prepared (Idle h.0.0) h.0.1
same_after bs c x action.CommitOnePhase f h = same_without bs x
same_after bs c x (action.Decide o) f h = same_without bs x
same_after bs c x action.RollBack f h = same_without bs x
same_after bs c x action.Forget f h = same_without bs x

pub moves_one : MovesOne
moves_one bs c v asked xid work =
    let a = action_of bs c v asked work in
    let same : bytes_eq asked xid ≡ true → state_of (after bs c asked a) xid ≡ next_state c a (state_of bs asked) = λ e.
    let it : asked ≡ xid = same_bytes asked xid e in
    subst (λ (y : List ℕ). state_of (after bs c asked a) y ≡ next_state c a (state_of bs asked)) it (same_after bs c asked a (facts_of bs c work) (actions_fit bs c v asked work)) in
    elim (bytes_eq asked xid) as (λ t. bytes_eq asked xid ≡ t → state_of (after bs c asked a) xid ≡ cond t (next_state c a (state_of bs asked)) (state_of bs xid)) [
      | true ↦ same
      | false ↦ λ e. other_after bs c asked xid a e
    ] refl

-- ---- a prepared branch

-- of a prepared branch, a decision is due, or nothing
at_prepared : (a : Action) (s : Option BranchState) (f : Facts) → s ≡ Some Prepared → FitsAction a s f → (a ≡ action.Nothing) ⊎ (is_decision a ≡ true)
at_prepared action.Nothing s f p h = inl refl
at_prepared action.Start s f p h = let e : None ≡ Some Prepared = sym h.0 ∙ p in absurd cc
at_prepared action.Join s f p h = let e : Some (Idle h.0.0) ≡ Some Prepared = sym h.0.1 ∙ p in absurd cc
at_prepared (action.End g) s f p (inl h) = let e : Some (Active f.conversation) ≡ Some Prepared = sym h ∙ p in absurd cc
at_prepared (action.End g) s f p (inr h) = let e : Some (Idle f.conversation) ≡ Some Prepared = sym h ∙ p in absurd cc
at_prepared action.EndUnchanged s f p h = let e : Some (Idle h.0) ≡ Some Prepared = sym h.1 ∙ p in absurd cc
at_prepared action.Prepare s f p h = let e : Some (Idle h.0.0) ≡ Some Prepared = sym h.0.1 ∙ p in absurd cc
at_prepared action.CommitOnePhase s f p h = let e : Some (Idle h.0) ≡ Some Prepared = sym h.1 ∙ p in absurd cc
at_prepared (action.Decide o) s f p h = inr refl
at_prepared action.RollBack s f p (inl h) = let e : Some (Idle h.0) ≡ Some Prepared = sym h.1 ∙ p in absurd cc
at_prepared action.RollBack s f p (inr h) = let e : Some (RollbackOnly h.0) ≡ Some Prepared = sym h.1 ∙ p in absurd cc
at_prepared action.Forget s f p h = let e : Some (Heuristic h.0) ≡ Some Prepared = sym h.1 ∙ p in absurd cc

pub prepared_stays : PreparedStays
prepared_stays bs c v asked xid work known =
    let a = action_of bs c v asked work in
    let same : bytes_eq asked xid ≡ true → (state_of (after bs c asked a) xid ≡ Some Prepared) ⊎ ((asked ≡ xid) × (is_decision a ≡ true)) = λ e.
    let it : asked ≡ xid = same_bytes asked xid e in
    let here : state_of bs asked ≡ Some Prepared = rw it known in
    let row : (a ≡ action.Nothing) ⊎ (is_decision a ≡ true) = at_prepared a (state_of bs asked) (facts_of bs c work) here (actions_fit bs c v asked work) in
    elim row [
      | inl nothing ↦ inl (subst (λ (k : Action). state_of (after bs c asked k) xid ≡ Some Prepared) (sym nothing) known)
      | inr decided ↦ inr (it, decided)
    ] in
    let other : bytes_eq asked xid ≡ false → (state_of (after bs c asked a) xid ≡ Some Prepared) ⊎ ((asked ≡ xid) × (is_decision a ≡ true)) = λ e. inl (other_after bs c asked xid a e ∙ known) in
    elim (bytes_eq asked xid) as (λ t. bytes_eq asked xid ≡ t → (state_of (after bs c asked a) xid ≡ Some Prepared) ⊎ ((asked ≡ xid) × (is_decision a ≡ true))) [ true ↦ same | false ↦ other ] refl

-- what is not lost with a conversation stays as it stands
pub outlives : (bs : List Branch) (c : ℕ) (x : List ℕ) (s : BranchState) → is_lost_with c s ≡ false → state_of bs x ≡ Some s → state_of (without_those_of bs c) x ≡ Some s
outlives [] c x s stays known = absurd cc
outlives (b ∷ bs) c x s stays known =
    let here : bytes_eq b.xid x ≡ true → state_of (without_those_of (b ∷ bs) c) x ≡ Some s = λ e.
    let is : Some b.state ≡ Some s = rw e at known in
    let state : b.state ≡ s = cc in
    rw (state, stays, e) refl in
    let behind : bytes_eq b.xid x ≡ false → state_of (without_those_of (b ∷ bs) c) x ≡ Some s = λ e.
    let known_behind : state_of bs x ≡ Some s = rw e at known in
    let rest = outlives bs c x s stays known_behind in
    let kept : state_of (b ∷ without_those_of bs c) x ≡ Some s = rw e rest in
    elim (is_lost_with c b.state) as (λ t. state_of (cond (not t) (b ∷ without_those_of bs c) (without_those_of bs c)) x ≡ Some s) [ true ↦ rest | false ↦ kept ] in
    elim (bytes_eq b.xid x) as (λ t. bytes_eq b.xid x ≡ t → state_of (without_those_of (b ∷ bs) c) x ≡ Some s) [ true ↦ here | false ↦ behind ] refl

pub prepared_outlives : PreparedOutlives
prepared_outlives bs c x known = outlives bs c x Prepared refl known

-- ---- a branch that was decided heuristically

-- it is forgotten, or nothing is due of it
at_heuristic : (a : Action) (d : Decision) (s : Option BranchState) (f : Facts) → s ≡ Some (Heuristic d) → FitsAction a s f → (a ≡ action.Nothing) ⊎ (a ≡ action.Forget)
at_heuristic action.Nothing d s f p h = inl refl
at_heuristic action.Start d s f p h = let e : None ≡ Some (Heuristic d) = sym h.0 ∙ p in absurd cc
at_heuristic action.Join d s f p h = let e : Some (Idle h.0.0) ≡ Some (Heuristic d) = sym h.0.1 ∙ p in absurd cc
at_heuristic (action.End g) d s f p (inl h) = let e : Some (Active f.conversation) ≡ Some (Heuristic d) = sym h ∙ p in absurd cc
at_heuristic (action.End g) d s f p (inr h) = let e : Some (Idle f.conversation) ≡ Some (Heuristic d) = sym h ∙ p in absurd cc
at_heuristic action.EndUnchanged d s f p h = let e : Some (Idle h.0) ≡ Some (Heuristic d) = sym h.1 ∙ p in absurd cc
at_heuristic action.Prepare d s f p h = let e : Some (Idle h.0.0) ≡ Some (Heuristic d) = sym h.0.1 ∙ p in absurd cc
at_heuristic action.CommitOnePhase d s f p h = let e : Some (Idle h.0) ≡ Some (Heuristic d) = sym h.1 ∙ p in absurd cc
at_heuristic (action.Decide o) d s f p h = let e : Some Prepared ≡ Some (Heuristic d) = sym h ∙ p in absurd cc
at_heuristic action.RollBack d s f p (inl h) = let e : Some (Idle h.0) ≡ Some (Heuristic d) = sym h.1 ∙ p in absurd cc
at_heuristic action.RollBack d s f p (inr h) = let e : Some (RollbackOnly h.0) ≡ Some (Heuristic d) = sym h.1 ∙ p in absurd cc
at_heuristic action.Forget d s f p h = inr refl

pub heuristic_stays : HeuristicStays
heuristic_stays bs c v asked xid work d known =
    let a = action_of bs c v asked work in
    let same : bytes_eq asked xid ≡ true → (state_of (after bs c asked a) xid ≡ Some (Heuristic d)) ⊎ ((asked ≡ xid) × (a ≡ action.Forget)) = λ e.
    let it : asked ≡ xid = same_bytes asked xid e in
    let here : state_of bs asked ≡ Some (Heuristic d) = rw it known in
    let row : (a ≡ action.Nothing) ⊎ (a ≡ action.Forget) = at_heuristic a d (state_of bs asked) (facts_of bs c work) here (actions_fit bs c v asked work) in
    elim row [
      | inl nothing ↦ inl (subst (λ (k : Action). state_of (after bs c asked k) xid ≡ Some (Heuristic d)) (sym nothing) known)
      | inr forgotten ↦ inr (it, forgotten)
    ] in
    let other : bytes_eq asked xid ≡ false → (state_of (after bs c asked a) xid ≡ Some (Heuristic d)) ⊎ ((asked ≡ xid) × (a ≡ action.Forget)) = λ e. inl (other_after bs c asked xid a e ∙ known) in
    elim (bytes_eq asked xid) as (λ t. bytes_eq asked xid ≡ t → (state_of (after bs c asked a) xid ≡ Some (Heuristic d)) ⊎ ((asked ≡ xid) × (a ≡ action.Forget))) [ true ↦ same | false ↦ other ] refl

pub heuristic_outlives : HeuristicOutlives
heuristic_outlives bs c x d known = outlives bs c x (Heuristic d) refl known

pub decides_one : DecidesOne
decides_one bs asked d xid known =
    let here : bytes_eq asked xid ≡ true → state_of (with_state bs asked (Heuristic d)) xid ≡ Some (Heuristic d) = λ e.
    subst (λ (y : List ℕ). state_of (with_state bs asked (Heuristic d)) y ≡ Some (Heuristic d)) (same_bytes asked xid e) (same_with_state bs asked (Heuristic d) Prepared known) in
    elim (bytes_eq asked xid) as (λ t. bytes_eq asked xid ≡ t → state_of (with_state bs asked (Heuristic d)) xid ≡ cond t (Some (Heuristic d)) (state_of bs xid)) [
      | true ↦ here
      | false ↦ λ e. other_with_state bs asked (Heuristic d) xid e
    ] refl

-- ---- the branch that a conversation is joined to

active_of : (c : ℕ) (s : BranchState) → is_joined_by c s ≡ true → s ≡ Active c
active_of c (Active d) e = ap (λ (n : ℕ). Active n) (eqb-true d c e)
active_of c (Idle d) e = absurd cc
active_of c (RollbackOnly d) e = absurd cc
active_of c Prepared e = absurd cc
active_of c (Heuristic d) e = absurd cc

-- the first branch that the conversation is joined to, or one behind it
abbrev joined_or : Bool → Branch → Option Branch → Option (List ℕ)
joined_or t b rest = option_map (λ d. d.xid) (cond t (Some b) rest)

joined_active : (bs : List Branch) (c : ℕ) (x : List ℕ) → Rises bs → joined_xid bs c ≡ Some x → state_of bs x ≡ Some (Active c)
joined_active [] c x h e = absurd cc
joined_active (b ∷ bs) c x h e =
    let here : is_joined_by c b.state ≡ true → joined_or true b (find (λ d. is_joined_by c d.state) bs) ≡ Some x → state_of (b ∷ bs) x ≡ Some (Active c) = λ t f.
    let it : b.xid ≡ x = cc in
    let same : bytes_eq b.xid x ≡ true = subst (λ (y : List ℕ). bytes_eq b.xid y ≡ true) it (bytes_eq-refl b.xid) in
    rw same (ap (λ (s : BranchState). Some s) (active_of c b.state t)) in
    let behind : joined_xid bs c ≡ Some x → state_of (b ∷ bs) x ≡ Some (Active c) = λ f.
    let rest = joined_active bs c x h.1 f in
    let twice : bytes_eq b.xid x ≡ true → cond true (Some b.state) (state_of bs x) ≡ Some (Active c) = λ t.
    let above : Above x bs = subst (λ (y : List ℕ). Above y bs) (same_bytes b.xid x t) h.0 in
    let none = state_of_above bs x above in
    absurd cc in
    elim (bytes_eq b.xid x) as (λ t. bytes_eq b.xid x ≡ t → cond t (Some b.state) (state_of bs x) ≡ Some (Active c)) [ true ↦ twice | false ↦ λ t. rest ] refl in
    elim (is_joined_by c b.state) as (λ t. is_joined_by c b.state ≡ t → joined_or t b (find (λ d. is_joined_by c d.state) bs) ≡ Some x → state_of (b ∷ bs) x ≡ Some (Active c)) [ true ↦ here | false ↦ λ t f. behind f ] refl e

pub joined_is_active : JoinedIsActive
joined_is_active bs c x h e = joined_active bs c x (rises bs h) e

-- ---- one branch for each conversation

-- a conversation that is joined to none is counted nowhere
none_counted : (bs : List Branch) (c : ℕ) → is_some (joined_xid bs c) ≡ false → count_of (is_joined_by c) bs ≡ 0
none_counted [] c e = refl
none_counted (b ∷ bs) c e =
    let one = counted (is_joined_by c) b bs in
    let here : is_joined_by c b.state ≡ true → is_some (joined_or true b (find (λ d. is_joined_by c d.state) bs)) ≡ false → count_of (is_joined_by c) (b ∷ bs) ≡ 0 = λ t f. absurd cc in
    let behind : is_joined_by c b.state ≡ false → is_some (joined_xid bs c) ≡ false → count_of (is_joined_by c) (b ∷ bs) ≡ 0 = λ t f.
    let rest = none_counted bs c f in
    let none : weight (is_joined_by c) b.state ≡ 0 = rw t refl in
    omega (arith, one, rest, none) in
    elim (is_joined_by c b.state) as (λ t. is_joined_by c b.state ≡ t → is_some (joined_or t b (find (λ d. is_joined_by c d.state) bs)) ≡ false → count_of (is_joined_by c) (b ∷ bs) ≡ 0) [ true ↦ here | false ↦ behind ] refl e

-- one more branch for c, which was joined to none
one_more : (bs : List Branch) (c d : ℕ) → OneEach bs → count_of (is_joined_by c) bs ≡ 0 → weight (is_joined_by d) (Active c) + count_of (is_joined_by d) bs ≤ 1
one_more bs c d one none = elim (eqb c d) as (λ t. eqb c d ≡ t → cond t 1 0 + count_of (is_joined_by d) bs ≤ 1) [
  | true ↦ λ e. let z : count_of (is_joined_by d) bs ≡ 0 = subst (λ (k : ℕ). count_of (is_joined_by k) bs ≡ 0) (eqb-true c d e) none in omega (arith, z)
  | false ↦ λ e. omega (arith, one d)
] refl

one_after : (bs : List Branch) (c : ℕ) (x : List ℕ) (a : Action) (f : Facts) → Rises bs → OneEach bs → FitsAction a (state_of bs x) f → ((begins a ≡ false) ⊎ (count_of (is_joined_by c) bs ≡ 0)) → OneEach (after bs c x a)
one_after bs c x action.Nothing f h one fit begun d = one d
one_after bs c x action.Start f h one fit (inl not_so) d = absurd cc
one_after bs c x action.Start f h one fit (inr none) d = omega (arith, one_more bs c d one none, count_of-with_branch (is_joined_by d) bs (record { xid = x; state = Active c }))
one_after bs c x action.Join f h one fit (inl not_so) d = absurd cc
one_after bs c x action.Join f h one fit (inr none) d = omega (arith, one_more bs c d one none, count_of-with_state (is_joined_by d) bs x (Active c) (Idle fit.0.0) h fit.0.1)
one_after bs c x (action.End Kept) f h one (inl active) begun d = omega (arith, one d, count_of-with_state (is_joined_by d) bs x (Idle c) (Active f.conversation) h active)
one_after bs c x (action.End Kept) f h one (inr idle) begun d = omega (arith, one d, count_of-with_state (is_joined_by d) bs x (Idle c) (Idle f.conversation) h idle)
one_after bs c x (action.End Failed) f h one (inl active) begun d = omega (arith, one d, count_of-with_state (is_joined_by d) bs x (RollbackOnly c) (Active f.conversation) h active)
one_after bs c x (action.End Failed) f h one (inr idle) begun d = omega (arith, one d, count_of-with_state (is_joined_by d) bs x (RollbackOnly c) (Idle f.conversation) h idle)
one_after bs c x action.Prepare f h one fit begun d = omega (arith, one d, count_of-with_state (is_joined_by d) bs x Prepared (Idle fit.0.0) h fit.0.1)
one_after bs c x action.EndUnchanged f h one fit begun d = omega (arith, one d, count_of-filter (is_joined_by d) (λ b. not (bytes_eq b.xid x)) bs)
one_after bs c x action.CommitOnePhase f h one fit begun d = omega (arith, one d, count_of-filter (is_joined_by d) (λ b. not (bytes_eq b.xid x)) bs)
one_after bs c x (action.Decide o) f h one fit begun d = omega (arith, one d, count_of-filter (is_joined_by d) (λ b. not (bytes_eq b.xid x)) bs)
one_after bs c x action.RollBack f h one fit begun d = omega (arith, one d, count_of-filter (is_joined_by d) (λ b. not (bytes_eq b.xid x)) bs)
one_after bs c x action.Forget f h one fit begun d = omega (arith, one d, count_of-filter (is_joined_by d) (λ b. not (bytes_eq b.xid x)) bs)

pub one_each_stays : OneEachStays
one_each_stays bs c v x work h one =
    let f = facts_of bs c work in
    let fit = actions_fit bs c v x work in
    let begun : (begins (action_of bs c v x work) ≡ false) ⊎ (count_of (is_joined_by c) bs ≡ 0) =
    elim (not_begun (action_of bs c v x work) (state_of bs x) f fit) [ inl not_so ↦ inl not_so | inr free ↦ inr (none_counted bs c free) ] in
    one_after bs c x (action_of bs c v x work) f (rises bs h) one fit begun

pub one_each_outlives : OneEachOutlives
one_each_outlives bs c one d = omega (arith, one d, count_of-filter (is_joined_by d) (λ b. not (is_lost_with c b.state)) bs)
