-- The XA table: the answer to each call, by the state of its branch. In each row the first answer
-- that holds counts (C193 chapter 6; the limits are this server's).
use Rattle.std.specs.Prelude.{◌≡◌, ℕ, List, Option, Some, None, ◌==◌, nat_le, is_some, length, if◌then◌else◌}
use Rattle.xa_manager.specs.declared.branch.Branch.{Branch}
use Rattle.xa_manager.specs.declared.branch.BranchState.{BranchState}
use Rattle.xa_manager.specs.declared.branch.BranchState.TheVariants.{Active, Heuristic, Idle, RollbackOnly, Prepared}
use Rattle.xa_calls.specs.declared.request.Ending.{Ending}
use Rattle.xa_calls.specs.declared.request.Ending.TheVariants.{Kept, Failed}
use Rattle.xa_calls.specs.declared.request.Verb.{Verb}
use Rattle.xa_calls.specs.declared.request.Verb.TheVariants as verb
use Rattle.xa_calls.specs.declared.code.XaCode.{XaCode}
use Rattle.xa_calls.specs.declared.code.XaCode.TheVariants as code
use Rattle.xa_manager.specs.declared.due.Decision.{Decision}
use Rattle.xa_manager.specs.declared.due.Decision.TheVariants as decision
use Rattle.xa_manager.specs.declared.due.Action.{Action}
use Rattle.xa_manager.specs.declared.due.Action.TheVariants as action
use Rattle.xa_manager.specs.declared.due.Due.{Due}
use Rattle.xa_manager.specs.declared.due.Work.{Work}
use Rattle.xa_manager.specs.declared.due.Facts.{Facts}
use Rattle.xa_manager.specs.Branch.{joined_xid, state_of, in_doubt_count, with_branch, with_state, without}

-- only a code: the branch stays as it is
abbrev pub refused : XaCode → Due
refused c = record { code = c; action = action.Nothing }

-- XA_OK, and something to do
abbrev pub done : Action → Due
done a = record { code = code.Done; action = a }

-- what can only be rolled back is rolled back now
abbrev pub undone : Due
undone = record { code = code.RolledBack; action = action.RollBack }

-- what a transaction manager is told that comes to decide a branch which was decided heuristically so
abbrev pub heuristic_code : Decision → XaCode
heuristic_code decision.Commit = code.HeuristicallyCommitted
heuristic_code decision.RollBack = code.HeuristicallyRolledBack

-- start of an XID that is not known
abbrev pub due_of_new : Facts → Due
due_of_new f =
    if f.is_joined then refused code.Protocol
    else (if f.work.is_local then refused code.Outside
    else (if nat_le 1024 f.known then refused code.Limit
    else done action.Start))

-- a branch that the conversation may join
abbrev pub due_of_free : BranchState → Due
due_of_free (RollbackOnly _) = refused code.RolledBack
due_of_free (Active _) = refused code.Protocol
due_of_free Prepared = refused code.Protocol
due_of_free (Heuristic _) = refused code.Protocol
due_of_free (Idle _) = done action.Join

-- start with TMJOIN or TMRESUME
abbrev pub due_of_join : BranchState → Facts → Due
due_of_join s f =
    if f.is_joined then refused code.Protocol
    else (if f.work.is_local then refused code.Outside
    else due_of_free s)

-- end: by the conversation that is joined, or was the last to be
abbrev pub due_of_end : Ending → BranchState → ℕ → Due
due_of_end e (Active joined) conversation = if joined == conversation then done (action.End e) else refused code.Protocol
due_of_end e (Idle last) conversation = if last == conversation then done (action.End e) else refused code.Protocol
due_of_end e (RollbackOnly _) conversation = refused code.Protocol
due_of_end e Prepared conversation = refused code.Protocol
due_of_end e (Heuristic _) conversation = refused code.Protocol

-- prepare
abbrev pub due_of_prepare : BranchState → Facts → Due
due_of_prepare (Active _) f = refused code.Protocol
due_of_prepare Prepared f = refused code.Protocol
due_of_prepare (Heuristic _) f = refused code.Protocol
due_of_prepare (RollbackOnly _) f = undone
due_of_prepare (Idle _) f =
    if f.work.has_changes then (if nat_le 256 f.in_doubt then refused code.Limit else done action.Prepare)
    else record { code = code.ReadOnly; action = action.EndUnchanged }

-- commit of a prepared branch
abbrev pub due_of_commit : BranchState → Due
due_of_commit (Active _) = refused code.Protocol
due_of_commit (Idle _) = refused code.Protocol
due_of_commit (RollbackOnly _) = refused code.Protocol
due_of_commit Prepared = done (action.Decide decision.Commit)
due_of_commit (Heuristic d) = refused (heuristic_code d)

-- commit with TMONEPHASE
abbrev pub due_of_one_phase : BranchState → Due
due_of_one_phase (Active _) = refused code.Protocol
due_of_one_phase Prepared = refused code.Protocol
due_of_one_phase (Heuristic _) = refused code.Protocol
due_of_one_phase (RollbackOnly _) = undone
due_of_one_phase (Idle _) = done action.CommitOnePhase

-- roll back
abbrev pub due_of_roll_back : BranchState → Due
due_of_roll_back (Active _) = refused code.Protocol
due_of_roll_back Prepared = done (action.Decide decision.RollBack)
due_of_roll_back (Idle _) = done action.RollBack
due_of_roll_back (RollbackOnly _) = done action.RollBack
due_of_roll_back (Heuristic d) = refused (heuristic_code d)

-- forget: of a branch that was decided heuristically
abbrev pub due_of_forget : BranchState → Due
due_of_forget (Active _) = refused code.Protocol
due_of_forget (Idle _) = refused code.Protocol
due_of_forget (RollbackOnly _) = refused code.Protocol
due_of_forget Prepared = refused code.Protocol
due_of_forget (Heuristic _) = done action.Forget

-- the whole table; None is the state of an XID that is not known
abbrev pub due_at : Verb → Option BranchState → Facts → Due
due_at verb.Start None f = due_of_new f
due_at verb.Start (Some s) f = refused code.Duplicate
due_at verb.Join (Some s) f = due_of_join s f
due_at (verb.End e) (Some s) f = due_of_end e s f.conversation
due_at verb.Prepare (Some s) f = due_of_prepare s f
due_at verb.Commit (Some s) f = due_of_commit s
due_at verb.CommitOnePhase (Some s) f = due_of_one_phase s
due_at verb.RollBack (Some s) f = due_of_roll_back s
due_at verb.Forget (Some s) f = due_of_forget s
due_at _ None f = refused code.Unknown

-- ---- over a table

-- what the answer depends on, as the table stands
abbrev pub facts_of : List Branch → ℕ → Work → Facts
facts_of bs conversation work = record {
  conversation = conversation;
  is_joined = is_some (joined_xid bs conversation);
  work = work;
  known = length bs;
  in_doubt = in_doubt_count bs;
}

-- the answer to what a conversation asks of an XID
abbrev pub due_of : List Branch → ℕ → Verb → List ℕ → Work → Due
due_of bs conversation v xid work = due_at v (state_of bs xid) (facts_of bs conversation work)

-- this is what some call of a conversation makes due of an XID
pub record IsDue (bs : List Branch) (conversation : ℕ) (xid : List ℕ) (due : Due) : Type 0 where
  pub verb : Verb
  pub work : Work
  pub answer : due ≡ due_of bs conversation verb xid work

-- how a branch stands that a conversation has left
abbrev pub left_by : ℕ → Ending → BranchState
left_by conversation Kept = Idle conversation
left_by conversation Failed = RollbackOnly conversation

-- where a branch stands once what is due of it has been done; None is not known
abbrev pub next_state : ℕ → Action → Option BranchState → Option BranchState
next_state conversation action.Nothing s = s
next_state conversation action.Start s = Some (Active conversation)
next_state conversation action.Join s = Some (Active conversation)
next_state conversation (action.End e) s = Some (left_by conversation e)
next_state conversation action.EndUnchanged s = None
next_state conversation action.Prepare s = Some Prepared
next_state conversation action.CommitOnePhase s = None
next_state conversation (action.Decide _) s = None
next_state conversation action.RollBack s = None
next_state conversation action.Forget s = None

-- the table once what is due has been done
abbrev pub after : List Branch → ℕ → List ℕ → Action → List Branch
after bs conversation xid action.Nothing = bs
after bs conversation xid action.Start = with_branch bs (record { xid = xid; state = Active conversation })
after bs conversation xid action.Join = with_state bs xid (Active conversation)
after bs conversation xid (action.End e) = with_state bs xid (left_by conversation e)
after bs conversation xid action.EndUnchanged = without bs xid
after bs conversation xid action.Prepare = with_state bs xid Prepared
after bs conversation xid action.CommitOnePhase = without bs xid
after bs conversation xid (action.Decide _) = without bs xid
after bs conversation xid action.RollBack = without bs xid
after bs conversation xid action.Forget = without bs xid
