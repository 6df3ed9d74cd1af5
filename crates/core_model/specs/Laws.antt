-- What holds of each step.
use Rattle.std.specs.Prelude.{◌≡◌, ◌≢◌, ◌⊎◌, ◌≤◌, ◌<◌, ◌+◌, ℕ, Bool, true, false, List, [], ◌∷◌, ◌++◌, ◌==◌, length, Option, Some, None, Ok, Err}
use Rattle.std.specs.List.{flat_map}
use Rattle.sql_text.specs.declared.tree.Statement.{Statement}
use Rattle.row_values.specs.Value.{Value}
use Rattle.row_values.specs.Schema.{Schema}
use Rattle.drda_words.specs.Order.{IsRising}
use Rattle.tables.specs.Change.{Change, change_bytes}
use Rattle.tables.specs.Tables.{Store, schema_of}
use Rattle.tables.specs.View.{is_sound, is_store}
use Rattle.unit_locks.specs.Claim.{Claim}
use Rattle.unit_locks.specs.Claims.{AreDistinct, In, all_added}
use Rattle.unit_locks.specs.Clash.{clash}
use Rattle.xa_calls.specs.declared.code.XaCode.TheVariants as code
use Rattle.xa_calls.specs.declared.request.Verb.{Verb}
use Rattle.xa_calls.specs.declared.request.Verb.TheVariants as verb
use Rattle.xa_calls.specs.declared.request.Request.TheVariants as request
use Rattle.xa_manager.specs.declared.branch.Branch.{Branch}
use Rattle.xa_manager.specs.declared.branch.BranchState.{BranchState}
use Rattle.xa_manager.specs.declared.branch.BranchState.TheVariants.{Idle, Prepared}
use Rattle.xa_manager.specs.declared.due.Action.{Action}
use Rattle.xa_manager.specs.declared.due.Action.TheVariants as action
use Rattle.xa_manager.specs.declared.due.Decision.{Decision}
use Rattle.xa_manager.specs.declared.due.Decision.TheVariants as decided
use Rattle.xa_manager.specs.Branch.{is_lost_with, joined_xid, state_of}
use Rattle.core_calls.specs.declared.call.Side.{Side}
use Rattle.core_calls.specs.declared.refusal.Refusal.{Refusal}
use Rattle.core_calls.specs.declared.refusal.Refusal.TheVariants as refusal
use Rattle.core_calls.specs.declared.sql_fault.SqlFault.TheVariants as fault
use Rattle.core_calls.specs.Call as call
use Rattle.core_calls.specs.Call.{Call}
use Rattle.core_calls.specs.Answer as told
use Rattle.core_calls.specs.Answer.{Answer}
use Rattle.sql_semantics.specs.Frame as frame
use Rattle.sql_semantics.specs.Frame.{Within, changes_of, claims_in}
use Rattle.sql_semantics.specs.Describe.{described}
use Rattle.sql_semantics.specs.Meaning.{Changes, meaning, within_room}
use Rattle.sql_semantics.specs.Scope.{table_name}
use Rattle.core_model.specs.Units.{Held, Owner, Work, clashes, comes_before, global, has_work, idle, left_of, local, same_owner, unit_of, view}
use Rattle.core_model.specs.Asked as asked
use Rattle.core_model.specs.Asked.{Done, Question, TooMany, describing, is_create, is_select, kept, meant, outcome, querying, running}
use Rattle.core_model.specs.Events.{Ask, Base, Commit, Event, Leave}
use Rattle.core_model.specs.Step.{CoreState, MarkedCall, answer, decided_state, due_in, events, lost_xids, next, owner_of, replay, step_state}

-- the answer to a call, and the state behind it
abbrev pub answered : CoreState → ℕ → Call → Answer
answered s conversation k = answer s.branches s.base conversation k

-- ---- one unit ends or asks, and the others stay

-- the units of all other owners are as before
abbrev pub OthersStay : Owner → Base → Base → Type 0
OthersStay o b c = (p : Owner) → same_owner p o ≡ false → unit_of p c.units ≡ unit_of p b.units

-- the changes of an owner's unit are made, and it has ended with its claims
pub record Commits (o : Owner) (b c : Base) : Type 0 where
  pub store : c.store ≡ view b.store (unit_of o b.units)
  pub ended : unit_of o c.units ≡ idle
  pub others : OthersStay o b c

-- the unit has ended, and nothing else has changed
pub record RollsBack (o : Owner) (b c : Base) : Type 0 where
  pub store : c.store ≡ b.store
  pub ended : unit_of o c.units ≡ idle
  pub others : OthersStay o b c

-- ---- statements

-- what a call asks of the unit that its conversation works in
abbrev pub question_of : Call → Option Question
question_of (call.run s params) = Some (running s params)
question_of (call.query s params) = Some (querying s params)
question_of (call.describe s side) = Some (describing s side)
question_of call.commit = None
question_of call.roll_back = None
question_of (call.xa r) = None
question_of call.lost = None

-- a statement changes no unit but the one that its conversation works in; nothing is committed
pub record StatementStays (s : CoreState) (conversation : ℕ) (k : Call) : Type 0 where
  pub store : (step_state s conversation k).base.store ≡ s.base.store
  pub branches : (step_state s conversation k).branches ≡ s.branches
  pub others : OthersStay (owner_of s.branches conversation) s.base (step_state s conversation k).base

abbrev pub StatementsStay : Type 0
StatementsStay = (s : CoreState) (conversation : ℕ) (k : Call) (q : Question) → question_of k ≡ Some q → StatementStays s conversation k

-- the statement was answered by what it means, be it a refusal
abbrev pub is_meant : Answer → Bool
is_meant (told.refused (refusal.Unfit f)) = false
is_meant (told.refused refusal.Clashes) = false
is_meant (told.refused refusal.TooManyClaims) = false
is_meant _ = true

-- a statement that is refused before it has claimed changes nothing
abbrev pub RefusalsChangeNothing : Type 0
RefusalsChangeNothing = (s : CoreState) (conversation : ℕ) (k : Call) (q : Question) → question_of k ≡ Some q → is_meant (answered s conversation k) ≡ false → step_state s conversation k ≡ s

-- all claims of the one list are in the other
abbrev pub AllIn : List Claim → List Claim → Type 0
AllIn cs ds = (c : Claim) → In c cs → In c ds

-- the unit of an owner claims what it did and what a statement with these parameters claims, and none
-- of the statement's claims clashes with one of another unit
pub record Claimed (s : CoreState) (o : Owner) (statement : Statement) (params : List Value) (after : Base) : Type 0 where
  pub kept : AllIn (unit_of o s.base.units).claims (unit_of o after.units).claims
  pub new : AllIn (claims_in params statement.command (view s.base.store (unit_of o s.base.units))) (unit_of o after.units).claims
  pub apart : (p : Owner) → same_owner p o ≡ false → (c d : Claim) → In c (claims_in params statement.command (view s.base.store (unit_of o s.base.units))) → In d (unit_of p s.base.units).claims → clash c d ≡ false

-- where a statement is answered by what it means, its claims are kept, though it be refused
abbrev pub ClaimsAreKept : Type 0
ClaimsAreKept =
    (s : CoreState) (conversation : ℕ) (statement : Statement) (params : List Value)
    → (is_meant (answered s conversation (call.run statement params)) ≡ true → Claimed s (owner_of s.branches conversation) statement params (step_state s conversation (call.run statement params)).base)
    × (is_meant (answered s conversation (call.query statement params)) ≡ true → Claimed s (owner_of s.branches conversation) statement params (step_state s conversation (call.query statement params)).base)

-- the answer is what the statement means over all that its unit sees, and what that changes is added
-- at the unit's end
pub record Means (s : CoreState) (o : Owner) (statement : Statement) (params : List Value) (told : Answer) (after : Base) : Type 0 where
  pub answer : told ≡ meant (meaning params (left_of (unit_of o s.base.units)) statement.command (view s.base.store (unit_of o s.base.units)))
  pub changes : (unit_of o after.units).changes ≡ (unit_of o s.base.units).changes ++ changes_of (meaning params (left_of (unit_of o s.base.units)) statement.command (view s.base.store (unit_of o s.base.units)))

abbrev pub AnswersAreMeanings : Type 0
AnswersAreMeanings =
    (s : CoreState) (conversation : ℕ) (statement : Statement) (params : List Value) → is_store (view s.base.store (unit_of (owner_of s.branches conversation) s.base.units)) ≡ true
    → (is_meant (answered s conversation (call.run statement params)) ≡ true
    → Means s (owner_of s.branches conversation) statement params (answered s conversation (call.run statement params)) (step_state s conversation (call.run statement params)).base)
    × (is_meant (answered s conversation (call.query statement params)) ≡ true
    → Means s (owner_of s.branches conversation) statement params (answered s conversation (call.query statement params)) (step_state s conversation (call.query statement params)).base)

-- a conversation works in its local unit, or in that of the XID that it is joined to
pub record WorksIn (branches : List Branch) (conversation : ℕ) : Type 0 where
  pub alone : joined_xid branches conversation ≡ None → owner_of branches conversation ≡ local conversation
  pub joined : (xid : List ℕ) → joined_xid branches conversation ≡ Some xid → owner_of branches conversation ≡ global xid

abbrev pub WorkIsWhereJoined : Type 0
WorkIsWhereJoined = (branches : List Branch) (conversation : ℕ) → WorksIn branches conversation

-- of the wrong kind, a statement is not prepared; else it wants as many values as it has markers
abbrev pub UnfitIsRefused : Type 0
UnfitIsRefused =
    (s : CoreState) (conversation : ℕ) (statement : Statement) (params : List Value)
    → (is_select statement.command ≡ true → answered s conversation (call.run statement params) ≡ told.refused (refusal.Unfit fault.NotPrepared))
    × (is_select statement.command ≡ false → answered s conversation (call.query statement params) ≡ told.refused (refusal.Unfit fault.NotPrepared))
    × ((statement.markers == length params) ≡ false → (answered s conversation (call.run statement params) ≡ told.refused (refusal.Unfit fault.ParameterMismatch)) ⊎ (is_select statement.command ≡ true))
    × ((statement.markers == length params) ≡ false → (answered s conversation (call.query statement params) ≡ told.refused (refusal.Unfit fault.ParameterMismatch)) ⊎ (is_select statement.command ≡ false))

-- a refusal makes no change
abbrev pub RefusalsMakeNoChange : Type 0
RefusalsMakeNoChange =
    (s : CoreState) (conversation : ℕ) (k : Call) (q : Question) (r : Refusal) → question_of k ≡ Some q → answered s conversation k ≡ told.refused r
    → (unit_of (owner_of s.branches conversation) (step_state s conversation k).base.units).changes ≡ (unit_of (owner_of s.branches conversation) s.base.units).changes

-- ---- what a description claims, and of what there is one

-- the schema of the statement's table, as its unit sees it
abbrev pub schema_seen : CoreState → ℕ → Statement → Option Schema
schema_seen s conversation statement = schema_of (view s.base.store (unit_of (owner_of s.branches conversation) s.base.units)) (table_name statement.command)

-- of a table that is there it neither claims nor changes anything
abbrev pub DescriptionsClaimNothing : Type 0
DescriptionsClaimNothing =
    (s : CoreState) (conversation : ℕ) (statement : Statement) (side : Side) (schema : Schema) → schema_seen s conversation statement ≡ Some schema
    → unit_of (owner_of s.branches conversation) (step_state s conversation (call.describe statement side)).base.units ≡ unit_of (owner_of s.branches conversation) s.base.units

-- a CREATE has none; of a table that is there, every other statement is answered by its own, whatever others claim
abbrev pub AllButCreationsAreDescribed : Type 0
AllButCreationsAreDescribed =
    (s : CoreState) (conversation : ℕ) (statement : Statement) (side : Side)
    → (is_create statement.command ≡ true → answered s conversation (call.describe statement side) ≡ told.refused (refusal.Unfit fault.NotPrepared))
    × (is_create statement.command ≡ false → (schema : Schema) → schema_seen s conversation statement ≡ Some schema → length (unit_of (owner_of s.branches conversation) s.base.units).claims ≤ 65535
    → answered s conversation (call.describe statement side) ≡ asked.told (described side statement.command (Some schema)))

-- ---- the limits of a unit

-- claims that clash with none are kept up to 65,535 of the unit, and refused from one more on
abbrev pub ClaimsHaveALimit : Type 0
ClaimsHaveALimit =
    (ds : List Claim) (u : Work) (cs : List Claim) (a : Answer) (xs : List Change) → clashes cs ds ≡ false
    → (length (all_added u.claims cs) ≤ 65535 → outcome ds u cs a xs ≡ Done a (kept u cs xs))
    × (65535 < length (all_added u.claims cs) → outcome ds u cs a xs ≡ TooMany)

-- the bytes of changes
abbrev pub bytes_of : List Change → ℕ
bytes_of xs = length (flat_map change_bytes xs)

-- changes are made up to 1,048,576 bytes of the unit, and refused from one more on
abbrev pub ChangesHaveALimit : Type 0
ChangesHaveALimit =
    (u : Work) (xs : List Change) (n : ℕ)
    → (bytes_of u.changes + bytes_of xs ≤ 1048576 → within_room (left_of u) xs n ≡ Ok (Changes xs n))
    × (bytes_of u.changes ≤ 1048576 → 1048576 < bytes_of u.changes + bytes_of xs → within_room (left_of u) xs n ≡ Err fault.LimitReached)

-- ---- the ends of units

-- a commit of a conversation that is joined to no branch
abbrev pub LocalUnitsEnd : Type 0
LocalUnitsEnd =
    (s : CoreState) (conversation : ℕ) → joined_xid s.branches conversation ≡ None
    → Commits (local conversation) s.base (step_state s conversation call.commit).base × RollsBack (local conversation) s.base (step_state s conversation call.roll_back).base

-- inside of a global unit neither does anything
abbrev pub GlobalUnitsStay : Type 0
GlobalUnitsStay =
    (s : CoreState) (conversation : ℕ) (xid : List ℕ) → joined_xid s.branches conversation ≡ Some xid
    → (step_state s conversation call.commit ≡ s) × (step_state s conversation call.roll_back ≡ s)

-- outside of one they are done, inside of one both are refused
abbrev pub EndsAreAnswered : Type 0
EndsAreAnswered =
    (s : CoreState) (conversation : ℕ)
    → (joined_xid s.branches conversation ≡ None → (answered s conversation call.commit ≡ told.done) × (answered s conversation call.roll_back ≡ told.done))
    × ((xid : List ℕ) → joined_xid s.branches conversation ≡ Some xid → (answered s conversation call.commit ≡ told.in_global) × (answered s conversation call.roll_back ≡ told.in_global))

-- what each action does to the units
abbrev pub Does : Action → Owner → Base → Base → Type 0
Does action.Nothing o b c = c ≡ b
Does action.Start o b c = c ≡ b
Does action.Join o b c = c ≡ b
Does (action.End e) o b c = c ≡ b
Does action.Prepare o b c = c ≡ b
Does action.EndUnchanged o b c = Commits o b c
Does action.CommitOnePhase o b c = Commits o b c
Does (action.Decide decided.Commit) o b c = Commits o b c
Does (action.Decide decided.RollBack) o b c = RollsBack o b c
Does action.RollBack o b c = RollsBack o b c
Does action.Forget o b c = c ≡ b

-- a heuristic decision does to the units what the transaction manager's would, and leaves every other branch
abbrev pub HeuristicsWork : Type 0
HeuristicsWork = (s : CoreState) (xid : List ℕ) (d : Decision) → Does (action.Decide d) (global xid) s.base (decided_state s xid d).base

-- an XA call does to the units what is due of its branch: a prepare keeps all claims, reading ones too
abbrev pub BranchesWork : Type 0
BranchesWork =
    (s : CoreState) (conversation : ℕ) (verb : Verb) (xid : List ℕ)
    → Does (due_in s.branches s.base conversation verb xid).action (global xid) s.base (step_state s conversation (call.xa (Some (request.Branch verb xid)))).base

-- what a call of an XID is answered
abbrev pub answered_of : CoreState → ℕ → Verb → List ℕ → Answer
answered_of s conversation verb xid = answered s conversation (call.xa (Some (request.Branch verb xid)))

abbrev pub has_local_work : CoreState → ℕ → Bool
has_local_work s conversation = has_work (unit_of (local conversation) s.base.units)

-- who is joined to no branch starts one, or joins one, only where the local unit has neither claims nor changes
abbrev pub StartsWantNoWork : Type 0
StartsWantNoWork =
    (s : CoreState) (conversation : ℕ) (xid : List ℕ) → joined_xid s.branches conversation ≡ None
    → (state_of s.branches xid ≡ None → has_local_work s conversation ≡ true → answered_of s conversation verb.Start xid ≡ told.xa code.Outside)
    × ((state : BranchState) → state_of s.branches xid ≡ Some state → has_local_work s conversation ≡ true → answered_of s conversation verb.Join xid ≡ told.xa code.Outside)
    × (state_of s.branches xid ≡ None → has_local_work s conversation ≡ false → length s.branches < 1024 → answered_of s conversation verb.Start xid ≡ told.xa code.Done)
    × ((last : ℕ) → state_of s.branches xid ≡ Some (Idle last) → has_local_work s conversation ≡ false → answered_of s conversation verb.Join xid ≡ told.xa code.Done)

-- ---- the loss of a conversation

abbrev pub InXids : List ℕ → List (List ℕ) → Type 0
InXids xid [] = ⊥
InXids xid (x ∷ xs) = (xid ≡ x) ⊎ InXids xid xs

pub record LosesAll (s : CoreState) (conversation : ℕ) (after : Base) : Type 0 where
  pub store : after.store ≡ s.base.store
  -- its local unit has ended
  pub local_unit : unit_of (local conversation) after.units ≡ idle
  -- and the unit of each branch that it was the last to start or join, and that is not prepared
  pub branches : (xid : List ℕ) (state : BranchState) → state_of s.branches xid ≡ Some state → is_lost_with conversation state ≡ true → unit_of (global xid) after.units ≡ idle
  -- the local units of other conversations, and the units of other XIDs, stay
  pub others : (other : ℕ) → other ≢ conversation → unit_of (local other) after.units ≡ unit_of (local other) s.base.units
  pub globals : (xid : List ℕ) → (InXids xid (lost_xids s.branches conversation) → ⊥) → unit_of (global xid) after.units ≡ unit_of (global xid) s.base.units

abbrev pub LostLeavesNothing : Type 0
LostLeavesNothing = (s : CoreState) (conversation : ℕ) → LosesAll s conversation (step_state s conversation call.lost).base

-- ---- what every step keeps

-- each change of a unit lies in a write claim of it; a creation in one of all tables' names too
abbrev pub LiesIn : Store → Work → Type 0
LiesIn s u = (x : Change) → frame.In x u.changes → Within s x u.claims

abbrev pub AllLie : Base → Type 0
AllLie b = (o : Owner) → LiesIn b.store (unit_of o b.units)

-- where the unit that the conversation works in sees a store
abbrev pub ChangesLie : Type 0
ChangesLie = (s : CoreState) (conversation : ℕ) (k : Call) → is_store (view s.base.store (unit_of (owner_of s.branches conversation) s.base.units)) ≡ true → AllLie s.base → AllLie (step_state s conversation k).base

-- no claims of two units clash, but those of two that are found
abbrev pub AreApart : (Owner → Bool) → Base → Type 0
AreApart found b = (o p : Owner) → same_owner p o ≡ false → found o ≡ false → (c d : Claim) → In c (unit_of o b.units).claims → In d (unit_of p b.units).claims → clash c d ≡ false

-- the units that an opening found in doubt may clash, and nothing is asked of them
abbrev pub UnitsStayApart : Type 0
UnitsStayApart =
    (found : Owner → Bool) (s : CoreState) (conversation : ℕ) (k : Call) → found (owner_of s.branches conversation) ≡ false → AreApart found s.base → AreApart found (step_state s conversation k).base

-- each unit's claims are at most 65,535, and none stands there twice
abbrev pub AreFew : Base → Type 0
AreFew b = (o : Owner) → (length (unit_of o b.units).claims ≤ 65535) × AreDistinct (unit_of o b.units).claims

abbrev pub ClaimsStayFew : Type 0
ClaimsStayFew = (s : CoreState) (conversation : ℕ) (k : Call) → AreFew s.base → AreFew (step_state s conversation k).base

-- the committed store is one, and what a unit creates has a name and a schema
abbrev pub AreSound : Base → Type 0
AreSound b = (is_store b.store ≡ true) × ((o : Owner) (x : Change) → frame.In x (unit_of o b.units).changes → is_sound x ≡ true)

-- so what each unit sees is a store too
abbrev pub UnitsSeeStores : Type 0
UnitsSeeStores = (b : Base) → AreSound b → (o : Owner) → is_store (view b.store (unit_of o b.units)) ≡ true

abbrev pub StoresStay : Type 0
StoresStay = (s : CoreState) (conversation : ℕ) (k : Call) → AreSound s.base → AreSound (step_state s conversation k).base

-- each unit that is listed has work, and they stand in the order of their owners, each once
abbrev pub ComesFirst : Owner → List Held → Type 0
ComesFirst o [] = Unit {0}
ComesFirst o (h ∷ hs) = (comes_before o h.owner ≡ true) × ComesFirst o hs

abbrev pub AreListed : List Held → Type 0
AreListed [] = Unit {0}
AreListed (h ∷ hs) = (has_work h.work ≡ true) × ComesFirst h.owner hs × AreListed hs

abbrev pub UnitsStayListed : Type 0
UnitsStayListed = (s : CoreState) (conversation : ℕ) (k : Call) → AreListed s.base.units → AreListed (step_state s conversation k).base.units

-- so the same units are listed in one way alone
abbrev pub OneListing : Type 0
OneListing = (hs ks : List Held) → AreListed hs → AreListed ks → ((o : Owner) → unit_of o hs ≡ unit_of o ks) → hs ≡ ks

-- what holds of a core at every point of a history
pub record IsSane (b : Base) : Type 0 where
  pub listed : AreListed b.units
  pub sound : AreSound b
  pub lie : AllLie b
  pub few : AreFew b

-- whatever is called and by whom, and whichever steps were taken
abbrev pub HistoriesAreSane : Type 0
HistoriesAreSane = (history : List MarkedCall) (s : CoreState) → IsSane s.base → IsSane (replay history s).base

abbrev pub NewCoresAreSane : Type 0
NewCoresAreSane = IsSane (record { store = []; units = [] })

-- ---- units in doubt

-- nothing is asked of the units of these XIDs
abbrev pub AsksNone : (List ℕ → Type 0) → List Event → Type 0
AsksNone closed [] = Unit {0}
AsksNone closed (Ask o q ∷ es) = ((xid : List ℕ) → closed xid → o ≡ global xid → ⊥) × AsksNone closed es
AsksNone closed (Commit o ∷ es) = AsksNone closed es
AsksNone closed (Leave o ∷ es) = AsksNone closed es

-- some event ends the owner's unit
abbrev pub Ends : Owner → List Event → Type 0
Ends o [] = ⊥
Ends o (Ask p q ∷ es) = Ends o es
Ends o (Commit p ∷ es) = (o ≡ p) ⊎ Ends o es
Ends o (Leave p ∷ es) = (o ≡ p) ⊎ Ends o es

abbrev pub IsPrepared : List Branch → List ℕ → Type 0
IsPrepared branches xid = state_of branches xid ≡ Some Prepared

-- no call asks anything of a unit in doubt, and where its branch is no longer prepared, the unit ends
pub record InDoubtWaits (branches : List Branch) (b : Base) (conversation : ℕ) (k : Call) : Type 0 where
  pub asks : IsRising (λ r. r.xid) branches → AsksNone (IsPrepared branches) (events branches b conversation k)
  pub stays : (xid : List ℕ) → IsPrepared branches xid → IsPrepared (next branches b conversation k) xid ⊎ Ends (global xid) (events branches b conversation k)

abbrev pub InDoubtWait : Type 0
InDoubtWait = (branches : List Branch) (b : Base) (conversation : ℕ) (k : Call) → InDoubtWaits branches b conversation k
