-- What a statement is answered that a unit asks, and what it makes of the unit.
use Rattle.std.specs.Prelude.{ℕ, ◌==◌, Bool, true, false, List, [], ◌∷◌, ◌++◌, length, Option, Some, None, Ok, Err, if◌then◌else◌}
use Rattle.sql_text.specs.declared.tree.Statement.{Statement}
use Rattle.sql_text.specs.declared.tree.Command.{Command}
use Rattle.sql_text.specs.declared.tree.Command.TheVariants as command
use Rattle.row_values.specs.Value.{Value}
use Rattle.row_values.specs.Schema.{Schema}
use Rattle.tables.specs.Change.{Change}
use Rattle.tables.specs.Tables.{Store, schema_of}
use Rattle.unit_locks.specs.Claim.{Claim}
use Rattle.unit_locks.specs.Claims.{all_added}
use Rattle.unit_locks.specs.declared.access.Access.TheVariants.{Read}
use Rattle.core_calls.specs.declared.call.Side.{Side}
use Rattle.core_calls.specs.declared.refusal.Refusal.TheVariants as refusal
use Rattle.core_calls.specs.declared.sql_fault.SqlFault.{SqlFault}
use Rattle.core_calls.specs.declared.sql_fault.SqlFault.TheVariants as fault
use Rattle.core_calls.specs.Answer.{Answer, count, rows, refused}
use Rattle.sql_semantics.specs.Checked.{Checked}
use Rattle.sql_semantics.specs.Scope.{claim, table_name}
use Rattle.sql_semantics.specs.Meaning.{Answer as Meant, Changes, Refused, Rows}
use Rattle.sql_semantics.specs.Frame.{changes_of, claims_in, covered_answer}
use Rattle.sql_semantics.specs.Describe.{described}
use Rattle.core_model.specs.Units.{Work, clashes, is_full, left_of, view}

-- what is asked of a unit: a statement with the values of its markers, or its description
pub data Question : Type 0 where
  running : Statement → List Value → Question
  querying : Statement → List Value → Question
  describing : Statement → Side → Question

-- ---- before it claims anything

abbrev pub is_select : Command → Bool
is_select (command.Select named table filter) = true
is_select _ = false

abbrev pub is_create : Command → Bool
is_create (command.Create table definitions key) = true
is_create _ = false

-- as many values as markers
abbrev pub number_fault : Statement → List Value → Option SqlFault
number_fault s params = if s.markers == length params then None else Some fault.ParameterMismatch

-- first the kind of the statement, then the number of its parameters
abbrev pub unfit : Question → Option SqlFault
unfit (running s params) = if is_select s.command then Some fault.NotPrepared else number_fault s params
unfit (querying s params) = if is_select s.command then number_fault s params else Some fault.NotPrepared
unfit (describing s side) = if is_create s.command then Some fault.NotPrepared else None

-- ---- over a view

-- a description of a table that is there claims nothing
abbrev pub described_claims : List ℕ → Option Schema → List Claim
described_claims table None = claim Read table None ∷ []
described_claims table (Some schema) = []

abbrev pub claims_of : Question → Store → List Claim
claims_of (running s params) v = claims_in params s.command v
claims_of (querying s params) v = claims_in params s.command v
claims_of (describing s side) v = described_claims (table_name s.command) (schema_of v (table_name s.command))

abbrev pub meant : Meant → Answer
meant (Refused f) = refused (refusal.Meaning f)
meant (Changes xs n) = count n
meant (Rows l) = rows l

abbrev pub told : Checked Answer → Answer
told (Ok a) = a
told (Err f) = refused (refusal.Meaning f)

-- left: the bytes of changes that the unit may still add
abbrev pub answer_to : Question → ℕ → Store → Answer
answer_to (running s params) left v = meant (covered_answer params left s.command v)
answer_to (querying s params) left v = meant (covered_answer params left s.command v)
answer_to (describing s side) left v = told (described side s.command (schema_of v (table_name s.command)))

abbrev pub changes_by : Question → ℕ → Store → List Change
changes_by (running s params) left v = changes_of (covered_answer params left s.command v)
changes_by (querying s params) left v = changes_of (covered_answer params left s.command v)
changes_by (describing s side) left v = []

-- ---- what becomes of the unit

pub data Outcome : Type 0 where
  -- before it claims anything
  Unfit : SqlFault → Outcome
  Clashes : Outcome
  TooMany : Outcome
  -- its claims are kept
  Done : Answer → Work → Outcome

-- the unit after a question that is done
abbrev pub kept : Work → List Claim → List Change → Work
kept u cs xs = record { changes = u.changes ++ xs; claims = all_added u.claims cs }

-- by what the question claims, is answered and changes; ds are the claims of the other units
abbrev pub outcome : List Claim → Work → List Claim → Answer → List Change → Outcome
outcome ds u cs a xs =
    if clashes cs ds then Clashes
    else (if is_full (all_added u.claims cs) then TooMany
    else Done a (kept u cs xs))

abbrev pub fit_or : Option SqlFault → Outcome → Outcome
fit_or (Some f) go = Unfit f
fit_or None go = go

-- what a unit is told over the committed store
abbrev pub asked : List Claim → Store → Work → Question → Outcome
asked ds s u q = fit_or (unfit q) (outcome ds u (claims_of q (view s u)) (answer_to q (left_of u) (view s u)) (changes_by q (left_of u) (view s u)))

abbrev pub answer_in : Outcome → Answer
answer_in (Unfit f) = refused (refusal.Unfit f)
answer_in Clashes = refused refusal.Clashes
answer_in TooMany = refused refusal.TooManyClaims
answer_in (Done a u) = a
