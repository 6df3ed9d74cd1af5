-- Calls with what they were really answered: the units that were committed, each with its questions and just these answers,
-- are in serial order, by the core's own step.
use Rattle.std.specs.Prelude.{◌≡◌, ℕ, Bool, true, false, List, [], ◌∷◌, ◌++◌, map, Option, Some, None, if◌then◌else◌}
use Rattle.std.specs.Option.{option_and_then}
use Rattle.drda_words.specs.Order.{IsRising}
use Rattle.tables.specs.Tables.{Store}
use Rattle.core_calls.specs.Call.{Call}
use Rattle.core_calls.specs.Answer.{Answer, refused}
use Rattle.core_calls.specs.declared.refusal.Refusal.TheVariants as refusal
use Rattle.core_calls.specs.declared.sql_fault.SqlFault.{SqlFault}
use Rattle.core_model.specs.Units.{Owner, Work, global, has_work, idle, same_owner, unit_of, view}
use Rattle.core_model.specs.Asked.{Clashes, Done, Outcome, Question, TooMany, Unfit, answer_in, asked, unfit}
use Rattle.core_model.specs.Events.{Ask, Base, Commit, Event, Leave, asked_of, bare}
use Rattle.core_model.specs.Step.{CoreState, Kept, Mark, MarkedCall, Taken, events, owner_of, replay, step_by, step_state}
use Rattle.core_model.specs.Laws.{AllLie, AreSound, IsPrepared, answered, is_meant, question_of}
use Rattle.serializability.specs.Events.{Ended, Entry, start}
use Rattle.serializability.specs.Serial.{Unless}
use Rattle.serializability.specs.CoreWords.{core_units, core_words, to_work}
use Rattle.serializability.specs.Histories.{Story, story}
use Rattle.serializability.specs.Belonging.{is_excuse}

-- ---- calls with their answers

-- a call of a conversation, whether its step was taken, and what it was answered
pub record AnsweredCall : Type 0 where
  pub conversation : ℕ
  pub call : Call
  pub mark : Mark
  pub answer : Answer

-- without their answers they are a history
abbrev pub history_of : List AnsweredCall → List MarkedCall
history_of [] = []
history_of (l ∷ ls) = record { conversation = l.conversation; call = l.call; mark = l.mark } ∷ history_of ls

-- a step that is taken answers, and where none is an excuse comes in its place
abbrev pub IsAnswer : Mark → CoreState → ℕ → Call → Answer → Type 0
IsAnswer Taken s conversation k answer = answer ≡ answered s conversation k
IsAnswer Kept s conversation k answer = is_excuse answer ≡ true

-- from this state on each call was answered so
abbrev pub AreAnswers : CoreState → List AnsweredCall → Type 0
AreAnswers s [] = Unit {0}
AreAnswers s (l ∷ ls) = IsAnswer l.mark s l.conversation l.call l.answer × AreAnswers (step_by l.mark s l.conversation l.call) ls

-- calls, each answered so, lead from the one state to the other
pub record CallsLead (s : CoreState) (calls : List AnsweredCall) (t : CoreState) : Type 0 where
  pub answers : AreAnswers s calls
  pub state : replay (history_of calls) s ≡ t

-- calls one after another
pub record CallsLeadOn : Type 0 where
  pub none : (s : CoreState) → CallsLead s [] s
  pub one : (s : CoreState) (l : AnsweredCall)
      → IsAnswer l.mark s l.conversation l.call l.answer → CallsLead s (l ∷ []) (step_by l.mark s l.conversation l.call)
  pub both : (s t u : CoreState) (calls more : List AnsweredCall) → CallsLead s calls t → CallsLead t more u → CallsLead s (calls ++ more) u

-- ---- the units, as the calls and their answers tell them

pub record AnsweredQuestion : Type 0 where
  pub question : Question
  pub answer : Answer

-- a unit that was committed: its questions, or that the opening found it in doubt; and what it changed and claimed
pub record CommittedUnit : Type 0 where
  pub is_found : Bool
  pub asked : List AnsweredQuestion
  pub work : Work

-- each unit's questions so far, whether the opening found it in doubt, and the units that were committed, in their order
pub record Logbook : Type 0 where
  pub logs : Owner → List AnsweredQuestion
  pub found : Owner → Bool
  pub ended : List CommittedUnit

abbrev pub with_log : Owner → List AnsweredQuestion → (Owner → List AnsweredQuestion) → Owner → List AnsweredQuestion
with_log o log logs p = if same_owner p o then log else logs p

abbrev pub without_found : Owner → (Owner → Bool) → Owner → Bool
without_found o found p = if same_owner p o then false else found p

-- a question counts unless it was refused for what other units claim, or for the number of claims
abbrev pub is_counted : Answer → Bool
is_counted (refused refusal.Clashes) = false
is_counted (refused refusal.TooManyClaims) = false
is_counted _ = true

abbrev pub entered : Owner → Question → Answer → Logbook → Logbook
entered o q answer book =
    if is_counted answer
    then record book { logs = with_log o (book.logs o ++ record { question = q; answer = answer } ∷ []) book.logs }
    else book

-- a unit that ends leaves its log, and is listed where it is committed
abbrev pub ended_by : Base → Event → Logbook → Logbook
ended_by b (Ask o q) book = book
ended_by b (Commit o) book = record {
  logs = with_log o [] book.logs;
  found = without_found o book.found;
  ended = book.ended ++ record { is_found = book.found o; asked = book.logs o; work = unit_of o b.units } ∷ [];
}
ended_by b (Leave o) book = record { logs = with_log o [] book.logs; found = without_found o book.found; ended = book.ended }

abbrev pub all_ended : List Event → Base → Logbook → Logbook
all_ended [] b book = book
all_ended (e ∷ es) b book = all_ended es (bare b e) (ended_by b e book)

-- a question is entered for the unit that its conversation works in; any other call ends units or none
abbrev pub logged_for : Option Question → CoreState → ℕ → Call → Answer → Logbook → Logbook
logged_for (Some q) s conversation k answer book = entered (owner_of s.branches conversation) q answer book
logged_for None s conversation k answer book = all_ended (events s.branches s.base conversation k) s.base book

-- a call whose step was not taken leaves the book
abbrev pub logged : Mark → CoreState → ℕ → Call → Answer → Logbook → Logbook
logged Taken s conversation k answer book = logged_for (question_of k) s conversation k answer book
logged Kept s conversation k answer book = book

abbrev pub all_logged : List AnsweredCall → CoreState → Logbook → Logbook
all_logged [] s book = book
all_logged (l ∷ ls) s book = all_logged ls (step_by l.mark s l.conversation l.call) (logged l.mark s l.conversation l.call l.answer book)

-- at an opening, which found the units with work in doubt
abbrev pub new_book : CoreState → Logbook
new_book s = record { logs = λ o. []; found = λ o. has_work (unit_of o s.base.units); ended = [] }

abbrev pub committed : CoreState → List AnsweredCall → List CommittedUnit
committed s calls = (all_logged calls s (new_book s)).ended

-- ---- the serial run

-- what becomes of a unit that asks
abbrev pub work_after : Work → Outcome → Work
work_after u (Unfit f) = u
work_after u Clashes = u
work_after u TooMany = u
work_after u (Done answer v) = v

-- over a store and with no other unit beside it, a unit's questions are answered so, one after another, and lead from the one
-- work to the other
abbrev pub AnsweredAlone : Store → Work → List AnsweredQuestion → Work → Type 0
AnsweredAlone s u [] v = u ≡ v
AnsweredAlone s u (a ∷ more) v =
    (answer_in (asked [] s u a.question) ≡ a.answer) × AnsweredAlone s (work_after u (asked [] s u a.question)) more v

-- so are units, each in the store that those before it have left; one that the opening found in doubt has its changes alone
abbrev pub SerialRun : Store → List CommittedUnit → Store → Type 0
SerialRun s [] t = s ≡ t
SerialRun s (unit ∷ units) t = Unless unit.is_found (AnsweredAlone s idle unit.asked unit.work) × SerialRun (view s unit.work) units t

-- each unit with work is that of a prepared branch
abbrev pub AllPrepared : CoreState → Type 0
AllPrepared s = (o : Owner) → has_work (unit_of o s.base.units) ≡ true → (xid : List ℕ) × (o ≡ global xid) × IsPrepared s.branches xid

-- what is asked of an opening: one store, branches that rise, no work but of prepared branches, each change in a write claim
pub record Begins (s : CoreState) : Type 0 where
  pub sound : AreSound s.base
  pub lie : AllLie s.base
  pub rising : IsRising (λ b. b.xid) s.branches
  pub prepared : AllPrepared s

-- the committed units, with the answers that they really had, lead alone one after another to the committed store
abbrev pub AnswersAreSerial : Type 0
AnswersAreSerial =
    (s t : CoreState) (calls : List AnsweredCall)
    → Begins s → CallsLead s calls t → SerialRun s.base.store (committed s calls) t.base.store

-- ---- the logs of the law over words

abbrev pub if_fit : Option SqlFault → AnsweredQuestion → List (Entry core_words) → List (Entry core_words)
if_fit (Some f) a log = log
if_fit None a log = record { call = a.question; answer = a.answer } ∷ log

-- the questions that are fit
abbrev pub fit_log : List AnsweredQuestion → List (Entry core_words)
fit_log [] = []
fit_log (a ∷ more) = if_fit (unfit a.question) a (fit_log more)

abbrev pub fit_unit : CommittedUnit → Ended core_words
fit_unit unit = record { is_found = unit.is_found; log = fit_log unit.asked; work = to_work unit.work }

abbrev pub story_at : CoreState → Story
story_at s = record { branches = s.branches; world = start core_words core_units s.base.store s.base.units }

-- its entries are the questions that were fit and done, with the answers that these really had, and it has no other
pub record LogsAre (s : CoreState) (calls : List AnsweredCall) : Type 0 where
  pub logs : (story (history_of calls) (story_at s)).world.logs ≡ (λ o. fit_log ((all_logged calls s (new_book s)).logs o))
  pub ended : (story (history_of calls) (story_at s)).world.ended ≡ map fit_unit (committed s calls)

abbrev pub LogsAreAnswers : Type 0
LogsAreAnswers = (s : CoreState) (calls : List AnsweredCall) → Begins s → AreAnswers s calls → LogsAre s calls

-- ---- what an answer tells of its question

abbrev pub was_done : Outcome → Bool
was_done (Unfit f) = false
was_done Clashes = false
was_done TooMany = false
was_done (Done answer u) = true

abbrev pub was_counted : Outcome → Bool
was_counted (Unfit f) = true
was_counted Clashes = false
was_counted TooMany = false
was_counted (Done answer u) = true

-- it is answered by its meaning just where it was fit and done, and counts just where it was done or unfit
pub record IsTold (outcome : Outcome) : Type 0 where
  pub done : is_meant (answer_in outcome) ≡ was_done outcome
  pub counted : is_counted (answer_in outcome) ≡ was_counted outcome

abbrev pub AnswersTell : Type 0
AnswersTell = (b : Base) (o : Owner) (q : Question) → IsTold (asked_of b o q)

-- ---- what is unfit

-- why a call is refused before anything is looked at but its text and its parameters
abbrev pub unfit_call : Call → Option SqlFault
unfit_call k = option_and_then unfit (question_of k)

-- it is answered so in every state, by whomever it comes, and changes nothing
pub record IsUnfit (s : CoreState) (conversation : ℕ) (k : Call) (f : SqlFault) : Type 0 where
  pub answer : answered s conversation k ≡ refused (refusal.Unfit f)
  pub state : step_state s conversation k ≡ s

abbrev pub UnfitIsTheSame : Type 0
UnfitIsTheSame = (s : CoreState) (conversation : ℕ) (k : Call) (f : SqlFault) → unfit_call k ≡ Some f → IsUnfit s conversation k f
