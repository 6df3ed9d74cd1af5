-- A statement reads rows, in the unit that its conversation works in.
use Rattle.std.proofs.Common.{◌≡◌, ◌⊎◌, inl, inr, ℕ, Bool, List, Option, None, true, false, map, refl, sym, ap, subst, ◌∙◌}
use Rattle.row_values.specs.Value.{Value, value_of}
use Rattle.sql_text.specs.declared.tree.Statement.{Statement}
use Rattle.tables.specs.Tables.{Store}
use Rattle.unit_records.specs.Due.{record_due}
use Rattle.unit_records.specs.Records.{UnitRecord}
use Rattle.unit_records.specs.declared.record_error.RecordError.{RecordError}
use Rattle.core_calls.specs.Answer.{Answer}
use Rattle.core_model.specs.Asked.{Clashes, Done, Outcome, Question, TooMany, Unfit, answer_in, describing, querying, running}
use Rattle.core_model.specs.Events.{Base, asked_of, happens_asked}
use Rattle.core_model.specs.Misread.{Misreads, over, reads_rows}
use Rattle.core_model.specs.Step.{CoreState, answer, owner_of, step_state}
use Rattle.core_model.specs.Units.{Held, Owner}
use Rattle.ahead_view.specs.Given.{StandsFor}
use Rattle.unit_statements.specs.Given.{IsAsked, IsGiven, units_after}
use Rattle.unit_statements.specs.Question.{asked_as, question_of}
use Rattle.unit_statements.specs.declared.question.Question.{Question as CodeQuestion}
use Rattle.unit_statements.specs.declared.question.QuestionKind.{QuestionKind}
use Rattle.unit_statements.specs.declared.question.QuestionKind.TheVariants.{Query, Run}
use Rattle.rdb_core.specs.Looks.{StepsOver, call_asking}
use Rattle.rdb_core.specs.Recorded.{IsRecorded}
use Rattle.rdb_core.specs.Steps.{IsTaken}

-- ---- a question is one step

abbrev with_units : CoreState → List Held → CoreState
with_units s units = record { base = record { store = s.base.store; units = units }; branches = s.branches }

-- what a question comes to in the unit that a conversation works in
abbrev outcome_in : CoreState → ℕ → Question → Outcome
outcome_in s conversation q = asked_of s.base (owner_of s.branches conversation) q

-- only the units change, as the question comes out
happens : (b : Base) (o : Owner) (out : Outcome) → happens_asked b o out ≡ record { store = b.store; units = units_after b.units o out }
happens b o (Unfit f) = refl
happens b o Clashes = refl
happens b o TooMany = refl
happens b o (Done a u) = refl

answer_by : (q : Question) (s : CoreState) (conversation : ℕ) → answer s.branches s.base conversation (call_asking q) ≡ answer_in (outcome_in s conversation q)
answer_by (running t params) s conversation = refl
answer_by (querying t params) s conversation = refl
answer_by (describing t side) s conversation = refl

asks : (q : Question) (s : CoreState) (conversation : ℕ) → step_state s conversation (call_asking q) ≡ record { base = happens_asked s.base (owner_of s.branches conversation) (outcome_in s conversation q); branches = s.branches }
asks (running t params) s conversation = refl
asks (querying t params) s conversation = refl
asks (describing t side) s conversation = refl

step_by : (q : Question) (s : CoreState) (conversation : ℕ) → step_state s conversation (call_asking q) ≡ with_units s (units_after s.base.units (owner_of s.branches conversation) (outcome_in s conversation q))
step_by q s conversation =
    asks q s conversation ∙ ap (λ (b : Base). let t : CoreState = record { base = b; branches = s.branches } in t) (happens s.base (owner_of s.branches conversation) (outcome_in s conversation q))

none_due : (q : Question) (s : CoreState) (conversation : ℕ) → record_due s conversation (call_asking q) ≡ None
none_due (running t params) s conversation = refl
none_due (querying t params) s conversation = refl
none_due (describing t side) s conversation = refl

-- a statement that is run or a query asks for rows
as_kind : (kind : QuestionKind) (t : Statement) (params : List Value) → reads_rows (call_asking (asked_as kind t params)) ≡ true
as_kind Run t params = refl
as_kind Query t params = refl

pub asks_for_rows : (q : CodeQuestion) → reads_rows (call_asking (question_of q)) ≡ true
asks_for_rows q = as_kind q.kind q.statement.now (map value_of q.parameters.now)

-- ---- over the tables that are given

module _ {R : Type 0} (records : R → UnitRecord → R → Type 0) (fails : R → UnitRecord → RecordError → R → Type 0) (reads fails_to_read : R → R → Type 0) (old : CoreState) (conversation : ℕ) (q : Question) (reading : reads_rows (call_asking q) ≡ true) (told : Answer)
    (units : List Held) (before after : R) where
  abbrev AskedOver : Store → Type 0
  AskedOver given = IsAsked (owner_of old.branches conversation) q old.base.units units told given

  -- over the committed tables it is the step
  taken : (given : Store) → given ≡ old.base.store → AskedOver given → IsTaken old conversation (call_asking q) told (with_units old units)
  taken given same asked =
      let is : AskedOver old.base.store = subst AskedOver same asked in
      record {
        answer_is = is.answer_is ∙ sym (answer_by q old conversation);
        state = ap (with_units old) is.units_are ∙ sym (step_by q old conversation);
      }

  -- over others it is the step over these
  misread : (is_told : Bool) (given : Store) → StandsFor is_told given old.base.store → AskedOver given → Misreads old conversation (call_asking q) told (with_units old units)
  misread is_told given stands asked = record {
    reading = reading;
    given = given;
    good = stands.good;
    same = record { schemas = stands.schemas; names = stands.names };
    answer_is = asked.answer_is ∙ sym (answer_by q (over given old) conversation);
    state = ap (with_units old) asked.units_are ∙ ap (over old.base.store) (sym (step_by q (over given old) conversation));
  }

  by_told : (is_told : Bool) (given : Store) → StandsFor is_told given old.base.store → AskedOver given
      → IsTaken old conversation (call_asking q) told (with_units old units) ⊎ ((is_told ≡ false) × Misreads old conversation (call_asking q) told (with_units old units))
  by_told true given stands asked = inl (taken given (stands.told refl) asked)
  by_told false given stands asked = inr (refl, misread false given stands asked)

  by_read : (is_told : Bool) (given : Store) → AskedOver given → ((given ≡ old.base.store) × (after ≡ before)) ⊎ (StandsFor is_told given old.base.store × reads before after)
      → StepsOver is_told records fails reads fails_to_read old conversation (call_asking q) told (with_units old units) before after
  by_read is_told given asked (inl none) =
      inl (inl (record {
        taken = taken given none.0 asked;
        recorded = subst (λ (due : Option UnitRecord). IsRecorded records due before after) (sym (none_due q old conversation)) none.1;
      }))
  by_read is_told given asked (inr read) = inr (reading, inl (record { step = by_told is_told given read.0 asked; read = read.1 }))

  by_given : (is_told : Bool) (o : Owner) → o ≡ owner_of old.branches conversation → IsGiven is_told reads old.base.store before after (IsAsked o q old.base.units units told)
      → StepsOver is_told records fails reads fails_to_read old conversation (call_asking q) told (with_units old units) before after
  by_given is_told o is g = by_read is_told g.given (subst (λ (p : Owner). IsAsked p q old.base.units units told g.given) is g.told) g.read

  -- what a question comes to, of any source, where the committed tables stay
  pub asked_over : (store : Store) → store ≡ old.base.store → (is_told : Bool) (o : Owner) → o ≡ owner_of old.branches conversation → IsGiven is_told reads old.base.store before after (IsAsked o q old.base.units units told)
      → StepsOver is_told records fails reads fails_to_read old conversation (call_asking q) told (record { base = record { store = store; units = units }; branches = old.branches }) before after
  asked_over store stays is_told o is g =
      let In : Store → CoreState = λ s. record { base = record { store = s; units = units }; branches = old.branches } in
      subst (λ (s : Store). StepsOver is_told records fails reads fails_to_read old conversation (call_asking q) told (In s) before after) (sym stays) (by_given is_told o is g)
