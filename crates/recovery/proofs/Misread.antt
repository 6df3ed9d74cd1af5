-- A statement that is given other rows keeps a core, and changes nothing durable.
use Rattle.std.proofs.Common.{◌≡◌, ℕ, true, None, refl, sym, ◌∙◌, ap, subst}
use Rattle.std.proofs.lemmas.Bool.{false≢true}
use Rattle.tables.specs.Tables.{Store}
use Rattle.tables.specs.View.{is_store}
use Rattle.core_calls.specs.Call as call
use Rattle.core_calls.specs.Call.{Call}
use Rattle.core_model.specs.Asked.{querying, running}
use Rattle.core_model.specs.Events.{asked_of}
use Rattle.core_model.specs.Misread.{SameTables, over, reads_rows}
use Rattle.core_model.specs.Step.{CoreState, owner_of, step_state}
use Rattle.core_model.specs.Units.{unit_of}
use Rattle.core_model.proofs.Happening.{store_stays}
use Rattle.unit_records.specs.Due.{record_due}
use Rattle.recovery.specs.Durable.{Durable}
use Rattle.recovery.specs.Kept.{IsKept}
use Rattle.recovery.specs.Part.{durable_part}
use Rattle.recovery.specs.Places.{TablesGivePlaces}
use Rattle.recovery.specs.StepLaws.{MisreadsKeep, MisreadsStay, SilentStepsStay, StepsKeep}

-- what is kept depends on the tables, and on no row of them
kept_over : TablesGivePlaces → (s : CoreState) (t : Store) → IsKept s → is_store t ≡ true → SameTables s.base.store t → IsKept (over t s)
kept_over tables s t kept good same = record {
  table = kept.table;
  store = good;
  places = λ o out. sym (tables (unit_of o s.base.units).changes s.base.store t same) ∙ kept.places o out;
  good = kept.good;
  once = kept.once;
  claimed = kept.claimed;
  ended = kept.ended;
  alone = kept.alone;
}

-- a statement commits nothing, and no record of it is due
store_left : (s : CoreState) (c : ℕ) (k : Call) → reads_rows k ≡ true → (step_state s c k).base.store ≡ s.base.store
store_left s c (call.run t params) reading = store_stays s.base (owner_of s.branches c) (asked_of s.base (owner_of s.branches c) (running t params))
store_left s c (call.query t params) reading = store_stays s.base (owner_of s.branches c) (asked_of s.base (owner_of s.branches c) (querying t params))
store_left s c (call.describe t side) reading = absurd (false≢true reading)
store_left s c call.commit reading = absurd (false≢true reading)
store_left s c call.roll_back reading = absurd (false≢true reading)
store_left s c (call.xa r) reading = absurd (false≢true reading)
store_left s c call.lost reading = absurd (false≢true reading)

none_due : (s : CoreState) (c : ℕ) (k : Call) → reads_rows k ≡ true → record_due s c k ≡ None
none_due s c (call.run t params) reading = refl
none_due s c (call.query t params) reading = refl
none_due s c (call.describe t side) reading = absurd (false≢true reading)
none_due s c call.commit reading = absurd (false≢true reading)
none_due s c call.roll_back reading = absurd (false≢true reading)
none_due s c (call.xa r) reading = absurd (false≢true reading)
none_due s c call.lost reading = absurd (false≢true reading)

pub misreads_keep : TablesGivePlaces → StepsKeep → MisreadsKeep
misreads_keep tables keep s new c k told kept m =
    let there = over m.given s in
    let step = step_state there c k in
    let left : step.base.store ≡ m.given = store_left there c k m.reading in
    let back : SameTables step.base.store s.base.store = subst (λ (t : Store). SameTables t s.base.store) (sym left) (record { schemas = λ q. sym (m.same.schemas q); names = sym m.same.names }) in
    subst IsKept (sym m.state) (kept_over tables step s.base.store (keep there c k (kept_over tables s m.given kept m.good m.same)) kept.store back)

pub misreads_stay : TablesGivePlaces → SilentStepsStay → MisreadsStay
misreads_stay tables silent s new c k told kept m =
    let there = over m.given s in
    ap durable_part m.state
    ∙ ap (λ (d : Durable). let e : Durable = record { store = s.base.store; doubts = d.doubts } in e) (silent there c k (kept_over tables s m.given kept m.good m.same) (none_due there c k m.reading))
