-- The logs of the law are the questions that were answered, with their answers.
use Rattle.std.proofs.Common.{◌≡◌, ⊎_elim, ℕ, Bool, true, false, List, [], ◌∷◌, ◌++◌, Option, Some, None, if◌then◌else◌, refl, sym, ap, subst, ◌∙◌}
use Rattle.std.specs.Prelude.{Ok, Err, length, nat_le}
use Rattle.row_values.specs.Column.{Column}
use Rattle.row_values.specs.Schema.{Schema}
use Rattle.sql_text.specs.declared.tree.Command.{Command}
use Rattle.tables.specs.Change.{Change}
use Rattle.tables.specs.RowList.{RowList}
use Rattle.tables.specs.Tables.{Store, schema_of}
use Rattle.unit_locks.specs.Claim.{Claim}
use Rattle.unit_locks.specs.Claims.{all_added}
use Rattle.xa_manager.specs.Branch.{joined_xid}
use Rattle.xa_manager.specs.Laws.{ActionsFit}
use Rattle.core_calls.specs.declared.call.Side.{Side}
use Rattle.core_calls.specs.declared.call.Side.TheVariants as side
use Rattle.core_calls.specs.declared.described.ParameterType.{ParameterType}
use Rattle.core_calls.specs.declared.refusal.Refusal.TheVariants as refusal
use Rattle.core_calls.specs.declared.sql_fault.SqlFault.{SqlFault}
use Rattle.core_calls.specs.declared.sql_fault.SqlFault.TheVariants as fault
use Rattle.core_calls.specs.Call as call
use Rattle.core_calls.specs.Call.{Call}
use Rattle.core_calls.specs.Answer as reply
use Rattle.core_calls.specs.Answer.{Answer}
use Rattle.sql_semantics.specs.Checked.{Checked, and_then, unless}
use Rattle.sql_semantics.specs.Describe.{described, described_columns, parameter_types, side_of}
use Rattle.sql_semantics.specs.Frame.{covered_answer}
use Rattle.sql_semantics.specs.Meaning.{Answer as Meant, Changes, Refused, Rows}
use Rattle.sql_semantics.specs.Scope.{table_name}
use Rattle.core_model.specs.Units as units
use Rattle.core_model.specs.Units.{Owner, Work as CoreWork, global, has_work, is_full, left_of, local, others, unit_of}
use Rattle.core_model.specs.Asked as asked
use Rattle.core_model.specs.Asked.{Outcome as CoreOutcome, Question, answer_in, answer_to, changes_by, claims_of, describing, fit_or, meant, querying, running, unfit}
use Rattle.core_model.specs.Events as core
use Rattle.core_model.specs.Events.{Base as CoreBase, Event as CoreEvent, asked_of, bare, happens_asked}
use Rattle.core_model.specs.Step.{CoreState, Kept, Mark, Taken, events, lost_xids, owner_of, replay, step_by}
use Rattle.core_model.specs.Laws.{AsksNone, InDoubtWait, IsPrepared, answered, is_meant, question_of}
use Rattle.core_model.proofs.Keeping.{NoAsks, of_commit, of_lost, of_roll_back, of_xa}
use Rattle.core_model.proofs.Owners.{both, which}
use Rattle.serializability.specs.Words.{Laws, apply_all}
use Rattle.serializability.specs.Events.{Commit, Ended, Entry, Event, Leave, World, asked_in, happens, log_set, lost, outcome}
use Rattle.serializability.specs.Events as unit
use Rattle.serializability.specs.Serial.{AllLie, Serially}
use Rattle.serializability.specs.Steps.{run_events}
use Rattle.serializability.specs.CoreWords.{core_units, core_words, events_of, question_events, to_work}
use Rattle.serializability.specs.Histories.{Story, base_of, core_of, is_prepared, story, told, told_by}
use Rattle.serializability.specs.Answered.{AnsweredCall, AnswersTell, AreAnswers, Begins, CallsLead, CallsLeadOn, IsAnswer, IsTold, UnfitIsTheSame, history_of, is_counted, story_at}
use Rattle.serializability.proofs.CoreUnits.{same_clashes, same_view}
use Rattle.serializability.proofs.CoreHistories.{Fine, fine_by, fine_start, histories_are_serial, not_prepared, prepared_so}
use Rattle.serializability.proofs.Steady.{to_frame}

-- ---- the logs beside a store and units, by the calls and their answers

pub record Ghosts : Type 0 where
  pub logs : Owner → List (Entry core_words)
  pub found : Owner → Bool
  pub ended : List (Ended core_words)

abbrev pub ghosts_of : World core_words core_units → Ghosts
ghosts_of m = record { logs = m.logs; found = m.found; ended = m.ended }

abbrev pub noted : Owner → Question → Answer → Ghosts → Ghosts
noted o q a g = if is_meant a then record g { logs = log_set core_words core_units o (g.logs o ++ record { call = q; answer = a } ∷ []) g.logs } else g

abbrev pub closed_by : CoreBase → CoreEvent → Ghosts → Ghosts
closed_by b (core.Ask o q) g = g
closed_by b (core.Commit o) g = record {
  logs = log_set core_words core_units o [] g.logs;
  found = lost core_words core_units o g.found;
  ended = g.ended ++ record { is_found = g.found o; log = g.logs o; work = to_work (unit_of o b.units) } ∷ [];
}
closed_by b (core.Leave o) g = record { logs = log_set core_words core_units o [] g.logs; found = lost core_words core_units o g.found; ended = g.ended }

abbrev pub all_closed : List CoreEvent → CoreBase → Ghosts → Ghosts
all_closed [] b g = g
all_closed (e ∷ es) b g = all_closed es (bare b e) (closed_by b e g)

abbrev pub noted_for : Option Question → CoreState → ℕ → Call → Answer → Ghosts → Ghosts
noted_for (Some q) s c k a g = noted (owner_of s.branches c) q a g
noted_for None s c k a g = all_closed (events s.branches s.base c k) s.base g

abbrev pub noted_by : Mark → CoreState → ℕ → Call → Answer → Ghosts → Ghosts
noted_by Taken s c k a g = noted_for (question_of k) s c k a g
noted_by Kept s c k a g = g

abbrev pub all_noted : List AnsweredCall → CoreState → Ghosts → Ghosts
all_noted [] s g = g
all_noted (l ∷ ls) s g = all_noted ls (step_by l.mark s l.conversation l.call) (noted_by l.mark s l.conversation l.call l.answer g)

-- ---- what is done is answered by its meaning

module _ (T : Answer → Bool) (faults : (f : SqlFault) → T (reply.refused (refusal.Meaning f)) ≡ true) (counts : (n : ℕ) → T (reply.count n) ≡ true) (shows : (l : RowList) → T (reply.rows l) ≡ true)
    (columns : (cs : List Column) → T (reply.output cs) ≡ true) (types : (ts : List ParameterType) → T (reply.input ts) ≡ true) where
  meant_so : (m : Meant) → T (meant m) ≡ true
  meant_so (Refused f) = faults f
  meant_so (Changes xs n) = counts n
  meant_so (Rows l) = shows l

  types_so : (b : Bool) (ts : List ParameterType) → T (asked.told (unless b fault.LimitReached (Ok (reply.input ts)))) ≡ true
  types_so true ts = types ts
  types_so false ts = faults fault.LimitReached

  side_so : (d : Side) (schema : Schema) (c : Command) (cs : List Column) → T (asked.told (side_of d schema c cs)) ≡ true
  side_so side.Output schema c cs = columns cs
  side_so side.Input schema c cs = types_so (nat_le (length (parameter_types schema.columns c)) 128) (parameter_types schema.columns c)

  columns_so : (d : Side) (schema : Schema) (c : Command) (r : Checked (List Column)) → T (asked.told (and_then r (side_of d schema c))) ≡ true
  columns_so d schema c (Ok cs) = side_so d schema c cs
  columns_so d schema c (Err f) = faults f

  described_so : (d : Side) (c : Command) (o : Option Schema) → T (asked.told (described d c o)) ≡ true
  described_so d c None = faults fault.TableUnknown
  described_so d c (Some schema) = columns_so d schema c (described_columns schema c)

  told_so : (q : Question) (left : ℕ) (v : Store) → T (answer_to q left v) ≡ true
  told_so (running t params) left v = meant_so (covered_answer params left t.command v)
  told_so (querying t params) left v = meant_so (covered_answer params left t.command v)
  told_so (describing t d) left v = described_so d t.command (schema_of v (table_name t.command))

pub answer_so : (q : Question) (left : ℕ) (v : Store) → is_meant (answer_to q left v) ≡ true
answer_so = told_so is_meant (λ f. refl) (λ n. refl) (λ l. refl) (λ cs. refl) (λ ts. refl)

pub answer_counts : (q : Question) (left : ℕ) (v : Store) → is_counted (answer_to q left v) ≡ true
answer_counts = told_so is_counted (λ f. refl) (λ n. refl) (λ l. refl) (λ cs. refl) (λ ts. refl)

-- ---- a question

module _ (ds : List Claim) (u : CoreWork) (cs : List Claim) (a : Answer) (xs : List Change) (meaning : is_meant a ≡ true) where
  theirs : Bool → Bool → CoreOutcome
  theirs p q = if p then asked.Clashes else (if q then asked.TooMany else asked.Done a (asked.kept u cs xs))

  told_by_cases : (p q : Bool) → is_counted a ≡ true → IsTold (theirs p q)
  unfolding theirs
  told_by_cases true q counts = record { done = refl; counted = refl }
  told_by_cases false true counts = record { done = refl; counted = refl }
  told_by_cases false false counts = record { done = meaning; counted = counts }

  told_fit : (e : Option SqlFault) → is_counted a ≡ true → IsTold (fit_or e (asked.outcome ds u cs a xs))
  unfolding theirs
  told_fit (Some f) counts = record { done = refl; counted = refl }
  told_fit None counts = told_by_cases (units.clashes cs ds) (is_full (all_added u.claims cs)) counts

  module _ (m : World core_words core_units) (o : Owner) (q : Question) where
    ours : Bool → Bool → unit.Outcome core_words
    ours p r = if p then unit.Clashes else if r then unit.TooMany else unit.Done a (record { changes = u.changes ++ xs; claims = core_words.added u.claims cs })

    by_cases : (p r : Bool) → ghosts_of (asked_in core_words core_units m o q (ours p r)) ≡ noted o q (answer_in (theirs p r)) (ghosts_of m)
    unfolding theirs ours
    by_cases true r = refl
    by_cases false true = refl
    by_cases false false =
        let book = ghosts_of m in
        let with_it : Bool → Ghosts = λ t. if t then record book { logs = unit.log_set core_words core_units o (book.logs o ++ record { call = q; answer = a } ∷ []) book.logs } else book in
        sym (ap with_it meaning)

    noted_so : ghosts_of (asked_in core_words core_units m o q (outcome core_words ds (to_work u) cs a xs)) ≡ noted o q (answer_in (asked.outcome ds u cs a xs)) (ghosts_of m)
    unfolding theirs ours
    noted_so =
        let full = is_full (core_words.added u.claims cs) in
        sym (ap (λ p. ghosts_of (asked_in core_words core_units m o q (ours p full))) (same_clashes cs ds)) ∙ by_cases (units.clashes cs ds) full

pub answers_tell : AnswersTell
answers_tell b o q =
    let u = unit_of o b.units in let v = units.view b.store u in
    told_fit (others o b.units) u (claims_of q v) (answer_to q (left_of u) v) (changes_by q (left_of u) v) (answer_so q (left_of u) v) (unfit q) (answer_counts q (left_of u) v)

-- the question's event, over the store that the unit sees as both define it
asked_so : (m : World core_words core_units) (o : Owner) (q : Question) → m.found o ≡ false
    → ghosts_of (happens core_words core_units m (unit.Ask o q)) ≡ noted o q (answer_in (let u = unit_of o m.units in let v = units.view m.store u in asked.outcome (others o m.units) u (claims_of q v) (answer_to q (left_of u) v) (changes_by q (left_of u) v))) (ghosts_of m)
asked_so m o q new =
    let u = unit_of o m.units in
    let ds = others o m.units in
    let at : Store → World core_words core_units = λ v. asked_in core_words core_units m o q (outcome core_words ds (to_work u) (claims_of q v) (answer_to q (left_of u) v) (changes_by q (left_of u) v)) in
    let v = units.view m.store u in
    let w = apply_all core_words u.changes m.store in
    ap (λ b. ghosts_of (if b then m else at w)) new
    ∙ sym (ap (λ s. ghosts_of (at s)) (same_view u.changes m.store))
    ∙ noted_so ds u (claims_of q v) (answer_to q (left_of u) v) (changes_by q (left_of u) v) (answer_so q (left_of u) v) m o q

question_so : (m : World core_words core_units) (o : Owner) (q : Question) (e : Option SqlFault) → m.found o ≡ false
    → ghosts_of (run_events core_words core_units (question_events e o q ++ []) m) ≡ noted o q (answer_in (fit_or e (let u = unit_of o m.units in let v = units.view m.store u in asked.outcome (others o m.units) u (claims_of q v) (answer_to q (left_of u) v) (changes_by q (left_of u) v)))) (ghosts_of m)
question_so m o q (Some f) new = refl
question_so m o q None new = asked_so m o q new

-- ---- ends

ended_so : (es : List CoreEvent) (m : World core_words core_units) → NoAsks es → ghosts_of (run_events core_words core_units (events_of es) m) ≡ all_closed es (base_of m) (ghosts_of m)
ended_so [] m none = refl
ended_so (core.Ask o q ∷ es) m none = absurd none
ended_so (core.Commit o ∷ es) m none =
    let u = unit_of o m.units in
    ended_so es (happens core_words core_units m (Commit o)) none
    ∙ sym (ap (λ (s : Store). all_closed es (record { store = s; units = units.without o m.units }) (closed_by (base_of m) (core.Commit o) (ghosts_of m))) (same_view u.changes m.store))
ended_so (core.Leave o ∷ es) m none = ended_so es (happens core_words core_units m (Leave o)) none

-- ---- a call

not_found : (s : Story) (o : Owner) → ((p : Owner) → s.world.found p ≡ true → is_prepared s.branches p ≡ true) → ((xid : List ℕ) → IsPrepared s.branches xid → o ≡ global xid → ⊥) → s.world.found o ≡ false
not_found s o in_doubt none = ⊎_elim (λ so. both (is_prepared s.branches o) (in_doubt o so) (not_prepared s.branches o none)) (λ ne. ne) (which (s.world.found o))

logged_so : (s : Story) (c : ℕ) (k : Call) → ((p : Owner) → s.world.found p ≡ true → is_prepared s.branches p ≡ true) → AsksNone (IsPrepared s.branches) (events s.branches (base_of s.world) c k)
    → ghosts_of (told s c k).world ≡ noted_for (question_of k) (core_of s) c k (answered (core_of s) c k) (ghosts_of s.world)
logged_so s c (call.run t params) found asks = let o = owner_of s.branches c in question_so s.world o (running t params) (unfit (running t params)) (not_found s o found asks.0)
logged_so s c (call.query t params) found asks = let o = owner_of s.branches c in question_so s.world o (querying t params) (unfit (querying t params)) (not_found s o found asks.0)
logged_so s c (call.describe t d) found asks = let o = owner_of s.branches c in question_so s.world o (describing t d) (unfit (describing t d)) (not_found s o found asks.0)
logged_so s c call.commit found asks = ended_so (events s.branches (base_of s.world) c call.commit) s.world (of_commit (local c) (joined_xid s.branches c))
logged_so s c call.roll_back found asks = ended_so (events s.branches (base_of s.world) c call.roll_back) s.world (of_roll_back (local c) (joined_xid s.branches c))
logged_so s c (call.xa r) found asks = ended_so (events s.branches (base_of s.world) c (call.xa r)) s.world (of_xa s.branches (base_of s.world) c r)
logged_so s c call.lost found asks = ended_so (events s.branches (base_of s.world) c call.lost) s.world (of_lost (lost_xids s.branches c))

-- ---- a history

opening_lies : (s : CoreState) → Begins s → AllLie core_words core_units s.base.store s.base.units
opening_lies s b o x i = let j = to_frame x (unit_of o s.base.units).changes i in record { lies = b.lie o x j; sound = b.sound.1 o x j }

opening_waits : (s : CoreState) → Begins s → (o : Owner) → has_work (unit_of o s.base.units) ≡ true → is_prepared s.branches o ≡ true
opening_waits s b o works = let p = b.prepared o works in subst (λ (n : Owner). is_prepared s.branches n ≡ true) (sym p.1) (prepared_so s.branches p.0 p.2)

abbrev pub no_ghosts : CoreState → Ghosts
no_ghosts s = record { logs = λ o. []; found = λ o. has_work (unit_of o s.base.units); ended = [] }

module _ (l : Laws core_words) (wait : InDoubtWait) (fits : ActionsFit) where
  by_mark : (first : Store) (mark : Mark) (s : Story) (c : ℕ) (k : Call) (a : Answer) → Fine l wait fits first s → IsAnswer mark (core_of s) c k a
      → ghosts_of (told_by mark s c k).world ≡ noted_by mark (core_of s) c k a (ghosts_of s.world)
  by_mark first Taken s c k a f is =
      logged_so s c k f.in_doubt ((wait s.branches (base_of s.world) c k).asks f.rises) ∙ sym (ap (λ (b : Answer). noted_for (question_of k) (core_of s) c k b (ghosts_of s.world)) is)
  by_mark first Kept s c k a f is = refl

  all_so : (first : Store) (ls : List AnsweredCall) (s : Story) → Fine l wait fits first s → AreAnswers (core_of s) ls
      → ghosts_of (story (history_of ls) s).world ≡ all_noted ls (core_of s) (ghosts_of s.world)
  all_so first [] s f are = refl
  all_so first (x ∷ ls) s f are =
      let next = told_by x.mark s x.conversation x.call in
      let here = fine_by l wait fits first x.mark s x.conversation x.call f in
      let book = by_mark first x.mark s x.conversation x.call x.answer f are.0 in
      all_so first ls next here.0 (subst (λ (t : CoreState). AreAnswers t ls) (sym here.1) are.1)
      ∙ (λ i. all_noted ls (here.1 i) (book i))

  pub ghosts_are : (s : CoreState) (calls : List AnsweredCall) → Begins s → AreAnswers s calls → ghosts_of (story (history_of calls) (story_at s)).world ≡ all_noted calls s (no_ghosts s)
  ghosts_are s calls b are =
      all_so s.base.store calls (story_at s) (fine_start l wait fits s.base.store s.base.units s.branches b.sound.0 (opening_lies s b) b.rising (opening_waits s b)) are

  pub ghosts_serial : (s t : CoreState) (calls : List AnsweredCall) → Begins s → CallsLead s calls t → Serially core_words s.base.store (all_noted calls s (no_ghosts s)).ended t.base.store
  ghosts_serial s t calls b lead =
      let r = histories_are_serial l wait fits s.base.store s.base.units s.branches (history_of calls) b.sound.0 (opening_lies s b) b.rising (opening_waits s b) in
      subst (λ (u : CoreState). Serially core_words s.base.store (all_noted calls s (no_ghosts s)).ended u.base.store) lead.state
      (subst (λ (g : Ghosts). Serially core_words s.base.store g.ended (replay (history_of calls) s).base.store) (ghosts_are s calls b lead.answers) r.0)

-- ---- calls one after another

history_both : (calls more : List AnsweredCall) (s : CoreState) → replay (history_of (calls ++ more)) s ≡ replay (history_of more) (replay (history_of calls) s)
history_both [] more s = refl
history_both (x ∷ calls) more s = history_both calls more (step_by x.mark s x.conversation x.call)

answers_both : (calls more : List AnsweredCall) (s : CoreState) → AreAnswers s calls → AreAnswers (replay (history_of calls) s) more → AreAnswers s (calls ++ more)
answers_both [] more s first rest = rest
answers_both (x ∷ calls) more s first rest = (first.0, answers_both calls more (step_by x.mark s x.conversation x.call) first.1 rest)

pub calls_lead_on : CallsLeadOn
calls_lead_on = record {
  none = λ s. record { answers = tt; state = refl };
  one = λ s x is. record { answers = (is, tt); state = refl };
  both = λ s t u calls more first rest. record {
    answers = answers_both calls more s first.answers (subst (λ (x : CoreState). AreAnswers x more) (sym first.state) rest.answers);
    state = history_both calls more s ∙ ap (λ (x : CoreState). replay (history_of more) x) first.state ∙ rest.state;
  };
}

-- ---- what is unfit

unfit_so : (s : CoreState) (c : ℕ) (q : Question) (f : SqlFault) → unfit q ≡ Some f
    → (let o = owner_of s.branches c in
    (answer_in (asked_of s.base o q) ≡ reply.refused (refusal.Unfit f)) × (happens_asked s.base o (asked_of s.base o q) ≡ s.base))
unfit_so s c q f is =
    let o = owner_of s.branches c in let u = unit_of o s.base.units in let v = units.view s.base.store u in
    let go = asked.outcome (others o s.base.units) u (claims_of q v) (answer_to q (left_of u) v) (changes_by q (left_of u) v) in
    (ap (λ (e : Option SqlFault). answer_in (fit_or e go)) is, ap (λ (e : Option SqlFault). happens_asked s.base o (fit_or e go)) is)

pub unfit_is_the_same : UnfitIsTheSame
unfit_is_the_same s c (call.run t params) f is = let r = unfit_so s c (running t params) f is in record { answer = r.0; state = λ i. record { base = r.1 i; branches = s.branches } }
unfit_is_the_same s c (call.query t params) f is = let r = unfit_so s c (querying t params) f is in record { answer = r.0; state = λ i. record { base = r.1 i; branches = s.branches } }
unfit_is_the_same s c (call.describe t d) f is = let r = unfit_so s c (describing t d) f is in record { answer = r.0; state = λ i. record { base = r.1 i; branches = s.branches } }
unfit_is_the_same s c call.commit f is = absurd cc
unfit_is_the_same s c call.roll_back f is = absurd cc
unfit_is_the_same s c (call.xa r) f is = absurd cc
unfit_is_the_same s c call.lost f is = absurd cc
