-- The serial run by the core's own step: the logs of the law over words, with the questions that are unfit.
use Rattle.std.proofs.Common.{◌≡◌, ⊎_elim, ℕ, Bool, true, false, List, [], ◌∷◌, ◌++◌, Option, Some, None, if◌then◌else◌, refl, sym, ap, subst, ◌∙◌, map}
use Rattle.tables.specs.Change.{Change}
use Rattle.tables.specs.Tables.{Store}
use Rattle.unit_locks.specs.Claim.{Claim}
use Rattle.unit_locks.specs.Claims.{all_added}
use Rattle.xa_manager.specs.Laws.{ActionsFit}
use Rattle.core_calls.specs.declared.refusal.Refusal.TheVariants as refusal
use Rattle.core_calls.specs.declared.sql_fault.SqlFault.{SqlFault}
use Rattle.core_calls.specs.Call as call
use Rattle.core_calls.specs.Call.{Call}
use Rattle.core_calls.specs.Answer as reply
use Rattle.core_calls.specs.Answer.{Answer}
use Rattle.core_model.specs.Units as units
use Rattle.core_model.specs.Units.{Owner, Work as CoreWork, is_full, left_of, others, same_owner, unit_of}
use Rattle.core_model.specs.Asked as asked
use Rattle.core_model.specs.Asked.{Outcome as CoreOutcome, Question, answer_in, answer_to, changes_by, claims_of, describing, fit_or, querying, running, unfit}
use Rattle.core_model.specs.Events as core
use Rattle.core_model.specs.Events.{Base as CoreBase, Event as CoreEvent, asked_of, bare}
use Rattle.core_model.specs.Step.{CoreState, Kept, Mark, Taken, events, owner_of, step_by}
use Rattle.core_model.specs.Laws.{InDoubtWait, answered, is_meant, question_of}
use Rattle.core_model.proofs.Owners.{owners_same, which}
use Rattle.serializability.specs.Words.{Laws, apply_all}
use Rattle.serializability.specs.Events as unit
use Rattle.serializability.specs.Events.{Ended, Entry, Work, idle, log_set}
use Rattle.serializability.specs.Serial.{Alone, Serially, Unless}
use Rattle.serializability.specs.CoreWords.{core_units, core_words, of_work, to_work}
use Rattle.serializability.specs.Answered.{AnsweredAlone, AnsweredCall, AnsweredQuestion, AnswersAreSerial, AreAnswers, CommittedUnit, IsAnswer, Logbook, LogsAreAnswers, SerialRun, all_ended, all_logged, committed, ended_by, entered, fit_log, fit_unit, if_fit, is_counted, logged, logged_for, new_book, with_log, work_after}
use Rattle.serializability.proofs.CoreUnits.{same_clashes, same_view}
use Rattle.serializability.proofs.Answering.{Ghosts, all_closed, all_noted, answer_counts, answer_so, closed_by, ghosts_are, ghosts_serial, noted, noted_by, noted_for}

-- ---- the questions that are fit

fit_either : (b : Bool) (x y : List AnsweredQuestion) → fit_log (if b then x else y) ≡ (if b then fit_log x else fit_log y)
fit_either true x y = refl
fit_either false x y = refl

fit_push : (log : List AnsweredQuestion) (a : AnsweredQuestion) → fit_log (log ++ a ∷ []) ≡ fit_log log ++ if_fit (unfit a.question) a []
fit_push [] a = refl
fit_push (b ∷ log) a = ap (if_fit (unfit b.question) b) (fit_push log a) ∙ past (unfit b.question)
  where
    past : (e : Option SqlFault) → if_fit e b (fit_log log ++ if_fit (unfit a.question) a []) ≡ if_fit e b (fit_log log) ++ if_fit (unfit a.question) a []
    past (Some f) = refl
    past None = refl

nothing_more : {X : Type 0} (xs : List X) → xs ++ [] ≡ xs
nothing_more [] = refl
nothing_more (x ∷ xs) = ap (λ (ys : List _). x ∷ ys) (nothing_more xs)

units_push : (us : List CommittedUnit) (u : CommittedUnit) → map fit_unit (us ++ u ∷ []) ≡ map fit_unit us ++ fit_unit u ∷ []
units_push [] u = refl
units_push (v ∷ us) u = ap (λ (es : List (Ended core_words)). fit_unit v ∷ es) (units_push us u)

abbrev fit_book : Logbook → Ghosts
fit_book book = record { logs = λ o. fit_log (book.logs o); found = book.found; ended = map fit_unit book.ended }

-- ---- one call in both

module _ (o : Owner) (q : Question) (book : Logbook) where
  abbrev entry : Answer → AnsweredQuestion
  entry a = record { question = q; answer = a }

  -- an entry that is unfit changes nothing, one that is fit is one more
  unfit_entry : (a : Answer) (f : SqlFault) → unfit q ≡ Some f → (p : Owner) → fit_log (with_log o (book.logs o ++ entry a ∷ []) book.logs p) ≡ fit_log (book.logs p)
  unfit_entry a f is p =
      let more = book.logs o ++ entry a ∷ [] in
      fit_either (same_owner p o) more (book.logs p)
      ∙ ⊎_elim
      (λ so.
      ap (λ b. if b then fit_log more else fit_log (book.logs p)) so ∙ fit_push (book.logs o) (entry a) ∙ ap (λ e. fit_log (book.logs o) ++ if_fit e (entry a) []) is
      ∙ nothing_more (fit_log (book.logs o)) ∙ ap (λ (n : Owner). fit_log (book.logs n)) (sym (owners_same p o so)))
      (λ n. ap (λ b. if b then fit_log more else fit_log (book.logs p)) n)
      (which (same_owner p o))

  fit_entry : (a : Answer) → unfit q ≡ None → (p : Owner) → fit_log (with_log o (book.logs o ++ entry a ∷ []) book.logs p) ≡ (if same_owner p o then fit_log (book.logs o) ++ record { call = q; answer = a } ∷ [] else fit_log (book.logs p))
  fit_entry a is p =
      fit_either (same_owner p o) (book.logs o ++ entry a ∷ []) (book.logs p)
      ∙ ap (λ (x : List (Entry core_words)). if same_owner p o then x else fit_log (book.logs p)) (fit_push (book.logs o) (entry a) ∙ ap (λ e. fit_log (book.logs o) ++ if_fit e (entry a) []) is)

  -- what is entered of a counted answer, and noted of one by its meaning
  done_both : (a : Answer) → is_meant a ≡ true → is_counted a ≡ true → unfit q ≡ None → fit_book (entered o q a book) ≡ noted o q a (fit_book book)
  done_both a meaning counts is =
      let with_it : Bool → Logbook = λ t. if t then record book { logs = with_log o (book.logs o ++ entry a ∷ []) book.logs } else book in
      let g = fit_book book in
      let noted_if : Bool → Ghosts = λ t. if t then record g { logs = log_set core_words core_units o (g.logs o ++ record { call = q; answer = a } ∷ []) g.logs } else g in
      ap (λ t. fit_book (with_it t)) counts
      ∙ (λ i. record { logs = λ p. fit_entry a is p i; found = book.found; ended = map fit_unit book.ended })
      ∙ sym (ap noted_if meaning)

  module _ (ds : List Claim) (u : CoreWork) (cs : List Claim) (a : Answer) (xs : List Change) (meaning : is_meant a ≡ true) (counts : is_counted a ≡ true) where
    tested : Bool → Bool → CoreOutcome
    tested p r = if p then asked.Clashes else (if r then asked.TooMany else asked.Done a (asked.kept u cs xs))

    by_tests : (p r : Bool) → unfit q ≡ None → fit_book (entered o q (answer_in (tested p r)) book) ≡ noted o q (answer_in (tested p r)) (fit_book book)
    unfolding tested
    by_tests true r is = refl
    by_tests false true is = refl
    by_tests false false is = done_both a meaning counts is

    by_fit : (e : Option SqlFault) → unfit q ≡ e → fit_book (entered o q (answer_in (fit_or e (asked.outcome ds u cs a xs))) book) ≡ noted o q (answer_in (fit_or e (asked.outcome ds u cs a xs))) (fit_book book)
    unfolding tested
    by_fit (Some f) is = λ i. record { logs = λ p. unfit_entry (reply.refused (refusal.Unfit f)) f is p i; found = book.found; ended = map fit_unit book.ended }
    by_fit None is = by_tests (units.clashes cs ds) (is_full (all_added u.claims cs)) is

question_both : (b : CoreBase) (o : Owner) (q : Question) (book : Logbook) → fit_book (entered o q (answer_in (asked_of b o q)) book) ≡ noted o q (answer_in (asked_of b o q)) (fit_book book)
question_both b o q book =
    let u = unit_of o b.units in let v = units.view b.store u in
    by_fit o q book (others o b.units) u (claims_of q v) (answer_to q (left_of u) v) (changes_by q (left_of u) v) (answer_so q (left_of u) v) (answer_counts q (left_of u) v) (unfit q) refl

ended_both : (b : CoreBase) (e : CoreEvent) (book : Logbook) → fit_book (ended_by b e book) ≡ closed_by b e (fit_book book)
ended_both b (core.Ask o q) book = refl
ended_both b (core.Commit o) book = λ i. record {
  logs = λ p. fit_either (same_owner p o) [] (book.logs p) i;
  found = (ended_by b (core.Commit o) book).found;
  ended = units_push book.ended (record { is_found = book.found o; asked = book.logs o; work = unit_of o b.units }) i;
}
ended_both b (core.Leave o) book = λ i. record { logs = λ p. fit_either (same_owner p o) [] (book.logs p) i; found = (ended_by b (core.Leave o) book).found; ended = map fit_unit book.ended }

all_ended_both : (es : List CoreEvent) (b : CoreBase) (book : Logbook) → fit_book (all_ended es b book) ≡ all_closed es b (fit_book book)
all_ended_both [] b book = refl
all_ended_both (e ∷ es) b book = all_ended_both es (bare b e) (ended_by b e book) ∙ ap (all_closed es (bare b e)) (ended_both b e book)

call_both : (s : CoreState) (c : ℕ) (k : Call) (book : Logbook) → fit_book (logged_for (question_of k) s c k (answered s c k) book) ≡ noted_for (question_of k) s c k (answered s c k) (fit_book book)
call_both s c (call.run t params) book = question_both s.base (owner_of s.branches c) (running t params) book
call_both s c (call.query t params) book = question_both s.base (owner_of s.branches c) (querying t params) book
call_both s c (call.describe t d) book = question_both s.base (owner_of s.branches c) (describing t d) book
call_both s c call.commit book = all_ended_both (events s.branches s.base c call.commit) s.base book
call_both s c call.roll_back book = all_ended_both (events s.branches s.base c call.roll_back) s.base book
call_both s c (call.xa r) book = all_ended_both (events s.branches s.base c (call.xa r)) s.base book
call_both s c call.lost book = all_ended_both (events s.branches s.base c call.lost) s.base book

mark_both : (m : Mark) (s : CoreState) (c : ℕ) (k : Call) (a : Answer) (book : Logbook) → IsAnswer m s c k a → fit_book (logged m s c k a book) ≡ noted_by m s c k a (fit_book book)
mark_both Taken s c k a book is =
    ap (λ (b : Answer). fit_book (logged_for (question_of k) s c k b book)) is ∙ call_both s c k book ∙ sym (ap (λ (b : Answer). noted_for (question_of k) s c k b (fit_book book)) is)
mark_both Kept s c k a book is = refl

all_both : (ls : List AnsweredCall) (s : CoreState) (book : Logbook) → AreAnswers s ls → fit_book (all_logged ls s book) ≡ all_noted ls s (fit_book book)
all_both [] s book are = refl
all_both (x ∷ ls) s book are =
    let next = step_by x.mark s x.conversation x.call in
    all_both ls next (logged x.mark s x.conversation x.call x.answer book) are.1 ∙ ap (all_noted ls next) (mark_both x.mark s x.conversation x.call x.answer book are.0)

-- ---- an unfit question has its fault for an answer

abbrev IsSo : AnsweredQuestion → Type 0
IsSo a = (f : SqlFault) → unfit a.question ≡ Some f → a.answer ≡ reply.refused (refusal.Unfit f)

abbrev AreSo : List AnsweredQuestion → Type 0
AreSo [] = Unit {0}
AreSo (a ∷ more) = IsSo a × AreSo more

abbrev UnitsSo : List CommittedUnit → Type 0
UnitsSo [] = Unit {0}
UnitsSo (u ∷ us) = AreSo u.asked × UnitsSo us

record BookSo (book : Logbook) : Type 0 where
  logs : (o : Owner) → AreSo (book.logs o)
  ended : UnitsSo book.ended

so_push : (log : List AnsweredQuestion) (a : AnsweredQuestion) → AreSo log → IsSo a → AreSo (log ++ a ∷ [])
so_push [] a all is = (is, tt)
so_push (b ∷ log) a all is = (all.0, so_push log a all.1 is)

so_units : (us : List CommittedUnit) (u : CommittedUnit) → UnitsSo us → AreSo u.asked → UnitsSo (us ++ u ∷ [])
so_units [] u all is = (is, tt)
so_units (v ∷ us) u all is = (all.0, so_units us u all.1 is)

so_either : (b : Bool) (x y : List AnsweredQuestion) → AreSo x → AreSo y → AreSo (if b then x else y)
so_either true x y h k = h
so_either false x y h k = k

so_entered : (o : Owner) (q : Question) (a : Answer) (book : Logbook) → IsSo (record { question = q; answer = a }) → BookSo book → BookSo (entered o q a book)
so_entered o q a book is so = entered_if (is_counted a)
  where
    more : List AnsweredQuestion
    more = book.logs o ++ record { question = q; answer = a } ∷ []

    entered_if : (b : Bool) → BookSo (if b then record book { logs = with_log o (book.logs o ++ record { question = q; answer = a } ∷ []) book.logs } else book)
    entered_if true = record { logs = λ p. so_either (same_owner p o) (book.logs o ++ record { question = q; answer = a } ∷ []) (book.logs p) (so_push (book.logs o) (record { question = q; answer = a }) (so.logs o) is) (so.logs p); ended = so.ended }
    entered_if false = so

so_question : (b : CoreBase) (o : Owner) (q : Question) → IsSo (record { question = q; answer = answer_in (asked_of b o q) })
so_question b o q f is =
    let u = unit_of o b.units in let v = units.view b.store u in
    ap (λ e. answer_in (fit_or e (asked.outcome (others o b.units) u (claims_of q v) (answer_to q (left_of u) v) (changes_by q (left_of u) v)))) is

so_ended : (b : CoreBase) (e : CoreEvent) (book : Logbook) → BookSo book → BookSo (ended_by b e book)
so_ended b (core.Ask o q) book so = so
so_ended b (core.Commit o) book so = record {
  logs = λ p. so_either (same_owner p o) [] (book.logs p) tt (so.logs p);
  ended = so_units book.ended (record { is_found = book.found o; asked = book.logs o; work = unit_of o b.units }) so.ended (so.logs o);
}
so_ended b (core.Leave o) book so = record { logs = λ p. so_either (same_owner p o) [] (book.logs p) tt (so.logs p); ended = so.ended }

so_all_ended : (es : List CoreEvent) (b : CoreBase) (book : Logbook) → BookSo book → BookSo (all_ended es b book)
so_all_ended [] b book so = so
so_all_ended (e ∷ es) b book so = so_all_ended es (bare b e) (ended_by b e book) (so_ended b e book so)

so_call : (s : CoreState) (c : ℕ) (k : Call) (book : Logbook) → BookSo book → BookSo (logged_for (question_of k) s c k (answered s c k) book)
so_call s c (call.run t params) book so = let o = owner_of s.branches c in let q = running t params in so_entered o q (answer_in (asked_of s.base o q)) book (so_question s.base o q) so
so_call s c (call.query t params) book so = let o = owner_of s.branches c in let q = querying t params in so_entered o q (answer_in (asked_of s.base o q)) book (so_question s.base o q) so
so_call s c (call.describe t d) book so = let o = owner_of s.branches c in let q = describing t d in so_entered o q (answer_in (asked_of s.base o q)) book (so_question s.base o q) so
so_call s c call.commit book so = so_all_ended (events s.branches s.base c call.commit) s.base book so
so_call s c call.roll_back book so = so_all_ended (events s.branches s.base c call.roll_back) s.base book so
so_call s c (call.xa r) book so = so_all_ended (events s.branches s.base c (call.xa r)) s.base book so
so_call s c call.lost book so = so_all_ended (events s.branches s.base c call.lost) s.base book so

so_mark : (m : Mark) (s : CoreState) (c : ℕ) (k : Call) (a : Answer) (book : Logbook) → IsAnswer m s c k a → BookSo book → BookSo (logged m s c k a book)
so_mark Taken s c k a book is so = subst (λ (b : Answer). BookSo (logged_for (question_of k) s c k b book)) (sym is) (so_call s c k book so)
so_mark Kept s c k a book is so = so

so_all : (ls : List AnsweredCall) (s : CoreState) (book : Logbook) → AreAnswers s ls → BookSo book → BookSo (all_logged ls s book)
so_all [] s book are so = so
so_all (x ∷ ls) s book are so = so_all ls (step_by x.mark s x.conversation x.call) (logged x.mark s x.conversation x.call x.answer book) are.1 (so_mark x.mark s x.conversation x.call x.answer book are.0 so)

-- ---- alone, by the core's step

abbrev of_outcome : unit.Outcome core_words → CoreOutcome
of_outcome unit.Clashes = asked.Clashes
of_outcome unit.TooMany = asked.TooMany
of_outcome (unit.Done a u) = asked.Done a (of_work u)

module _ (ds : List Claim) (u : CoreWork) (cs : List Claim) (a : Answer) (xs : List Change) where
  theirs : Bool → Bool → CoreOutcome
  theirs p r = if p then asked.Clashes else (if r then asked.TooMany else asked.Done a (asked.kept u cs xs))

  ours : Bool → Bool → unit.Outcome core_words
  ours p r = if p then unit.Clashes else if r then unit.TooMany else unit.Done a (record { changes = u.changes ++ xs; claims = core_words.added u.claims cs })

  by_cases : (p r : Bool) → of_outcome (ours p r) ≡ theirs p r
  unfolding theirs ours
  by_cases true r = refl
  by_cases false true = refl
  by_cases false false = refl

  same_outcome : of_outcome (unit.outcome core_words ds (to_work u) cs a xs) ≡ asked.outcome ds u cs a xs
  unfolding theirs ours
  same_outcome = let full = is_full (core_words.added u.claims cs) in sym (ap (λ p. of_outcome (ours p full)) (same_clashes cs ds)) ∙ by_cases (units.clashes cs ds) full

-- what a unit is told alone, as the law has it and as the core does
same_alone : (s : Store) (u : CoreWork) (q : Question) → unfit q ≡ None → asked.asked [] s u q ≡ of_outcome (unit.asked core_words [] s (to_work u) q)
same_alone s u q fit =
    let at : Store → CoreOutcome = λ v. asked.outcome [] u (claims_of q v) (answer_to q (left_of u) v) (changes_by q (left_of u) v) in
    let v = units.view s u in
    let w = apply_all core_words u.changes s in
    ap (λ e. fit_or e (at v)) fit ∙ ap at (same_view u.changes s) ∙ sym (same_outcome [] u (claims_of q w) (answer_to q (left_of u) w) (changes_by q (left_of u) w))

unfit_alone : (s : Store) (u : CoreWork) (q : Question) (f : SqlFault) → unfit q ≡ Some f → asked.asked [] s u q ≡ asked.Unfit f
unfit_alone s u q f is = let v = units.view s u in ap (λ e. fit_or e (asked.outcome [] u (claims_of q v) (answer_to q (left_of u) v) (changes_by q (left_of u) v))) is

module _ (s : Store) where
  one_alone : (u v : CoreWork) (a : AnsweredQuestion) (more : List AnsweredQuestion) (e : Option SqlFault) → unfit a.question ≡ e → IsSo a
      → ((w : CoreWork) → Alone core_words s (to_work w) (fit_log more) (to_work v) → AnsweredAlone s w more v)
      → Alone core_words s (to_work u) (if_fit e a (fit_log more)) (to_work v) → AnsweredAlone s u (a ∷ more) v
  one_alone u v a more (Some f) is so rest alone =
      let told = unfit_alone s u a.question f is in
      (ap answer_in told ∙ sym (so f is), subst (λ (x : CoreOutcome). AnsweredAlone s (work_after u x) more v) (sym told) (rest u alone))
  one_alone u v a more None is so rest alone =
      let told = same_alone s u a.question is ∙ ap of_outcome alone.0 in
      (ap answer_in told, subst (λ (x : CoreOutcome). AnsweredAlone s (work_after u x) more v) (sym told) (rest (of_work (unit.kept core_words s (to_work u) a.question)) alone.1))

  all_alone : (log : List AnsweredQuestion) (u v : CoreWork) → AreSo log → Alone core_words s (to_work u) (fit_log log) (to_work v) → AnsweredAlone s u log v
  all_alone [] u v so same = ap of_work same
  all_alone (a ∷ more) u v so alone = one_alone u v a more (unfit a.question) refl so.0 (λ w h. all_alone more w v so.1 h) alone

unless_both : (b : Bool) (X Y : Type 0) → (X → Y) → Unless b X → Unless b Y
unless_both true X Y f h = tt
unless_both false X Y f h = f h

run_so : (us : List CommittedUnit) (s t : Store) → UnitsSo us → Serially core_words s (map fit_unit us) t → SerialRun s us t
run_so [] s t so same = same
run_so (u ∷ us) s t so h = (
  unless_both u.is_found (Alone core_words s (idle core_words) (fit_log u.asked) (to_work u.work)) (AnsweredAlone s units.idle u.asked u.work) (all_alone s u.asked units.idle u.work so.0) h.0,
  run_so us (units.view s u.work) t so.1 (subst (λ (x : Store). Serially core_words x (map fit_unit us) t) (sym (same_view u.work.changes s)) h.1),
)

-- ---- the laws

module _ (l : Laws core_words) (wait : InDoubtWait) (fits : ActionsFit) where
  pub logs_are_answers : LogsAreAnswers
  logs_are_answers s calls b are =
      let same = ghosts_are l wait fits s calls b are ∙ sym (all_both calls s (new_book s) are) in
      record { logs = ap (λ (g : Ghosts). g.logs) same; ended = ap (λ (g : Ghosts). g.ended) same }

  pub answers_are_serial : AnswersAreSerial
  answers_are_serial s t calls b lead =
      let so = so_all calls s (new_book s) lead.answers (record { logs = λ o. tt; ended = tt }) in
      let same = all_both calls s (new_book s) lead.answers in
      run_so (committed s calls) s.base.store t.base.store so.ended
      (subst (λ (g : Ghosts). Serially core_words s.base.store g.ended t.base.store) (sym same) (ghosts_serial l wait fits s t calls b lead))
