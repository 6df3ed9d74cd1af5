-- The records that a core makes are those that are due of the calls that are listed.
use Rattle.std.proofs.Common.{◌≡◌, ℕ, Bool, IsTrue, true, false, List, [], ◌∷◌, ◌++◌, Option, Some, None, if◌then◌else◌, map, refl, sym, ap, subst, ◌∙◌, inl, inr}
use Rattle.std.proofs.lemmas.Bool.{false≢true}
use Rattle.std.specs.Option.{option_to_list}
use Rattle.drda_disk.specs.Disk.{Life}
use Rattle.core_calls.specs.Call.{Call}
use Rattle.core_calls.specs.Answer.{Answer}
use Rattle.core_model.specs.Step.{CoreState, Kept, Taken, replay, step_by, step_state}
use Rattle.core_model.specs.Units.{Held}
use Rattle.serializability.specs.Answered.{AnsweredCall, CallsLead, history_of}
use Rattle.serializability.specs.Belonging.{AnswersBelong, ExcusesBelongToNone, is_excuse}
use Rattle.unit_journal.specs.Record.{Entry}
use Rattle.unit_records.specs.Due.{record_due}
use Rattle.unit_records.specs.MadeRecords.{MadeRecords, with_begun, with_done}
use Rattle.unit_records.specs.Records.{UnitRecord, entry_of}
use Rattle.unit_records.specs.Together.{AreTaken, call_for, record_of}
use Rattle.recovery.specs.Journaled.{OnDisk, shown_on}
use Rattle.recovery.specs.Openings.{record_by}
use Rattle.durable_core.specs.Steps.{IsExcused, Steps, due_groups}
use Rattle.core_history.specs.declared.wish.Wish.{Wish}
use Rattle.core_history.specs.Books.{AreRecorded, entries_in, records_listed}
use Rattle.core_history.specs.Gathered.{MakesTogether, all_listed, group_of}
use Rattle.core_history.specs.Passes.{IsAnswered, Rests}
use Rattle.core_history.specs.Wishes.{listed_wish}
use Rattle.core_history.proofs.Leading.{excuse_is, no_excuse}

-- ---- lists

behind_none : {T : Type 0} (xs : List T) → xs ++ [] ≡ xs
behind_none [] = refl
behind_none (x ∷ xs) = ap (λ (l : List _). x ∷ l) (behind_none xs)

behind : {T : Type 0} (xs ys zs : List T) → (xs ++ ys) ++ zs ≡ xs ++ (ys ++ zs)
behind [] ys zs = refl
behind (x ∷ xs) ys zs = ap (λ (l : List _). x ∷ l) (behind xs ys zs)

mapped : (xs ys : List UnitRecord) → map entry_of (xs ++ ys) ≡ map entry_of xs ++ map entry_of ys
mapped [] ys = refl
mapped (x ∷ xs) ys = ap (λ (l : List Entry). entry_of x ∷ l) (mapped xs ys)

entries_behind : (gs hs : List (List Entry)) → entries_in (gs ++ hs) ≡ entries_in gs ++ entries_in hs
entries_behind [] hs = refl
entries_behind (g ∷ gs) hs = ap (λ (l : List Entry). g ++ l) (entries_behind gs hs) ∙ sym (behind g (entries_in gs) (entries_in hs))

-- the records of calls behind others
listed_behind : (ls more : List AnsweredCall) (s : CoreState) → records_listed (ls ++ more) s ≡ records_listed ls s ++ records_listed more (replay (history_of ls) s)
listed_behind [] more s = refl
listed_behind (l ∷ ls) more s =
    let here = record_by l.mark s l.conversation l.call in
    let t = step_by l.mark s l.conversation l.call in
    ap (λ (rs : List UnitRecord). here ++ rs) (listed_behind ls more t) ∙ sym (behind here (records_listed ls t) (records_listed more (replay (history_of ls) t)))

-- ---- a book

-- these calls made their records, of a core of this state
abbrev Records : {D : Type 0} → CoreState → OnDisk D → List AnsweredCall → OnDisk D → Type 0
Records s old ls new = entries_in new.made.done ≡ entries_in old.made.done ++ map entry_of (records_listed ls s)

module _ {D : Type 0} where
  pub none_recorded : (core : OnDisk D) → AreRecorded core [] core
  none_recorded core = sym (behind_none (entries_in core.made.done))

  pub recorded_still : (opening old new : OnDisk D) (ls : List AnsweredCall) → new.made ≡ old.made → AreRecorded opening ls old → AreRecorded opening ls new
  recorded_still opening old new ls same are = subst (λ (m : MadeRecords). entries_in m.done ≡ entries_in opening.made.done ++ map entry_of (records_listed ls opening.state)) (sym same) are

  pub recorded_on : (opening old new : OnDisk D) (ls more : List AnsweredCall) (s : CoreState) → CallsLead opening.state ls s → AreRecorded opening ls old → Records s old more new → AreRecorded opening (ls ++ more) new
  recorded_on opening old new ls more s lead are here =
      let first : List Entry = entries_in opening.made.done in
      let next : Records (replay (history_of ls) opening.state) old more new = subst (λ (t : CoreState). Records t old more new) (sym lead.state) here in
      next ∙ ap (λ (es : List Entry). es ++ map entry_of (records_listed more (replay (history_of ls) opening.state))) are
      ∙ behind first (map entry_of (records_listed ls opening.state)) (map entry_of (records_listed more (replay (history_of ls) opening.state)))
      ∙ ap (λ (es : List Entry). first ++ es)
      (sym (mapped (records_listed ls opening.state) (records_listed more (replay (history_of ls) opening.state))) ∙ ap (map entry_of) (sym (listed_behind ls more opening.state)))

-- ---- one call

due_entries : (o : Option UnitRecord) → entries_in (due_groups o) ≡ map entry_of (option_to_list o ++ [])
due_entries None = refl
due_entries (Some r) = refl

-- none was made
none_made : {D : Type 0} (old new : OnDisk D) → new.made.done ≡ old.made.done → entries_in new.made.done ≡ entries_in old.made.done ++ []
none_made old new same = ap entries_in same ∙ sym (behind_none (entries_in old.made.done))

module _ {D : Type 0} (modelled : Bool) (life : D → Life) where
  excused_done : (old new : OnDisk D) (n : ℕ) (k : Call) (a : Answer) → IsExcused modelled (shown_on life old) n k a (shown_on life new) → new.made.done ≡ old.made.done
  excused_done old new n k a (inl x) = ap (λ (m : MadeRecords). m.done) x.same.made
  excused_done old new n k a (inr (inl x)) = ap (λ (m : MadeRecords). m.done) x.same.made
  excused_done old new n k a (inr (inr (inl x))) = ap (λ (m : MadeRecords). m.done) x.begun
  excused_done old new n k a (inr (inr (inr (inl x)))) = ap (λ (m : MadeRecords). m.done) x.made
  excused_done old new n k a (inr (inr (inr (inr x)))) = ap (λ (m : MadeRecords). m.done) x.same.made

  module _ (belong : AnswersBelong) (excuses : ExcusesBelongToNone) where
    records_by_step : IsTrue modelled → (at new : OnDisk D) (n : ℕ) (k : Call) (a : Answer) (t : Bool) → (t ≡ true → is_excuse a ≡ false) → (t ≡ false → is_excuse a ≡ true) → Steps modelled (shown_on life at) n k a (shown_on life new)
        → Records at.state at (record { conversation = n; call = k; mark = if t then Taken else Kept; answer = a } ∷ []) new
    records_by_step told at new n k a true done excused (inl x) =
        ap (λ (m : MadeRecords). entries_in m.done) x.made ∙ entries_behind at.made.done (due_groups (record_due at.state n k))
        ∙ ap (λ (es : List Entry). entries_in at.made.done ++ es) (due_entries (record_due at.state n k))
    records_by_step told at new n k a true done excused (inr (inl x)) = absurd (false≢true (sym x.untold ∙ told))
    records_by_step told at new n k a true done excused (inr (inr x)) = absurd (false≢true (sym (done refl) ∙ (excuse_is modelled life at new n k a x).0))
    records_by_step told at new n k a false done excused (inl x) = absurd (no_excuse modelled life belong excuses at new n k a x (excused refl))
    records_by_step told at new n k a false done excused (inr (inl x)) = absurd (false≢true (sym x.untold ∙ told))
    records_by_step told at new n k a false done excused (inr (inr x)) = none_made at new (excused_done at new n k a x)

    pub records_of_call : IsTrue modelled → (opening old new : OnDisk D) (ls : List AnsweredCall) (n : ℕ) (k : Call) (a : Answer) (t : Bool) → (t ≡ true → is_excuse a ≡ false) → (t ≡ false → is_excuse a ≡ true)
        → CallsLead opening.state ls old.state → AreRecorded opening ls old → IsAnswered modelled life old n k a new
        → AreRecorded opening (ls ++ record { conversation = n; call = k; mark = if t then Taken else Kept; answer = a } ∷ []) new
    records_of_call told opening old new ls n k a t done excused lead are w =
        recorded_on opening w.at new ls (record { conversation = n; call = k; mark = if t then Taken else Kept; answer = a } ∷ []) w.at.state
        (subst (λ (s : CoreState). CallsLead opening.state ls s) (sym w.rests.state) lead) (recorded_still opening old w.at ls w.rests.made are)
        (records_by_step told w.at new n k a t done excused w.steps)

-- ---- calls that are made together

-- each has its own record
each_recorded : (s : CoreState) (units : List Held) (members : List Wish) → AreTaken units (group_of members) s → map entry_of (map (record_of units) (group_of members)) ≡ map entry_of (records_listed (all_listed false members) s)
each_recorded s units [] taken = refl
each_recorded s units (w ∷ ws) taken =
    let (here, record_is, rest) = taken in
    let t : CoreState = step_state s w.conversation (call_for w.wished) in
    subst (λ (o : Option UnitRecord). map entry_of (map (record_of units) (group_of (w ∷ ws))) ≡ map entry_of (option_to_list o ++ records_listed (all_listed false ws) t)) (sym record_is)
    (ap (λ (es : List Entry). entry_of (record_of units (record { conversation = w.conversation; asked = w.wished })) ∷ es) (each_recorded t units ws rest))

-- or none has
none_recorded_of : (s : CoreState) (members : List Wish) → records_listed (all_listed true members) s ≡ []
none_recorded_of s [] = refl
none_recorded_of s (w ∷ ws) = none_recorded_of s ws

module _ {D : Type 0} (life : D → Life) where
  members_recorded : (old new : OnDisk D) (members : List Wish) (f : Bool) → MakesTogether life old members f new → Records old.state old (all_listed f members) new
  members_recorded old new members true together =
      none_made old new (ap (λ (m : MadeRecords). m.done) together.begun) ∙ ap (λ (rs : List UnitRecord). entries_in old.made.done ++ map entry_of rs) (sym (none_recorded_of old.state members))
  members_recorded old new members false together =
      let group : List Entry = map entry_of (map (record_of old.state.base.units) (group_of members)) in
      ap (λ (m : MadeRecords). entries_in m.done) together.made ∙ entries_behind old.made.done (group ∷ [])
      ∙ ap (λ (es : List Entry). entries_in old.made.done ++ es) (behind_none group ∙ each_recorded old.state old.state.base.units members together.taken)

  pub records_together : (opening old new : OnDisk D) (ls : List AnsweredCall) (members : List Wish) (f : Bool) → CallsLead opening.state ls old.state → AreRecorded opening ls old
      → MakesTogether life old members f new → AreRecorded opening (ls ++ all_listed f members) new
  records_together opening old new ls members f lead are together = recorded_on opening old new ls (all_listed f members) old.state lead are (members_recorded old new members f together)
