-- A book keeps what it keeps: where it is opened, where nothing is listed, where a call is, and where commits are that were made
-- together.
use Rattle.std.proofs.Common.{◌≡◌, ℕ, Bool, true, false, if◌then◌else◌, List, [], ◌∷◌, ◌++◌, Option, None, length, replicate, slice_set, refl, sym, ap, subst, ◌∙◌, inl}
use Rattle.drda_disk.specs.Disk.{Life}
use Rattle.core_calls.specs.Call.{Call}
use Rattle.core_calls.specs.Answer.{Answer, no_memory}
use Rattle.core_model.specs.Step.{CoreState, Kept, Taken}
use Rattle.serializability.specs.Answered.{AnsweredCall, CallsLead, CallsLeadOn}
use Rattle.serializability.specs.Belonging.{AnswersBelong, ExcusesBelongToNone, is_excuse}
use Rattle.recovery.specs.Journaled.{CallsGoOn, IsUnchanged, Journaled, OnDisk, shown_on}
use Rattle.core_history.specs.declared.count.Count.{Count}
use Rattle.core_history.specs.declared.left.Left.{Left}
use Rattle.core_history.specs.declared.wish.Wish.{Wish}
use Rattle.core_history.specs.LeftAnswers.{AreLeft, FailuresAreTrue}
use Rattle.core_history.specs.Books.{AreCounted, AreRecorded, IsKept, Told}
use Rattle.core_history.specs.declared.pass.Pass.{Pass}
use Rattle.core_history.specs.Passes.{FindsNoMemory, IsAnswered, Knows, Rests}
use Rattle.core_history.proofs.Counting.{length_replicate, none_yet, set_length}
use Rattle.core_history.specs.Gathered.{MakesTogether, all_listed}
use Rattle.core_history.proofs.Leading.{finds_no_memory, leads_on, lost_wants_none}
use Rattle.core_history.proofs.Leaving.{none_left, none_true, true_after}
use Rattle.core_history.proofs.Failing.{answered_still, together_failed, together_still}
use Rattle.core_history.proofs.Recording.{none_recorded, recorded_still, records_of_call, records_together}
use Rattle.core_history.proofs.Together.{leads_together}

abbrev book_of : {D : Type 0} → OnDisk D → OnDisk D → List AnsweredCall → List (Option Count) → List (Option Left) → ℕ → Told D
book_of core opening calls places left next = record { core = core; opening = opening; calls = calls; places = places; left = left; next = next }

module _ {D : Type 0} (modelled : Bool) (life : D → Life) where
  pub opens : CallsLeadOn → (core opening : OnDisk D) (calls : List AnsweredCall) (places : List (Option Count)) (left : List (Option Left)) → opening ≡ core → calls ≡ [] → places ≡ replicate 64 None
      → left ≡ replicate 64 None → Journaled modelled (shown_on life core) (shown_on life core) → IsKept modelled life (book_of core opening calls places left 1)
  opens on core opening calls places left same none free nothing journaled = record {
    leads = λ told. subst (λ (o : OnDisk D). CallsLead o.state calls core.state) (sym same) (subst (λ (ls : List AnsweredCall). CallsLead core.state ls core.state) (sym none) (on.none core.state));
    recorded = λ told. subst (λ (o : OnDisk D). AreRecorded o calls core) (sym same) (subst (λ (ls : List AnsweredCall). AreRecorded core ls core) (sym none) (none_recorded core));
    journaled = subst (λ (o : OnDisk D). Journaled modelled (shown_on life o) (shown_on life core)) (sym same) journaled;
    counted = subst (λ (ls : List AnsweredCall). AreCounted ls places 1) (sym none) (subst (λ (ps : List (Option Count)). AreCounted [] ps 1) (sym free) none_yet);
    sixty_four = ap (λ (ps : List (Option Count)). length ps) free ∙ length_replicate {Y = Option Count} 64 None;
    are_left = subst (λ (ls : List AnsweredCall). AreLeft ls left) (sym none) (subst (λ (ls : List (Option Left)). AreLeft [] ls) (sym nothing) (none_left 64));
    as_many = ap (λ (ls : List (Option Left)). length ls) nothing ∙ length_replicate {Y = Option Left} 64 None;
    failures = subst (λ (ls : List (Option Left)). FailuresAreTrue core.is_failed ls) (sym nothing) (none_true core.is_failed 64);
  }

  module _ (belong : AnswersBelong) (excuses : ExcusesBelongToNone) where
    pub stays : (old opening new : OnDisk D) (calls : List AnsweredCall) (places : List (Option Count)) (left : List (Option Left)) (next n : ℕ) (k : Call) (a : Answer) → a ≡ no_memory
        → CallsGoOn life
        → IsKept modelled life (book_of old opening calls places left next) → IsAnswered modelled life old n k a new → Journaled modelled (shown_on life old) (shown_on life new) → IsKept modelled life (book_of new opening calls places left next)
    stays old opening new calls places left next n k a is on_disk kept answered journaled =
        let (rests, wanting) = finds_no_memory modelled life belong excuses old new n k a is answered in
        record {
          leads = λ told. subst (λ (s : CoreState). CallsLead opening.state calls s) (sym rests.state) (kept.leads told);
          recorded = λ told. recorded_still opening old new calls rests.made (kept.recorded told);
          journaled = on_disk.both modelled opening old new kept.journaled journaled;
          counted = kept.counted;
          sixty_four = kept.sixty_four;
          are_left = kept.are_left;
          as_many = kept.as_many;
          failures = true_after old.is_failed new.is_failed left rests.failed kept.failures;
        }

    -- what became of such a call
    pub finds_none : (old book : Told D) (pass : Pass) (k : Call) (a : Answer) (new : OnDisk D) → old ≡ book → a ≡ no_memory → Knows book pass → IsAnswered modelled life old.core pass.conversation k a new
        → FindsNoMemory modelled life book pass k no_memory (record old { core = new }) pass
    finds_none old book pass k a new same is knows answered =
        let (rests, wanting) = finds_no_memory modelled life belong excuses old.core new pass.conversation k a is answered in
        subst (λ (b : Told D). FindsNoMemory modelled life b pass k no_memory (record old { core = new }) pass) same (record {
          knows = subst (λ (b : Told D). Knows b pass) (sym same) knows;
          answer_is = refl;
          wants = inl wanting;
          lost = λ is_lost. absurd (lost_wants_none modelled life old.core.state pass.conversation k is_lost wanting);
          nothing = record { rests = rests; book = refl; same = refl };
        })

    pub goes_on : CallsLeadOn → (old opening new : OnDisk D) (calls more : List AnsweredCall) (places set : List (Option Count)) (left : List (Option Left)) (next p : ℕ) (c : Option Count) (n : ℕ) (k : Call) (a : Answer) (t : Bool)
        → (t ≡ true → is_excuse a ≡ false) → (t ≡ false → is_excuse a ≡ true)
        → more ≡ calls ++ record { conversation = n; call = k; mark = if t then Taken else Kept; answer = a } ∷ [] → set ≡ slice_set places p c
        → (AreCounted calls places next → AreCounted more set next) → (AreLeft calls left → AreLeft more left)
        → CallsGoOn life
        → IsKept modelled life (book_of old opening calls places left next) → IsAnswered modelled life old n k a new → Journaled modelled (shown_on life old) (shown_on life new) → IsKept modelled life (book_of new opening more set left next)
    goes_on on old opening new calls more places set left next p c n k a t done excused more_is set_is counted still on_disk kept answered journaled = record {
      leads = λ told. subst (λ (ls : List AnsweredCall). CallsLead opening.state ls new.state) (sym more_is) (leads_on modelled life belong excuses told on opening.state calls old new n k a t done excused (kept.leads told) answered);
      recorded = λ told. subst (λ (ls : List AnsweredCall). AreRecorded opening ls new) (sym more_is) (records_of_call modelled life belong excuses told opening old new calls n k a t done excused (kept.leads told) (kept.recorded told) answered);
      journaled = on_disk.both modelled opening old new kept.journaled journaled;
      counted = counted kept.counted;
      sixty_four = ap (λ (ps : List (Option Count)). length ps) set_is ∙ set_length places p c ∙ kept.sixty_four;
      are_left = still kept.are_left;
      as_many = kept.as_many;
      failures = true_after old.is_failed new.is_failed left (answered_still modelled life old new n k a answered) kept.failures;
    }

  pub still : (old opening new : OnDisk D) (calls : List AnsweredCall) (places : List (Option Count)) (left : List (Option Left)) (next : ℕ)
      → CallsGoOn life
      → IsKept modelled life (book_of old opening calls places left next) → IsUnchanged (shown_on life old) (shown_on life new) → Journaled modelled (shown_on life old) (shown_on life new)
      → IsKept modelled life (book_of new opening calls places left next)
  still old opening new calls places left next on_disk kept same journaled = record {
    leads = λ told. subst (λ (s : CoreState). CallsLead opening.state calls s) (sym same.state) (kept.leads told);
    recorded = λ told. recorded_still opening old new calls same.made (kept.recorded told);
    journaled = on_disk.both modelled opening old new kept.journaled journaled;
    counted = kept.counted;
    sixty_four = kept.sixty_four;
    are_left = kept.are_left;
    as_many = kept.as_many;
    failures = true_after old.is_failed new.is_failed left (λ e. same.is_failed ∙ e) kept.failures;
  }

  pub rests_on : (old opening new : OnDisk D) (calls : List AnsweredCall) (places : List (Option Count)) (left : List (Option Left)) (next : ℕ)
      → CallsGoOn life
      → IsKept modelled life (book_of old opening calls places left next) → Rests old new → Journaled modelled (shown_on life old) (shown_on life new)
      → IsKept modelled life (book_of new opening calls places left next)
  rests_on old opening new calls places left next on_disk kept rests journaled = record {
    leads = λ told. subst (λ (s : CoreState). CallsLead opening.state calls s) (sym rests.state) (kept.leads told);
    recorded = λ told. recorded_still opening old new calls rests.made (kept.recorded told);
    journaled = on_disk.both modelled opening old new kept.journaled journaled;
    counted = kept.counted;
    sixty_four = kept.sixty_four;
    are_left = kept.are_left;
    as_many = kept.as_many;
    failures = true_after old.is_failed new.is_failed left rests.failed kept.failures;
  }

  pub gathers_on : CallsLeadOn → (old opening new : OnDisk D) (calls more : List AnsweredCall) (places set : List (Option Count)) (left over : List (Option Left)) (next : ℕ) (members : List Wish) (f : Bool)
      → more ≡ calls ++ all_listed f members → length set ≡ length places → length over ≡ length left
      → (AreCounted calls places next → AreCounted more set next) → (AreCounted calls places next → AreLeft calls left → AreLeft more over)
      → ((b : Bool) → (f ≡ true → b ≡ true) → FailuresAreTrue b left → FailuresAreTrue b over)
      → CallsGoOn life
      → IsKept modelled life (book_of old opening calls places left next) → MakesTogether life old members f new
      → Journaled modelled (shown_on life old) (shown_on life new) → IsKept modelled life (book_of new opening more set over next)
  gathers_on on old opening new calls more places set left over next members f more_is as_long as_many counted are_left failures on_disk kept together journaled = record {
    leads = λ told. subst (λ (ls : List AnsweredCall). CallsLead opening.state ls new.state) (sym more_is) (leads_together life on opening.state calls old new members f (kept.leads told) together);
    recorded = λ told. subst (λ (ls : List AnsweredCall). AreRecorded opening ls new) (sym more_is) (records_together life opening old new calls members f (kept.leads told) (kept.recorded told) together);
    journaled = on_disk.both modelled opening old new kept.journaled journaled;
    counted = counted kept.counted;
    sixty_four = as_long ∙ kept.sixty_four;
    are_left = are_left kept.counted kept.are_left;
    as_many = as_many ∙ kept.as_many;
    failures = failures new.is_failed (together_failed life old new members f together) (true_after old.is_failed new.is_failed left (together_still life old new members f together) kept.failures);
  }
