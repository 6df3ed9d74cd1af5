-- What a desk answers lasts.
use Rattle.std.proofs.Common.{◌≡◌, ◌⊎◌, ◌+◌, ◌∙◌, ℕ, zero, suc, Bool, true, false, cond, List, [], ◌∷◌, ◌++◌, Some, length, slice_get, refl, sym, ap, subst, inl, inr, arith, append-nil, append_assoc, length-append}
use Rattle.std.specs.Prelude.{IsTrue, if◌then◌else◌, ◌==◌}
use Rattle.std.proofs.lemmas.List.Elements.{filter-append}
use Rattle.drda_disk.specs.Disk.{Life}
use Rattle.core_calls.specs.Call.{Call}
use Rattle.core_calls.specs.Answer.{Answer, answer_of}
use Rattle.core_model.specs.Step.{CoreState, Kept, Mark, Taken, step_by}
use Rattle.serializability.specs.Answered.{AnsweredCall, AreAnswers, IsAnswer}
use Rattle.serializability.specs.Belonging.{is_excuse}
use Rattle.recovery.specs.Journaled.{OnDisk}
use Rattle.core_history.specs.declared.acted.Acted.{Acted}
use Rattle.core_history.specs.declared.acted.Acted.TheVariants.{Answered, StrangerPass}
use Rattle.core_history.specs.declared.count.Count.{Count}
use Rattle.core_history.specs.declared.pass.Pass.{Pass}
use Rattle.core_history.specs.Books.{IsKept, Told, calls_of}
use Rattle.core_history.specs.Gathered.{Collects}
use Rattle.core_history.specs.Lasting.{KeptBooksLast, Lasts}
use Rattle.core_history.specs.LeftAnswers.{calls_by}
use Rattle.core_history.specs.Passes.{Lists, count_of}
use Rattle.core_history.specs.Wishes.{answer_wished, listed_wish}
use Rattle.core_history.proofs.Counting.{get_set}
use Rattle.core_history.proofs.Leaving.{by_its, get_behind, get_in_front, length_by}
use Rattle.turns.specs.declared.turn.Turn.{Turn}
use Rattle.shared_node.specs.Desks.{DeskAsks, ShowsNothing, answer_told}
use Rattle.shared_node.specs.Locked.{Considers, GivesLeave, LaysAhead, Retires, UnderLock}
use Rattle.shared_node.specs.Lasting.{AnswerLasts, AnswerStands, AnswersAreDurable, IsLater, IsListedAs, TurnsGoOn}
use Rattle.shared_node.specs.Turns.{IsCollected, TakesTurn}

-- ---- the same book

module _ {D : Type 0} where
  no_more : (found left : Told D) → left.calls ≡ found.calls → left.opening ≡ found.opening → IsLater found left
  no_more found left same opening = record { more = []; calls = same ∙ sym (append-nil found.calls); opening = opening }

  pub retires : (pass : Pass) (is_taken : Bool) (found left : Told D) → Retires pass is_taken found left → IsLater found left
  retires pass true found left r = no_more found left (ap (λ (t : Told D). t.calls) (r.done refl)) (ap (λ (t : Told D). t.opening) (r.done refl))
  retires pass false found left r = no_more found left (ap (λ (t : Told D). t.calls) (r.stranger refl)) (ap (λ (t : Told D). t.opening) (r.stranger refl))

  later_on : (first mid last : Told D) → IsLater first mid → IsLater mid last → IsLater first last
  later_on first mid last a b = record {
    more = a.more ++ b.more;
    calls = b.calls ∙ (ap (λ (ls : List AnsweredCall). ls ++ b.more) a.calls ∙ append_assoc first.calls a.more b.more);
    opening = b.opening ∙ a.opening;
  }

  pub turns_go_on : (modelled : Bool) (life : D → Life) → TurnsGoOn modelled life
  turns_go_on modelled life = record {
    given = λ pass found left g. no_more found left (ap (λ (t : Told D). t.calls) g.admits.book) (ap (λ (t : Told D). t.opening) g.admits.book);
    asked = λ pass after call acted found left t. record { more = t.together ++ t.its; calls = t.goes_on.calls; opening = t.goes_on.opening };
    retired = retires;
    rested = λ turn found left c. no_more found left (ap (λ (t : Told D). t.calls) c.rest) (ap (λ (t : Told D). t.opening) c.rest);
    laid = λ found left l. no_more found left (ap (λ (t : Told D). t.calls) l.rest) (ap (λ (t : Told D). t.opening) l.rest);
    both = later_on;
  }

-- ---- what was answered by no excuse was taken

module _ {Y : Type 0} where
  there_or_behind : (b : Bool) (x : Y) (ys : List Y) (n : ℕ) (l : Y) → slice_get (cond b (x ∷ ys) ys) n ≡ Some l → (x ≡ l) ⊎ ((m : ℕ) × (slice_get ys m ≡ Some l))
  there_or_behind true x ys zero l is = let both : Some x ≡ Some l = is in inl (cc both)
  there_or_behind true x ys (suc n) l is = inr (n, is)
  there_or_behind false x ys n l is = inr (n, is)

taken_so : (m : Mark) (s : CoreState) (conversation : ℕ) (call : Call) (answer : Answer) → IsAnswer m s conversation call answer → is_excuse answer ≡ false → m ≡ Taken
taken_so Taken s conversation call answer is none = refl
taken_so Kept s conversation call answer is none = absurd (let both : true ≡ false = sym is ∙ none in cc both)

taken_there : (calls : List AnsweredCall) (s : CoreState) → AreAnswers s calls → (conversation n : ℕ) (l : AnsweredCall) → slice_get (calls_by conversation calls) n ≡ Some l → is_excuse l.answer ≡ false → l.mark ≡ Taken
taken_there [] s are conversation n l is none = absurd (cc is)
taken_there (x ∷ xs) s are conversation n l is none = elim (there_or_behind (x.conversation == conversation) x (calls_by conversation xs) n l is) [
  | inl same ↦ subst (λ (y : AnsweredCall). is_excuse y.answer ≡ false → y.mark ≡ Taken) same (taken_so x.mark s x.conversation x.call x.answer are.0) none
  | inr more ↦ taken_there xs (step_by x.mark s x.conversation x.call) are.1 conversation more.0 l more.1 none
]

-- ---- it is listed

module _ {D : Type 0} (modelled : Bool) (life : D → Life) where
  still : (left now : Told D) (conversation number : ℕ) (call : Call) (mark : Mark) (answer : Answer) → IsListedAs left conversation number call mark answer → IsLater left now → IsListedAs now conversation number call mark answer
  still left now conversation number call mark answer is later =
      let l : AnsweredCall = record { conversation = conversation; call = call; mark = mark; answer = answer } in
      subst (λ (ls : List AnsweredCall). slice_get (calls_by conversation ls) number ≡ Some l) (sym later.calls)
      (subst (λ (ls : List AnsweredCall). slice_get ls number ≡ Some l) (sym (filter-append (λ (x : AnsweredCall). x.conversation == conversation) left.calls later.more))
      (get_in_front (calls_by conversation left.calls) (calls_by conversation later.more) number l is))

  stands : KeptBooksLast modelled life → (left now : Told D) (pass : Pass) (call : Call) (mark : Mark) (answer : Answer) → IsListedAs left pass.conversation pass.count call mark answer → IsLater left now → IsKept modelled life now
      → AnswerStands modelled life pass call answer mark now
  stands last left now pass call mark answer is later kept =
      let there = still left now pass.conversation pass.count call mark answer is later in
      record {
        listed = there;
        taken = λ so none. taken_there now.calls now.opening.state (kept.leads so).answers pass.conversation pass.count (record { conversation = pass.conversation; call = call; mark = mark; answer = answer }) there none;
        lasts = λ so going. last now so kept going;
      }

  -- its own call is the last of its conversation's
  its_last : (between behind left : Told D) (pass after : Pass) (call : Call) (answer : Answer) (l : Lists modelled life between pass call answer behind after) → left.calls ≡ behind.calls → left.places ≡ behind.places
      → IsKept modelled life left → IsListedAs left pass.conversation pass.count call l.mark answer
  its_last between behind left pass after call answer l same places kept =
      let one : AnsweredCall = record { conversation = pass.conversation; call = call; mark = l.mark; answer = answer } in
      let calls : left.calls ≡ between.calls ++ one ∷ [] = same ∙ l.calls in
      let here : slice_get left.places pass.place ≡ Some (Some (count_of after)) =
      ap (λ ps. slice_get ps pass.place) (places ∙ l.places) ∙ get_set between.places pass.place (Some (count_of pass)) (Some (count_of after)) l.knows in
      let counted : after.count ≡ calls_of after.conversation left.calls = kept.counted.counted pass.place (count_of after) here in
      let by : calls_by pass.conversation left.calls ≡ calls_by pass.conversation between.calls ++ one ∷ [] = ap (calls_by pass.conversation) calls ∙ by_its pass.conversation between.calls one refl in
      let long : length (calls_by pass.conversation left.calls) ≡ pass.count + 1 =
      length_by pass.conversation left.calls ∙ (ap (λ n. calls_of n left.calls) (sym l.conversation) ∙ (sym counted ∙ l.count)) in
      let longer : length (calls_by pass.conversation between.calls ++ one ∷ []) ≡ pass.count + 1 = ap length (sym by) ∙ long in
      let number : length (calls_by pass.conversation between.calls) ≡ pass.count = omega (arith, longer, length-append (calls_by pass.conversation between.calls) (one ∷ [])) in
      subst (λ (ls : List AnsweredCall). slice_get ls pass.count ≡ Some one) (sym by)
      (subst (λ (n : ℕ). slice_get (calls_by pass.conversation between.calls ++ one ∷ []) n ≡ Some one) number (get_behind (calls_by pass.conversation between.calls) [] one))

  -- what was made with others' calls is listed already
  its_left : (between behind left : Told D) (pass after : Pass) (call : Call) (a : _) (c : IsCollected between pass call (Answered a) behind after) → left.calls ≡ behind.calls
      → IsListedAs left pass.conversation pass.count call (if c.2.has_failed then Kept else Taken) (answer_of a)
  its_left between behind left pass after call a c same =
      let its = c.2 in
      let mark : Mark = if its.has_failed then Kept else Taken in
      let calls : left.calls ≡ between.calls = same ∙ ap (λ (t : Told D). t.calls) its.book in
      let was : slice_get (calls_by pass.conversation left.calls) pass.count ≡ Some (listed_wish pass.conversation c.0 its.has_failed) = ap (λ ls. slice_get (calls_by pass.conversation ls) pass.count) calls ∙ its.listed in
      subst (λ (x : Answer). IsListedAs left pass.conversation pass.count call mark x) (sym its.answer_is)
      (subst (λ (k : Call). slice_get (calls_by pass.conversation left.calls) pass.count ≡ Some (record { conversation = pass.conversation; call = k; mark = mark; answer = answer_wished c.0 its.has_failed })) (sym c.1) was)

  lasts : KeptBooksLast modelled life → (found left : Told D) (pass after : Pass) (call : Call) (acted : Acted) → IsKept modelled life left → TakesTurn modelled life pass call acted after found left → AnswerLasts modelled life pass call (answer_told acted) after found left
  lasts last found left pass after call (Answered a) kept t =
      let same : left.calls ≡ t.behind.calls = ap (λ (b : Told D). b.calls) t.rest in
      let places : left.places ≡ t.behind.places = ap (λ (b : Told D). b.places) t.rest in
      elim t.own [
        | inl acts ↦ elim acts [
          | inl l ↦ inr (l.mark, λ now later is. stands last left now pass call l.mark (answer_of a) (its_last t.between t.behind left pass after call (answer_of a) l same places kept) later is)
          | inr f ↦ inl (record { answer_is = inl f.answer_is; same = f.nothing.same })
        ]
        | inr c ↦ inr (_, λ now later is. stands last left now pass call _ (answer_of a) (its_left t.between t.behind left pass after call a c same) later is)
      ]
  lasts last found left pass after call StrangerPass kept t = elim t.own [
    | inl acts ↦ inl (record { answer_is = inr refl; same = acts.1 })
    | inr c ↦ absurd c
  ]

  pub answers_are_durable : (origin : OnDisk D → Type 0) → KeptBooksLast modelled life → AnswersAreDurable modelled life origin
  answers_are_durable origin last pass after call answer asks =
      let lock = asks.turn in
      record {
        found = lock.found;
        left = lock.left;
        is_of = lock.is_of;
        opening = lock.opening;
        was_kept = lock.was_kept;
        is_kept = lock.is_kept;
        journaled = lock.journaled;
        makes = subst (λ (a : Answer). AnswerLasts modelled life pass call a after lock.found lock.left) (sym asks.answer_is) (lasts last lock.found lock.left pass after call asks.acted lock.is_kept lock.makes);
      }
