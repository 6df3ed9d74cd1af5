-- Streams that a listener let in, and how many.
use Rattle.std.proofs.Common.{◌≡◌, ◌⊎◌, ◌≤◌, ◌<◌, ◌+◌, ◌-◌, ◌^◌, ◌∙◌, ⊎_elim, refl, sym, ap, subst, inl, inr, arith, length-append, ℕ, Bool, List, [], ◌∷◌, ◌++◌, length, Option, Some, None}
use Rattle.std.specs.Prelude.{unwrap_or}
use Rattle.std.specs.List.{AllByRecursion}
use Rattle.drda_disk.specs.Disk.{Life}
use Rattle.recovery.specs.Journaled.{OnDisk}
use Rattle.session_commands.specs.Settings.{Settings}
use Rattle.command_line.specs.declared.job.ServeOptions.{ServeOptions}
use Rattle.drda_server.specs.Listening.{IsLetIn, LetsNext, MayStop, ServesStreams, most}
use Rattle.drda_server.specs.Network.{ClosesAtOnce, FailsToLetIn, NetworkCalls}
use Rattle.drda_server.specs.Threads.{Came, Given, IsReceived, IsTurnedAway, ServesAll}
use Rattle.core_history.specs.declared.pass.Pass.{Pass}

all_both : {X : Type 0} (P : X → Type 0) (xs ys : List X) → AllByRecursion P xs → AllByRecursion P ys → AllByRecursion P (xs ++ ys)
all_both P [] ys each more = more
all_both P (x ∷ xs) ys each more = (each.0, all_both P xs ys each.1 more)

-- ---- the wait for one

module _ {N L S W : Type 0} (calls : NetworkCalls N L S W) (listener : L) (idle : Option ℕ) (ends : Bool) where
  -- after so many turns these streams were closed at once, and so many may still come, of those that might; or fewer may come
  pub record HasWaited (left now turns : ℕ) : Type 0 where
    pub closed : List S
    pub closes : AllByRecursion (ClosesAtOnce calls listener idle) closed
    pub left_are : (left ≡ length closed + now) ⊎ ((now ≡ 0) × (length closed ≤ left) × MayStop calls ends listener)
    pub turns_are : MayStop calls ends listener ⊎ (length closed ≡ turns)

  one_closed : (left now now' turns : ℕ) → HasWaited left now turns → (stream : S) × ClosesAtOnce calls listener idle stream → now ≡ now' + 1 → HasWaited left now' (turns + 1)
  one_closed left now now' turns w one is = record {
    closed = one.0 ∷ w.closed;
    closes = (one.1, w.closes);
    left_are = elim w.left_are [
      | inl so ↦ inl (omega (arith, so, is))
      | inr halted ↦ absurd (let none : now ≡ 0 = halted.0 in omega (arith, none, is))
    ];
    turns_are = elim w.turns_are [
      | inl fails ↦ inl fails
      | inr so ↦ inr (omega (arith, so))
    ];
  }

  one_failed : (left now now' turns : ℕ) → HasWaited left now turns → MayStop calls ends listener → (now' ≡ now) ⊎ (now' ≡ 0) → HasWaited left now' (turns + 1)
  one_failed left now now' turns w fails how = record {
    closed = w.closed;
    closes = w.closes;
    left_are = elim w.left_are [
      | inl so ↦ elim how [
        | inl same ↦ inl (omega (arith, so, same))
        | inr none ↦ inr (none, omega (arith, so), fails)
      ]
      | inr halted ↦ inr (
        elim how [
          | inl same ↦ same ∙ halted.0
          | inr none ↦ none
        ],
        halted.1,
        fails,
      )
    ];
    turns_are = inl fails;
  }

  -- the same, in a loop whose state has another name behind each turn
  pub closed_then : (l' l'' : L) (i' i'' : Option ℕ) (e' e'' : Bool) (left now mid now' turns : ℕ) → (l' ≡ listener) × (i' ≡ idle) × (e' ≡ ends) × HasWaited left now turns → l'' ≡ l' → i'' ≡ i' → e'' ≡ e' → now' ≡ mid → (1 ≤ now) × (mid ≡ now - 1)
      → (stream : S) × ClosesAtOnce calls l' i' stream → (l'' ≡ listener) × (i'' ≡ idle) × (e'' ≡ ends) × HasWaited left now' (turns + 1)
  closed_then l' l'' i' i'' e' e'' left now mid now' turns so_far same stays goes is one stream =
      let its = subst (λ (l : L). (x : S) × ClosesAtOnce calls l idle x) so_far.0 (subst (λ (i : Option ℕ). (x : S) × ClosesAtOnce calls l' i x) so_far.1 stream) in
      let less : (1 ≤ now) × (mid ≡ now - 1) = one in
      (same ∙ so_far.0, stays ∙ so_far.1, goes ∙ so_far.2, one_closed left now now' turns so_far.3 its (omega (arith, less, is)))

  pub failed_then : (l' l'' : L) (i' i'' : Option ℕ) (e' e'' : Bool) (left now now' turns : ℕ) → (l' ≡ listener) × (i' ≡ idle) × (e' ≡ ends) × HasWaited left now turns → l'' ≡ l' → i'' ≡ i' → e'' ≡ e' → (now' ≡ now) ⊎ (now' ≡ 0) → FailsToLetIn calls l'
      → (l'' ≡ listener) × (i'' ≡ idle) × (e'' ≡ ends) × HasWaited left now' (turns + 1)
  failed_then l' l'' i' i'' e' e'' left now now' turns so_far same stays goes how fails =
      (same ∙ so_far.0, stays ∙ so_far.1, goes ∙ so_far.2, one_failed left now now' turns so_far.3 (inl (subst (λ (l : L). FailsToLetIn calls l) so_far.0 fails)) how)

-- ---- all that came

module _ {N L S W : Type 0} (calls : NetworkCalls N L S W) {T : Type 0} (listener : T → L) (idle : T → Option ℕ) (stops : T → Bool) (left : T → ℕ) where
  -- what a call of `next` comes to
  abbrev pub Lets : T → Option (S × W) → T → Type 0
  Lets old given new = LetsNext calls (listener old) (idle old) (stops old) (left old) given (listener new) (idle new) (stops new) (left new)

  module _ (Away : Type 0) (Is : Pass → S → W → Type 0) where
    -- the listener and the limit stay
    stay : (streams : List (Given S W)) (first last : T) → Came Away Is Lets streams first last → (listener last ≡ listener first) × (idle last ≡ idle first)
    stay [] first last came = (ap listener came, ap idle came)
    stay (given ∷ more) first last (next, lets, came) = let rest = stay more next last came in (rest.0 ∙ lets.listener_stays, rest.1 ∙ lets.idle_stays)

    goes_on : (streams : List (Given S W)) (first last : T) → Came Away Is Lets streams first last → stops last ≡ stops first
    goes_on [] first last came = ap stops came
    goes_on (given ∷ more) first last (next, lets, came) = goes_on more next last came ∙ lets.ends_stays

    of_first : (P : L → Option ℕ → Type 0) (first now : T) → (listener now ≡ listener first) × (idle now ≡ idle first) → P (listener now) (idle now) → P (listener first) (idle first)
    of_first P first now same is = subst (λ (l : L). P l (idle first)) same.0 (subst (λ (i : Option ℕ). P (listener now) i) same.1 is)

    all_let_in : (streams : List (Given S W)) (first last : T) → Came Away Is Lets streams first last → AllByRecursion (IsLetIn calls (listener first) (idle first)) streams
    all_let_in [] first last came = tt
    all_let_in (given ∷ more) first last (next, lets, came) = (
      (lets.next.1, lets.next.2, lets.next.3),
      of_first (λ l i. AllByRecursion (IsLetIn calls l i) more) first next (lets.listener_stays, lets.idle_stays) (all_let_in more next last came),
    )

    -- those that were closed at once, and how many may still come
    pub record HasClosed (streams : List (Given S W)) (first last : T) : Type 0 where
      pub closed : List S
      pub closes : AllByRecursion (ClosesAtOnce calls (listener first) (idle first)) closed
      pub count : left first ≡ length streams + length closed + left last

    all_closed : (streams : List (Given S W)) (first last : T) → Came Away Is Lets streams first last → HasClosed streams first last
    all_closed [] first last came = record { closed = []; closes = tt; count = let same : left last ≡ left first = ap left came in omega (arith, same) }
    all_closed (given ∷ more) first last (next, lets, came) =
        let rest = all_closed more next last came in
        let count : left next ≡ length more + length rest.closed + left last = rest.count in
        let one : left first ≡ length lets.closed + 1 + left next = lets.next.0 in
        record {
          closed = lets.closed ++ rest.closed;
          closes = all_both (ClosesAtOnce calls (listener first) (idle first)) lets.closed rest.closed lets.closes (of_first (λ l i. AllByRecursion (ClosesAtOnce calls l i) rest.closed) first next (lets.listener_stays, lets.idle_stays) rest.closes);
          count = omega (arith, count, one, length-append lets.closed rest.closed);
        }

  -- as many have come as were asked for, or fewer might
  abbrev Ends : Bool → L → ℕ → ℕ → Type 0
  Ends e l came all = (came ≡ all) ⊎ ((came ≤ all) × MayStop calls e l)

  ends : (e : Bool) (l : L) (all came closed last : ℕ) → all ≡ came + last → (last ≡ closed) ⊎ ((closed ≤ last) × MayStop calls e l) → Ends e l (came + closed) all
  ends e l all came closed last is (inl so) = inl (omega (arith, is, so))
  ends e l all came closed last is (inr halted) = let few : closed ≤ last = halted.0 in inr (omega (arith, is, few), halted.1)

  module _ {D : Type 0} (modelled : Bool) (life : D → Life) (origin : OnDisk D → Type 0) (remaining : S → Option (List ℕ)) (contents : W → Option (List ℕ)) (settings : Settings) (options : ServeOptions) where
    abbrev Away : Type 0
    Away = IsTurnedAway modelled life origin

    abbrev Is : Pass → S → W → Type 0
    Is = IsReceived modelled life origin remaining contents settings

    of_listener : (first : T) → ServesAll Away Is Lets first → left first ≡ most options.count → idle first ≡ options.idle → stops first ≡ options.ends_when_failed → ServesStreams calls modelled life origin remaining contents settings options (listener first)
    of_listener first all its_count its_idle its_stop =
        let so_far = all_closed Away Is all.streams first all.last all.came in
        let same = stay Away Is all.streams first all.last all.came in
        let last = all.no_more in
        let closed : List S = so_far.closed ++ last.closed in
        let stop : stops all.last ≡ options.ends_when_failed = goes_on Away Is all.streams first all.last all.came ∙ its_stop in
        let next : (left all.last ≡ length last.closed) ⊎ ((length last.closed ≤ left all.last) × MayStop calls options.ends_when_failed (listener first)) =
        subst (λ (e : Bool). (left all.last ≡ length last.closed) ⊎ ((length last.closed ≤ left all.last) × MayStop calls e (listener first))) stop
        (subst (λ (l : L). (left all.last ≡ length last.closed) ⊎ ((length last.closed ≤ left all.last) × MayStop calls (stops all.last) l)) same.0 last.next) in
        let came : length all.streams + length closed ≡ (length all.streams + length so_far.closed) + length last.closed = omega (arith, length-append so_far.closed last.closed) in
        record {
          streams = all.streams;
          let_in = subst (λ (i : Option ℕ). AllByRecursion (IsLetIn calls (listener first) i) all.streams) its_idle (all_let_in Away Is all.streams first all.last all.came);
          each = all.each;
          closed = closed;
          closes =
              subst (λ (i : Option ℕ). AllByRecursion (ClosesAtOnce calls (listener first) i) closed) its_idle
              (all_both (ClosesAtOnce calls (listener first) (idle first)) so_far.closed last.closed so_far.closes
              (of_first Away Is (λ l i. AllByRecursion (ClosesAtOnce calls l i) last.closed) first all.last same last.closes));
          count =
              subst (λ (n : ℕ). Ends options.ends_when_failed (listener first) n (most options.count)) (sym came)
              (subst (λ (n : ℕ). Ends options.ends_when_failed (listener first) ((length all.streams + length so_far.closed) + length last.closed) n) its_count
              (ends options.ends_when_failed (listener first) (left first) (length all.streams + length so_far.closed) (length last.closed) (left all.last) so_far.count next));
        }

    pub served_streams : (first : T) (l : L) (count : ℕ) → listener first ≡ l → idle first ≡ options.idle → stops first ≡ options.ends_when_failed → left first ≡ count → count ≡ unwrap_or options.count (2 ^ 64 - 1)
        → ServesAll Away Is Lets first → ServesStreams calls modelled life origin remaining contents settings options l
    served_streams first l count its_listener its_idle its_stop its_count is all =
        subst (λ (z : L). ServesStreams calls modelled life origin remaining contents settings options z) its_listener (of_listener first all (its_count ∙ is) its_idle its_stop)
