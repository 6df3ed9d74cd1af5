-- Streams whose threads are still to be joined.
use Rattle.std.proofs.Common.{◌≡◌, ◌⊎◌, ◌∙◌, ◌<◌, ◌≤◌, ◌+◌, le_refl, ⊎_elim, refl, sym, subst, ap, arith, inl, inr, ℕ, zero, suc, List, [], ◌∷◌, ◌++◌, length, Option, Some, None, IfSome, slice_get, slice_set, slice_index_or}
use Rattle.std.specs.List.{AllByRecursion}
use Rattle.std.proofs.lemmas.Option.{slice_get-get_or, slice_get_within}
use Rattle.core_history.proofs.Counting.{get_other, get_set, same_or_apart, set_length}
use Rattle.drda_server.specs.Threads.{Became, Came, Given, ServesAll}
use Rattle.core_history.specs.declared.pass.Pass.{Pass}

-- of what lies at a place, where that is known
pub there : {T : Type 0} (P : T → Type 0) (xs : List (Option T)) (i : ℕ) (d o found : Option T) → i < length xs → d ≡ slice_index_or xs i d → o ≡ d → o ≡ found → IfSome found P → IfSome (slice_get xs i) (λ at. IfSome at P)
there P xs i d o found below is same told holds =
    subst (λ (a : Option (Option _)). IfSome a (λ at. IfSome at P)) (sym (slice_get-get_or xs i d below)) (subst (λ (a : Option _). IfSome a P) (sym told ∙ (same ∙ is)) holds)

set_there : {Y : Type 0} (ys : List Y) (i : ℕ) (z : Y) → i < length ys → slice_get (slice_set ys i z) i ≡ Some z
set_there ys i z below = get_set ys i _ z (slice_get-get_or ys i z below)

all_of : {X : Type 0} (P Q : X → Type 0) → ((x : X) → P x → Q x) → (xs : List X) → AllByRecursion P xs → AllByRecursion Q xs
all_of P Q give [] each = tt
all_of P Q give (x ∷ xs) each = (give x each.0, all_of P Q give xs each.1)

all_more : {X : Type 0} (P : X → Type 0) (xs : List X) (x : X) → AllByRecursion P xs → P x → AllByRecursion P (xs ++ x ∷ [])
all_more P [] x each is = (is, tt)
all_more P (y ∷ ys) x each is = (each.0, all_more P ys x each.1 is)

module _ {T I O : Type 0} (Away : Type 0) (Is : Pass → I → O → Type 0) (Kept : T → Type 0) where
  -- it was attended, or its thread is still to be joined
  abbrev pub SettledAt : List (Option T) → Option Pass → I → O → Type 0
  SettledAt threads None reader writer = Away
  SettledAt threads (Some pass) reader writer = Is pass reader writer ⊎ ((thread : T) × (slice_get threads pass.place ≡ Some (Some thread)) × (Kept thread → Is pass reader writer))

  abbrev pub Settled : List (Option T) → Given I O → Type 0
  Settled threads g = SettledAt threads g.pass g.reader g.writer

  abbrev pub HasKept : List (Option T) → ℕ → Type 0
  HasKept threads place = IfSome (slice_get threads place) (λ at. IfSome at Kept)

  -- a thread was joined
  joined_at : (threads : List (Option T)) (place : ℕ) (pass : Option Pass) (reader : I) (writer : O) → HasKept threads place → SettledAt threads pass reader writer → SettledAt (slice_set threads place None) pass reader writer
  joined_at threads place None reader writer kept is = is
  joined_at threads place (Some p) reader writer kept (inl is) = inl is
  joined_at threads place (Some p) reader writer kept (inr (thread, at, gives)) =
      ⊎_elim
      (λ (same : place ≡ p.place).
      let here : slice_get threads place ≡ Some (Some thread) = subst (λ (n : ℕ). slice_get threads n ≡ Some (Some thread)) (sym same) at in
      inl (gives (subst (λ (a : Option (Option T)). IfSome a (λ o. IfSome o Kept)) here kept)))
      (λ apart. inr (thread, get_other threads place p.place None apart ∙ at, gives))
      (same_or_apart place p.place)

  joined : (threads : List (Option T)) (place : ℕ) → HasKept threads place → (g : Given I O) → Settled threads g → Settled (slice_set threads place None) g
  joined threads place kept g is = joined_at threads place g.pass g.reader g.writer kept is

  -- another thread has an empty place
  begun_at : (threads : List (Option T)) (place : ℕ) (one : T) (pass : Option Pass) (reader : I) (writer : O) → slice_get threads place ≡ Some None → SettledAt threads pass reader writer → SettledAt (slice_set threads place (Some one)) pass reader writer
  begun_at threads place one None reader writer empty is = is
  begun_at threads place one (Some p) reader writer empty (inl is) = inl is
  begun_at threads place one (Some p) reader writer empty (inr (thread, at, gives)) =
      ⊎_elim
      (λ (same : place ≡ p.place).
      let here : slice_get threads place ≡ Some (Some thread) = subst (λ (n : ℕ). slice_get threads n ≡ Some (Some thread)) (sym same) at in
      let clash : Some None ≡ Some (Some thread) = sym empty ∙ here in
      absurd (cc clash))
      (λ apart. inr (thread, get_other threads place p.place (Some one) apart ∙ at, gives))
      (same_or_apart place p.place)

  begun : (threads : List (Option T)) (place : ℕ) (one : T) → slice_get threads place ≡ Some None → (g : Given I O) → Settled threads g → Settled (slice_set threads place (Some one)) g
  begun threads place one empty g is = begun_at threads place one g.pass g.reader g.writer empty is

  module _ {S : Type 0} (gives : S → Option (I × O) → S → Type 0) where
    more_came : (gs : List (Given I O)) (g : Given I O) (first last next : S) → Came Away Is gives gs first last → gives last (Some (g.reader, g.writer)) next → Came Away Is gives (gs ++ g ∷ []) first next
    more_came [] g first last next came given = (next, subst (λ (s : S). gives s (Some (g.reader, g.writer)) next) came given, refl)
    more_came (h ∷ hs) g first last next came given = (came.0, came.1, more_came hs g came.0 last next came.2 given)

    -- streams have come so far, and each is settled or its thread is at its place
    pub record Stands (threads : List (Option T)) (first now : S) : Type 0 where
      pub streams : List (Given I O)
      pub came : Came Away Is gives streams first now
      pub each : AllByRecursion (Settled threads) streams
      pub places : length threads ≡ 64

    pub begins : (threads : List (Option T)) (first : S) → length threads ≡ 64 → Stands threads first first
    begins threads first places = record { streams = []; came = refl; each = tt; places = places }

    one_more : (threads threads' : List (Option T)) (first last next : S) (g : Given I O) → length threads' ≡ 64 → ((h : Given I O) → Settled threads h → Settled threads' h) → Stands threads first last → gives last (Some (g.reader, g.writer)) next
        → Settled threads' g → Stands threads' first next
    one_more threads threads' first last next g places settles stands given is = record {
      streams = stands.streams ++ g ∷ [];
      came = more_came stands.streams g first last next stands.came given;
      each = all_more (Settled threads') stands.streams g (all_of (Settled threads) (Settled threads') settles stands.streams stands.each) is;
      places = places;
    }

    pub turned_away : (threads : List (Option T)) (first last next : S) (reader : I) (writer : O) → Stands threads first last → gives last (Some (reader, writer)) next → Away → Stands threads first next
    turned_away threads first last next reader writer stands given away =
        one_more threads threads first last next (record { reader = reader; writer = writer; pass = None }) stands.places (λ h is. is) stands given away

    module _ (threads : List (Option T)) (first last next : S) (pass : Pass) (reader : I) (writer : O) (stands : Stands threads first last) (given : gives last (Some (reader, writer)) next) (below : pass.place < 64)
        (place : ℕ) (its : place ≡ pass.place) (kept : HasKept threads place) (threads' : List (Option T)) where
      its_kept : HasKept threads pass.place
      its_kept = subst (HasKept threads) its kept

      -- it is served here
      pub served_here : threads' ≡ slice_set threads place None → Is pass reader writer → Stands threads' first next
      served_here is attended =
          subst (λ (ts : List (Option T)). Stands ts first next) (sym (is ∙ ap (λ (n : ℕ). slice_set threads n None) its))
          (one_more threads (slice_set threads pass.place None) first last next (record { reader = reader; writer = writer; pass = Some pass }) (set_length threads pass.place None ∙ stands.places) (joined threads pass.place its_kept) stands given (inl attended))

      -- it is served in a thread of its own
      pub served_there : (one : T) → threads' ≡ slice_set (slice_set threads place None) place (Some one) → (Kept one → Is pass reader writer) → Stands threads' first next
      served_there one is keeps =
          let within : pass.place < length threads = subst (λ (n : ℕ). pass.place < n) (sym stands.places) below in
          let emptied : List (Option T) = slice_set threads pass.place None in
          let empty : slice_get emptied pass.place ≡ Some None = set_there threads pass.place None within in
          subst (λ (ts : List (Option T)). Stands ts first next) (sym (is ∙ ap (λ (n : ℕ). slice_set (slice_set threads n None) n (Some one)) its))
          (one_more threads (slice_set emptied pass.place (Some one)) first last next (record { reader = reader; writer = writer; pass = Some pass }) (set_length emptied pass.place (Some one) ∙ (set_length threads pass.place None ∙ stands.places))
          (λ h settled. begun emptied pass.place one empty h (joined threads pass.place its_kept h settled)) stands given (inr (one, get_set emptied pass.place None (Some one) empty, keeps)))

    -- ---- at the end

    ended_at : (threads : List (Option T)) → ((p : ℕ) → p < 64 → HasKept threads p) → length threads ≡ 64 → (pass : Option Pass) (reader : I) (writer : O) → SettledAt threads pass reader writer → Became Away Is (record { reader = reader; writer = writer; pass = pass })
    ended_at threads kept places None reader writer is = is
    ended_at threads kept places (Some p) reader writer (inl is) = is
    ended_at threads kept places (Some p) reader writer (inr (thread, at, gives)) =
        let below : p.place < 64 = subst (λ (n : ℕ). p.place < n) places (slice_get_within threads p.place (Some thread) at) in
        gives (subst (λ (a : Option (Option T)). IfSome a (λ o. IfSome o Kept)) at (kept p.place below))

    pub all_served : (threads : List (Option T)) (first last ended : S) → Stands threads first last → gives last None ended → ((p : ℕ) → p < 64 → HasKept threads p) → ServesAll Away Is gives first
    all_served threads first last ended stands none kept = record {
      streams = stands.streams;
      last = last;
      ended = ended;
      came = stands.came;
      no_more = none;
      each = all_of (Settled threads) (Became Away Is) (λ g is. ended_at threads kept stands.places g.pass g.reader g.writer is) stands.streams stands.each;
    }

-- ---- threads that are joined, one place after another

module _ {T : Type 0} (Kept : T → Type 0) where
  pub record Joins (before threads : List (Option T)) (place : ℕ) : Type 0 where
    pub kept : (p : ℕ) → p < place → IfSome (slice_get before p) (λ at. IfSome at Kept)
    pub rest : (p : ℕ) → place ≤ p → slice_get threads p ≡ slice_get before p
    pub places : length threads ≡ 64

  pub none_joined : (threads : List (Option T)) → length threads ≡ 64 → Joins threads threads 0
  none_joined threads places = record { kept = λ p below. absurd (omega (arith, below)); rest = λ p above. refl; places = places }

  pub one_joined : (before threads threads' : List (Option T)) (place : ℕ) → Joins before threads place → IfSome (slice_get threads place) (λ at. IfSome at Kept) → threads' ≡ slice_set threads place None → Joins before threads' (place + 1)
  one_joined before threads threads' place so_far kept is =
      subst (λ (ts : List (Option T)). Joins before ts (place + 1)) (sym is)
      (record {
        kept = λ p below.
            ⊎_elim
            (λ (same : place ≡ p). subst (λ (n : ℕ). IfSome (slice_get before n) (λ at. IfSome at Kept)) same (subst (λ (a : Option (Option T)). IfSome a (λ at. IfSome at Kept)) (so_far.rest place (le_refl place)) kept))
            (λ apart. so_far.kept p (omega (arith, below, apart)))
            (same_or_apart place p);
        rest = λ p above. get_other threads place p None (λ same. absurd (omega (arith, above, same))) ∙ so_far.rest p (omega (arith, above));
        places = set_length threads place None ∙ so_far.places;
      })

-- what a promise says of these, it says of those that it was made of
pub kept_so : {T I O : Type 0} (P : T → Pass → I → O → Type 0) (s s' : T) (p p' : Pass) (i i' : I) (o o' : O) → s ≡ s' → p ≡ p' → i ≡ i' → o ≡ o' → P s p i o → P s' p' i' o'
kept_so P s s' p p' i i' o o' a b c d is =
    subst (λ x. P s' p' i' x) d (subst (λ x. P s' p' x o) c (subst (λ x. P s' x i o) b (subst (λ x. P x p i o) a is)))
