-- Calls one after another.
use Rattle.std.proofs.Common.{◌≡◌, ℕ, ◌+◌, min, Bool, true, false, IsTrue, List, [], ◌∷◌, ◌++◌, length, take, drop, Some, inl, inr, refl, sym, ◌∙◌, ap, subst, arith, take-add, map, append_assoc, append-nil}
use Rattle.std.specs.List.{AllByRecursion}
use Rattle.std.specs.Option.{option_and_then}
use Rattle.std.proofs.lemmas.Bool.{false≢true}
use Rattle.std.proofs.lemmas.List.{take_at, drop_at, take-append-le, take_min, map-append}
use Rattle.drda_disk.specs.Disk.{Life, Now}
use Rattle.drda_disk.proofs.Moments.{and_stays, and_then, no_call, Stays-refl, Stays-trans}
use Rattle.unit_journal.specs.Record.{Entry}
use Rattle.unit_records.specs.MadeRecords.{MadeRecords, groups_of, with_begun, with_done}
use Rattle.unit_records.specs.Records.{IsGood, UnitRecord, entry_of}
use Rattle.recovery.specs.Durable.{Durable, replayed_from}
use Rattle.recovery.specs.Laws.{GoesOn}
use Rattle.recovery.specs.Part.{durable_part}
use Rattle.recovery.specs.Opens.{OpensTo}
use Rattle.recovery.specs.Journaled.{CallsGoOn, IsDurable, FaultsAfter, IsUnchanged, IsUntouched, Journaled, Made, OpensAfter, OpensAfterAll, OpensAfterSome, Shown, StaysFailed, all_in, shown_on}

-- ---- fronts of two lists

-- at most all of the first
front_first : (gs hs : List (List UnitRecord)) (n : ℕ) → take (min n (length gs)) (gs ++ hs) ≡ take n gs
front_first gs hs n = take-append-le (min n (length gs)) gs hs (omega arith) ∙ take_min n gs

-- or all of it and more
front_both : (gs hs : List (List UnitRecord)) (n : ℕ) → take (length gs + n) (gs ++ hs) ≡ gs ++ take n hs
front_both gs hs n =
    take-add (length gs) n (gs ++ hs) ∙ ap (λ (l : List (List UnitRecord)). l ++ take n (drop (length gs) (gs ++ hs))) (take_at gs hs (length gs) refl)
    ∙ ap (λ (l : List (List UnitRecord)). gs ++ take n l) (drop_at gs hs (length gs) refl)

good_both : (gs hs : List (List UnitRecord)) → AllByRecursion (AllByRecursion IsGood) gs → AllByRecursion (AllByRecursion IsGood) hs → AllByRecursion (AllByRecursion IsGood) (gs ++ hs)
good_both [] hs first second = second
good_both (g ∷ gs) hs (good, first) second = (good, good_both gs hs first second)

pub all_both : (gs hs : List (List UnitRecord)) → all_in (gs ++ hs) ≡ all_in gs ++ all_in hs
all_both [] hs = refl
all_both (g ∷ gs) hs = ap (λ (l : List UnitRecord). g ++ l) (all_both gs hs) ∙ sym (append_assoc g (all_in gs) (all_in hs))

-- nothing that was begun is in between
made_then : (m : MadeRecords) (gs none hs begun : List (List UnitRecord)) → none ≡ []
    → with_begun (with_done (with_begun (with_done m (groups_of gs)) (groups_of none)) (groups_of hs)) (groups_of begun) ≡ with_begun (with_done m (groups_of (gs ++ hs))) (groups_of begun)
made_then m gs none hs begun is = λ i. record {
  done = (append_assoc m.done (groups_of gs) (groups_of hs) ∙ ap (λ (l : List (List Entry)). m.done ++ l) (sym (map-append (map entry_of) gs hs))) i;
  begun = (ap (λ (l : List (List UnitRecord)). (m.begun ++ groups_of l) ++ groups_of begun) is ∙ ap (λ (l : List (List Entry)). l ++ groups_of begun) (append-nil m.begun)) i;
}

module _ (goes_on : GoesOn) where
  pub led_on : (d e : Durable) (rs ss : List UnitRecord) → replayed_from d rs ≡ Some e → replayed_from d (rs ++ ss) ≡ replayed_from e ss
  led_on d e rs ss led = goes_on d rs ss ∙ ap (option_and_then (λ (f : Durable). replayed_from f ss)) led

  pub led_all : (d e : Durable) (gs hs : List (List UnitRecord)) → replayed_from d (all_in gs) ≡ Some e → replayed_from d (all_in (gs ++ hs)) ≡ replayed_from e (all_in hs)
  led_all d e gs hs led = ap (replayed_from d) (all_both gs hs) ∙ led_on d e (all_in gs) (all_in hs) led

  opens_first : (name : List ℕ) (d : Durable) (gs hs : List (List UnitRecord)) (c : List ℕ) → OpensAfterSome name d gs c → OpensAfterSome name d (gs ++ hs) c
  opens_first name d gs hs c o = record {
    count = min o.count (length gs);
    state = o.state;
    leads = ap (λ (l : List (List UnitRecord)). replayed_from d (all_in l)) (front_first gs hs o.count) ∙ o.leads;
    opens = o.opens;
  }

  opens_both : (name other : List ℕ) (d e : Durable) (gs hs : List (List UnitRecord)) (c : List ℕ) → other ≡ name → replayed_from d (all_in gs) ≡ Some e → OpensAfterSome other e hs c → OpensAfterSome name d (gs ++ hs) c
  opens_both name other d e gs hs c same led o = record {
    count = length gs + o.count;
    state = o.state;
    leads = ap (λ (l : List (List UnitRecord)). replayed_from d (all_in l)) (front_both gs hs o.count) ∙ led_all d e gs (take o.count hs) led ∙ o.leads;
    opens = subst (λ (n : List ℕ). OpensTo n o.state c) same o.opens;
  }

  after_both : (name other : List ℕ) (d e : Durable) (gs hs : List (List UnitRecord)) (c : List ℕ) → other ≡ name → replayed_from d (all_in gs) ≡ Some e → OpensAfter other e hs c → OpensAfter name d (gs ++ hs) c
  after_both name other d e gs hs c same led o = record {
    state = o.state;
    leads = led_all d e gs hs led ∙ o.leads;
    opens = subst (λ (n : List ℕ). OpensTo n o.state c) same o.opens;
  }

  left_both : (name other : List ℕ) (d e : Durable) (gs hs begun : List (List UnitRecord)) (c : List ℕ) → other ≡ name → replayed_from d (all_in gs) ≡ Some e → OpensAfterAll other e hs begun c → OpensAfterAll name d (gs ++ hs) begun c
  left_both name other d e gs hs begun c same led (inl o) = inl (after_both name other d e gs hs c same led o)
  left_both name other d e gs hs begun c same led (inr o) =
      inr (subst (λ (l : List (List UnitRecord)). OpensAfter name d l c) (sym (append_assoc gs hs begun)) (after_both name other d e gs (hs ++ begun) c same led o))

  -- ---- two runs of calls

  -- the first of them did not fail
  faults_both : (modelled : Bool) (a b c : ℕ) (failed : Bool) → FaultsAfter modelled false a b → FaultsAfter modelled failed b c → FaultsAfter modelled failed a c
  faults_both modelled a b c failed (inl first) (inl second) = inl (omega (arith, first, second))
  faults_both modelled a b c failed (inl first) (inr damage) = inr (record { untold = damage.untold; failed = damage.failed; faults = omega (arith, first, damage.faults) })
  faults_both modelled a b c failed (inr damage) second = absurd (false≢true damage.failed)

  module _ (a b c : Shown) (gs none hs begun : List (List UnitRecord)) (nothing : none ≡ []) (name : b.name ≡ a.name) (first : Made gs none a b) (second : Made hs begun b c) where
    abbrev d : Durable
    d = durable_part a.state

    front : gs ++ none ≡ gs
    front = ap (λ (l : List (List UnitRecord)). gs ++ l) nothing ∙ append-nil gs

    whole : gs ++ (hs ++ begun) ≡ (gs ++ hs) ++ begun
    whole = sym (append_assoc gs hs begun)

    before : (i : List ℕ) → OpensAfterSome a.name d (gs ++ none) i → OpensAfterSome a.name d ((gs ++ hs) ++ begun) i
    before i o =
        subst (λ (l : List (List UnitRecord)). OpensAfterSome a.name d l i) whole
        (opens_first a.name d gs (hs ++ begun) i (subst (λ (l : List (List UnitRecord)). OpensAfterSome a.name d l i) front o))

    after : (i : List ℕ) → OpensAfterSome b.name (durable_part b.state) (hs ++ begun) i → OpensAfterSome a.name d ((gs ++ hs) ++ begun) i
    after i o = subst (λ (l : List (List UnitRecord)). OpensAfterSome a.name d l i) whole (opens_both a.name b.name d (durable_part b.state) gs (hs ++ begun) i name first.state o)

    made_both : Made (gs ++ hs) begun a c
    made_both = record {
      moments = and_then a.disk b.disk c.disk _ _ _ first.moments second.moments before after;
      left = λ i now. left_both a.name b.name d (durable_part b.state) gs hs begun i name first.state (second.left i now);
      state = led_all d (durable_part b.state) gs hs first.state ∙ second.state;
      good = subst (λ (l : List (List UnitRecord)). AllByRecursion (AllByRecursion IsGood) l) whole
          (good_both gs (hs ++ begun) (subst (λ (l : List (List UnitRecord)). AllByRecursion (AllByRecursion IsGood) l) front first.good) second.good);
      made = second.made ∙ ap (λ (m : MadeRecords). with_begun (with_done m (groups_of hs)) (groups_of begun)) first.made ∙ made_then a.made gs none hs begun nothing;
      settled = second.settled;
    }

-- ---- no device call

pub untouched : (a : Life) → IsUntouched a a
untouched a = record { stays = Stays-refl a; moment = refl; faults = refl }

pub unchanged : (s : Shown) → IsUnchanged s s
unchanged s = record { name = refl; state = refl; disk = untouched s.disk; layout = refl; room = refl; is_failed = refl; made = refl }

untouched_both : (a b c : Life) → IsUntouched a b → IsUntouched b c → IsUntouched a c
untouched_both a b c first second = record { stays = Stays-trans a b c first.stays second.stays; moment = second.moment ∙ first.moment; faults = second.faults ∙ first.faults }

made_failed : (a b c : Shown) (gs begun : List (List UnitRecord)) → Made gs begun a b → StaysFailed b c → Made gs begun a c
made_failed a b c gs begun first stays = record {
  moments = and_stays a.disk b.disk c.disk (OpensAfterSome a.name (durable_part a.state) (gs ++ begun)) first.moments stays.disk.stays;
  left = λ i now. first.left i (stays.disk.stays.no_more i now);
  state = first.state ∙ ap (λ s. Some (durable_part s)) (sym stays.state);
  good = first.good;
  made = stays.made ∙ first.made;
  settled = λ still. absurd (false≢true (sym still ∙ stays.failed));
}

failed_both : (a b c : Shown) → StaysFailed a b → StaysFailed b c → StaysFailed a c
failed_both a b c first second = record { failed = second.failed; name = second.name ∙ first.name; state = second.state ∙ first.state; disk = untouched_both a.disk b.disk c.disk first.disk second.disk; layout = second.layout ∙ first.layout; made = second.made ∙ first.made }

-- nothing was made or begun
pub made_nothing : (m : MadeRecords) → m ≡ with_begun (with_done m []) []
made_nothing m = λ i. record { done = sym (append-nil m.done) i; begun = sym (append-nil m.begun) i }

made_none : (s : Shown) → IsDurable s → Made [] [] s s
made_none s durable = record {
  moments = no_call s.disk _ (λ c now. record { count = 0; state = durable_part s.state; leads = refl; opens = durable.opens c now });
  left = λ c now. inl (record { state = durable_part s.state; leads = refl; opens = durable.opens c now });
  state = refl;
  good = tt;
  made = made_nothing s.made;
  settled = λ still. refl;
}

-- ---- calls

pub goes_none : (modelled : Bool) (s : Shown) → (IsTrue modelled → s.is_failed ≡ false → IsDurable s) → Journaled modelled s s
goes_none modelled s durable = record {
  name = refl;
  more = [];
  done = sym (append-nil s.made.done);
  faults = λ going. subst (λ (f : Bool). FaultsAfter modelled f s.disk.faults s.disk.faults) (sym going) (inl (omega arith));
  failed = λ failed. record { failed = failed; name = refl; state = refl; disk = untouched s.disk; layout = refl; made = refl };
  records = λ honest going. ([], [], made_none s (durable honest going));
}

module _ (goes_on : GoesOn) where
  module _ (modelled : Bool) (a b c : Shown) (first : Journaled modelled a b) (second : Journaled modelled b c) where
    records_both : (failed : Bool) → b.is_failed ≡ failed → IsTrue modelled → ((gs begun : List (List UnitRecord)) × Made gs begun a b) → (gs begun : List (List UnitRecord)) × Made gs begun a c
    records_both true is honest (gs, begun, made) = (gs, begun, made_failed a b c gs begun made (second.failed is))
    records_both false is honest (gs, begun, made) =
        let more = second.records honest is in (gs ++ more.0, more.1, made_both goes_on a b c gs begun more.0 more.1 (made.settled is) first.name made more.2)

    faults_of_both : (failed : Bool) → b.is_failed ≡ failed → a.is_failed ≡ false → FaultsAfter modelled c.is_failed a.disk.faults c.disk.faults
    faults_of_both true is going =
        let stays = second.failed is in
        subst (λ (n : ℕ). FaultsAfter modelled c.is_failed a.disk.faults n) (sym stays.disk.faults)
        (subst (λ (f : Bool). FaultsAfter modelled f a.disk.faults b.disk.faults) (is ∙ sym stays.failed) (first.faults going))
    faults_of_both false is going =
        faults_both goes_on modelled a.disk.faults b.disk.faults c.disk.faults c.is_failed (subst (λ (f : Bool). FaultsAfter modelled f a.disk.faults b.disk.faults) is (first.faults going)) (second.faults is)

    pub goes_both : Journaled modelled a c
    goes_both = record {
      name = second.name ∙ first.name;
      more = first.more ++ second.more;
      done = second.done ∙ ap (λ (l : List (List Entry)). l ++ second.more) first.done ∙ append_assoc a.made.done first.more second.more;
      faults = faults_of_both b.is_failed refl;
      failed = λ failed. let stays = first.failed failed in failed_both a b c stays (second.failed stays.failed);
      records = λ honest going. records_both b.is_failed refl honest (first.records honest going);
    }

  pub calls_go_on : {D : Type 0} (life : D → Life) → CallsGoOn life
  calls_go_on life = record {
    none = λ modelled s. goes_none modelled (shown_on life s);
    both = λ modelled a b c. goes_both modelled (shown_on life a) (shown_on life b) (shown_on life c);
  }
