-- What one call makes of a core and its disk.
use Rattle.std.proofs.Common.{◌≡◌, ◌⊎◌, inl, inr, ℕ, ◌+◌, ◌≤◌, arith, true, List, [], ◌∷◌, ◌++◌, length, map, take_all, Some, refl, sym, ◌∙◌, ap, subst, append-nil}
use Rattle.std.specs.List.{AllByRecursion}
use Rattle.std.proofs.lemmas.Bool.{false≢true}
use Rattle.drda_disk.specs.Disk.{Life, LeavesOnly, Now, Stays}
use Rattle.drda_disk.specs.declared.region.Region.{Region}
use Rattle.drda_disk.proofs.Moments.{stays_leaves, weaker}
use Rattle.unit_journal.specs.Record.{Entry, laid}
use Rattle.unit_journal.specs.Stands.{IsBeforeOrAfterAll}
use Rattle.unit_records.specs.MadeRecords.{MadeRecords, with_begun, with_done}
use Rattle.unit_records.specs.Records.{IsGood, UnitRecord, entry_of}
use Rattle.unit_records.specs.Room.{taken_by}
use Rattle.recovery.specs.Durable.{Durable, replayed_from}
use Rattle.half_store.specs.declared.header.Layout.{Layout}
use Rattle.recovery.specs.Known.{IsKnown}
use Rattle.recovery.specs.Laws.{held_for}
use Rattle.recovery.specs.Part.{durable_part}
use Rattle.recovery.specs.Opens.{Holds, OpensTo}
use Rattle.recovery.specs.Journaled.{IsDurable, IsUnchanged, Made, OnDisk, OneCallIsMade, OneGroupIsMade, OpensAfterAll, OpensAfterSome, Shown, StaysFailed, all_in, shown_on}
use Rattle.recovery.specs.ImageLaws.{GroupsOpen}
use Rattle.recovery.proofs.Following.{one_step}
use Rattle.recovery.proofs.Going.{made_nothing, unchanged, untouched}

opens_here : (name : List ℕ) (d : Durable) (gs : List (List UnitRecord)) (c : List ℕ) → OpensTo name d c → OpensAfterSome name d gs c
opens_here name d gs c opens = record { count = 0; state = d; leads = refl; opens = opens }

opens_behind : (name : List ℕ) (d e : Durable) (gs : List (List UnitRecord)) (c : List ℕ) → replayed_from d (all_in gs) ≡ Some e → OpensTo name e c → OpensAfterSome name d gs c
opens_behind name d e gs c steps opens = record { count = length gs; state = e; leads = ap (λ (l : List (List UnitRecord)). replayed_from d (all_in l)) (take_all (length gs) gs (omega arith)) ∙ steps; opens = opens }

-- a group was made, and nothing is begun
done_alone : (m : MadeRecords) (groups : List (List Entry)) → with_done m groups ≡ with_begun (with_done m groups) []
done_alone m groups = λ i. record { done = m.done ++ groups; begun = sym (append-nil m.begun) i }

-- or it was begun, and none was made
begun_alone : (m : MadeRecords) (groups : List (List Entry)) → with_begun m groups ≡ with_begun (with_done m []) groups
begun_alone m groups = λ i. record { done = sym (append-nil m.done) i; begun = m.begun ++ groups }

module _ (opened : GroupsOpen) where
  -- an image that holds these records, and no others behind them, opens to what they lead to
  opens_beside : (name : List ℕ) (layout : Layout) (region : Region) (es : List Entry) (d : Durable) (seen c : List ℕ)
      → Holds name layout region es d seen → IsBeforeOrAfterAll region seen es [] c → OpensTo name d c
  opens_beside name layout region es d seen c holds there = either (opened name layout region es d d [] seen c holds tt tt refl (omega (arith, holds.room)) there)
    where
      either : Holds name layout region es d c ⊎ Holds name layout region (es ++ []) d c → OpensTo name d c
      either (inl before) = (layout, region, es, before)
      either (inr after) = (layout, region, es ++ [], after)

  made_ahead : (old new : Shown) (layout : Layout) (region : Region) (es : List Entry) → Holds old.name layout region es (durable_part old.state) old.disk.seen
      → LeavesOnly old.disk new.disk (IsBeforeOrAfterAll region old.disk.seen es []) → durable_part new.state ≡ durable_part old.state → new.made ≡ old.made → Made [] [] old new
  made_ahead old new layout region es holds run same made =
      let opens : (c : List ℕ) → IsBeforeOrAfterAll region old.disk.seen es [] c → OpensTo old.name (durable_part old.state) c = λ c. opens_beside old.name layout region es (durable_part old.state) old.disk.seen c holds in
      record {
        moments = weaker old.disk new.disk _ _ run (λ c there. opens_here old.name (durable_part old.state) [] c (opens c there));
        left = λ c now. inl (record { state = durable_part old.state; leads = refl; opens = opens c (run.now c now) });
        state = ap Some (sym same);
        good = tt;
        made = made ∙ made_nothing old.made;
        settled = λ still. refl;
      }

  module _ (old new : Shown) (layout : Layout) (region : Region) (es : List Entry) (rs : List UnitRecord) (e : Durable)
      (was : Holds old.name layout region es (durable_part old.state) old.disk.seen) (good : AllByRecursion IsGood rs) (known : AllByRecursion (IsKnown layout) rs) (steps : replayed_from (durable_part old.state) rs ≡ Some e)
      (room : length (laid es) + taken_by rs + 1 + held_for layout e.doubts ≤ region.length)
      (run : LeavesOnly old.disk new.disk (IsBeforeOrAfterAll region old.disk.seen es (map entry_of rs))) where
    lead : replayed_from (durable_part old.state) (all_in (rs ∷ [])) ≡ Some e
    lead = ap (replayed_from (durable_part old.state)) (append-nil rs) ∙ steps

    found : (c : List ℕ) → IsBeforeOrAfterAll region old.disk.seen es (map entry_of rs) c → OpensTo old.name (durable_part old.state) c ⊎ OpensTo old.name e c
    found c there = which (opened old.name layout region es (durable_part old.state) e rs old.disk.seen c was good known steps room there)
      where
        which : Holds old.name layout region es (durable_part old.state) c ⊎ Holds old.name layout region (es ++ map entry_of rs) e c → OpensTo old.name (durable_part old.state) c ⊎ OpensTo old.name e c
        which (inl before) = inl (layout, region, es, before)
        which (inr after) = inr (layout, region, es ++ map entry_of rs, after)

    opens_some : (c : List ℕ) → OpensTo old.name (durable_part old.state) c ⊎ OpensTo old.name e c → OpensAfterSome old.name (durable_part old.state) (rs ∷ []) c
    opens_some c (inl before) = opens_here old.name (durable_part old.state) (rs ∷ []) c before
    opens_some c (inr after) = opens_behind old.name (durable_part old.state) e (rs ∷ []) c lead after

    some_at : (c : List ℕ) → IsBeforeOrAfterAll region old.disk.seen es (map entry_of rs) c → OpensAfterSome old.name (durable_part old.state) (rs ∷ []) c
    some_at c there = opens_some c (found c there)

    made_group : new.name ≡ old.name → durable_part new.state ≡ e → IsDurable new → new.made ≡ with_done old.made (map entry_of rs ∷ []) → Made (rs ∷ []) [] old new
    made_group name state durable made =
        let to_new : replayed_from (durable_part old.state) (all_in (rs ∷ [])) ≡ Some (durable_part new.state) = lead ∙ ap Some (sym state) in
        record {
          moments = weaker old.disk new.disk _ _ run some_at;
          left = λ c now. inl (record { state = durable_part new.state; leads = to_new; opens = subst (λ (n : List ℕ). OpensTo n (durable_part new.state) c) name (durable.opens c now) });
          state = to_new;
          good = (good, tt);
          made = made ∙ done_alone old.made (map entry_of rs ∷ []);
          settled = λ still. refl;
        }

    begun_left : (c : List ℕ) → OpensTo old.name (durable_part old.state) c ⊎ OpensTo old.name e c → OpensAfterAll old.name (durable_part old.state) [] (rs ∷ []) c
    begun_left c (inl before) = inl (record { state = durable_part old.state; leads = refl; opens = before })
    begun_left c (inr after) = inr (record { state = e; leads = lead; opens = after })

    begun_group : durable_part new.state ≡ durable_part old.state → new.is_failed ≡ true → new.made ≡ with_begun old.made (map entry_of rs ∷ []) → Made [] (rs ∷ []) old new
    begun_group same failed made = record {
      moments = weaker old.disk new.disk _ _ run some_at;
      left = λ c now. begun_left c (found c (run.now c now));
      state = ap Some (sym same);
      good = (good, tt);
      made = made ∙ begun_alone old.made (map entry_of rs ∷ []);
      settled = λ still. absurd (false≢true (sym still ∙ failed));
    }

  pub one_group_is_made : {D : Type 0} (life : D → Life) → OneGroupIsMade life
  one_group_is_made life = record {
    made = λ old new layout region es rs was good known steps room run name durable made.
        made_group (shown_on life old) (shown_on life new) layout region es rs (durable_part new.state) was good known steps room run name refl durable made;
    begun = λ old new layout region es rs e was good known steps room run same failed made.
        begun_group (shown_on life old) (shown_on life new) layout region es rs e was good known steps room run same failed made;
  }

made_silent : (old new : Shown) → IsDurable old → Stays old.disk new.disk → durable_part new.state ≡ durable_part old.state → new.made ≡ old.made → Made [] [] old new
made_silent old new durable stays same made = record {
  moments = stays_leaves old.disk new.disk _ stays (λ c now. opens_here old.name (durable_part old.state) [] c (durable.opens c now));
  left = λ c now. inl (record { state = durable_part old.state; leads = refl; opens = durable.opens c (stays.no_more c now) });
  state = ap Some (sym same);
  good = tt;
  made = made ∙ made_nothing old.made;
  settled = λ still. refl;
}

pub one_call_is_made : {D : Type 0} (life : D → Life) → GroupsOpen → OneGroupIsMade life → OneCallIsMade life
one_call_is_made {D} life opened group = record {
  durable = λ s layout region es holds left settled. record { opens = λ c now. opens_beside opened s.name layout region es (durable_part s.state) (life s.disk).seen c holds (left c now); settled = settled };
  recorded = λ old new layout region es r was good known step room run name durable made.
      group.made old new layout region es (r ∷ []) was (good, tt) (known, tt) (one_step (durable_part old.state) (durable_part new.state) r step) (omega (arith, room)) run name durable made;
  begun = λ old new layout region es r e was good known step room run same failed made.
      group.begun old new layout region es (r ∷ []) e was (good, tt) (known, tt) (one_step (durable_part old.state) e r step) (omega (arith, room)) run same failed made;
  silent = λ old new. made_silent (shown_on life old) (shown_on life new);
  laid_ahead = λ old new. made_ahead opened (shown_on life old) (shown_on life new);
  failed = λ old new failed same. subst (λ (n : OnDisk D). StaysFailed (shown_on life old) (shown_on life n)) (sym same) (record { failed = failed; name = refl; state = refl; disk = untouched (life old.disk); layout = refl; made = refl });
  unchanged = λ old new same. subst (λ (n : OnDisk D). IsUnchanged (shown_on life old) (shown_on life n)) (sym same) (unchanged (shown_on life old));
  read_only = λ old new stays. stays_leaves (life old) (life new) _ stays (λ c now. now);
}
