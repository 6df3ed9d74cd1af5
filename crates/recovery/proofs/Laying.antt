-- The records of branches in doubt lead from a checkpoint to a state with just these.
use Rattle.std.proofs.Common.{◌≡◌, ℕ, ◌+◌, ◌<◌, ◌≤◌, List, [], ◌∷◌, ◌++◌, length, Bool, true, false, ◌&&◌, cond, if◌then◌else◌, refl, sym, ap, subst, ◌∙◌, arith, Option, Some, None, Ordering, Less, Greater, append-nil}
use Rattle.std.specs.Prelude.{bytes_eq, is_some, not, nat_lt}
use Rattle.std.specs.List.{AllByRecursion, list_all}
use Rattle.std.specs.Option.{option_and_then}
use Rattle.std.specs.Ordering.{is_lt, match_ordering, nat_cmp, ordering_reverse}
use Rattle.std.specs.Cmp.Lexicographic.{nat_list_cmp_total, slice_cmp}
use Rattle.std.specs.Map.{keys_of, lookup}
use Rattle.std.proofs.lemmas.Bool.Decides.{nat_tests}
use Rattle.std.proofs.lemmas.List.{append_assoc, length-append}
use Rattle.drda_words.specs.Order.{rises}
use Rattle.row_values.proofs.ValueLaws.{both_true, first_true, second_true}
use Rattle.tables.proofs.Finding.{same_bytes}
use Rattle.tables.proofs.Keeping.{less_is}
use Rattle.tables.specs.Tables.{Store}
use Rattle.core_model.specs.Units.{Work}
use Rattle.unit_locks.specs.Claims.{all_added}
use Rattle.xa_manager.specs.declared.due.Decision.{Decision}
use Rattle.unit_records.specs.Records.{IsGood}
use Rattle.recovery.specs.Durable.{Doubt, Doubts, Durable, at_checkpoint, completed, decided_so, doubt_of, have_places, is_claimed, is_free, next, replayed_from, waiting, with_doubt}
use Rattle.recovery.specs.Journal.{AreGood, WrittenLead}
use Rattle.recovery.specs.Laying.{DoubtsAreLaid, are_placed, is_placed, laid_in, records_of}
use Rattle.recovery.specs.Sound.{IsGoodBranch, IsGoodDoubt, IsSound}

abbrev by_xid : List ℕ → List ℕ → Ordering
by_xid = slice_cmp nat_cmp

-- each of them comes before this XID
abbrev AreBefore : List ℕ → Doubts → Type 0
AreBefore xid front = AllByRecursion (λ (e : List ℕ × Doubt). by_xid e.0 xid ≡ Less) front

-- ---- one more at the end

at_end : (front : Doubts) (xid : List ℕ) (doubt : Doubt) → AreBefore xid front → with_doubt front xid doubt ≡ front ++ (xid, doubt) ∷ []
at_end [] xid doubt before = refl
at_end (e ∷ es) xid doubt before =
    let after : by_xid xid e.0 ≡ Greater = nat_list_cmp_total.antisymm xid e.0 ∙ ap ordering_reverse before.0 in
    ap (λ (o : Ordering). match_ordering o ((xid, doubt) ∷ e ∷ es) ((e.0, doubt) ∷ es) (e ∷ with_doubt es xid doubt)) after ∙ ap (λ (l : Doubts). e ∷ l) (at_end es xid doubt before.1)

never_less : (o : Ordering) → o ≡ ordering_reverse o → o ≡ Less → ⊥
never_less o same less = let clash : Less ≡ Greater = sym less ∙ same ∙ ap ordering_reverse less in absurd cc

other : (a b : List ℕ) → by_xid b a ≡ Less → bytes_eq a b ≡ false
other a b less = by_test (bytes_eq a b) refl
  where
    by_test : (t : Bool) → bytes_eq a b ≡ t → bytes_eq a b ≡ false
    by_test false is = is
    by_test true is = absurd (never_less (by_xid b b) (nat_list_cmp_total.antisymm b b) (subst (λ (l : List ℕ). by_xid b l ≡ Less) (same_bytes a b is) less))

unknown : (front : Doubts) (xid : List ℕ) → AreBefore xid front → is_some (doubt_of front xid) ≡ false
unknown [] xid before = refl
unknown (e ∷ es) xid before = ap (λ (b : Bool). is_some (cond b (Some e.1) (lookup (bytes_eq xid) es))) (other xid e.0 before.0) ∙ unknown es xid before.1

none_found : (found : Option Doubt) → is_some found ≡ false → found ≡ None
none_found None h = refl
none_found (Some d) h = absurd cc

one_laid : (store : Store) (front : Doubts) (xid : List ℕ) (work : Work) (outcome : Option Decision) → IsGoodBranch xid work outcome → is_placed store work outcome ≡ true → AreBefore xid front → length front < 256
    → next (record { store = store; doubts = front }) (laid_in xid work outcome) ≡ Some (record { store = store; doubts = front ++ (xid, record { work = work; outcome = outcome }) ∷ [] })
one_laid store front xid work None good places before few =
    let free : is_free front xid ≡ true = both_true (not (is_some (doubt_of front xid))) (nat_lt (length front) 256) (ap not (unknown front xid before)) (grind (arith, nat_tests)) in
    let fits : (have_places work.changes store && (is_claimed work.changes work.claims && is_free front xid)) ≡ true =
    both_true (have_places work.changes store) (is_claimed work.changes work.claims && is_free front xid) places (both_true (is_claimed work.changes work.claims) (is_free front xid) good.claimed free) in
    let again : Work = record { changes = work.changes; claims = all_added [] work.claims } in
    let last : with_doubt front xid (waiting again) ≡ front ++ (xid, waiting work) ∷ [] =
    at_end front xid (waiting again) before ∙ ap (λ (claims : _). front ++ (xid, waiting (record { changes = work.changes; claims = claims })) ∷ []) good.once in
    let state : Doubts → Durable = λ doubts. record { store = store; doubts = doubts } in
    ap (λ (b : Bool). if b then Some (state (with_doubt front xid (waiting again))) else None) fits ∙ ap (λ (doubts : Doubts). Some (state doubts)) last
one_laid store front xid work (Some o) good places before few =
    let room : nat_lt (length front) 256 ≡ true = grind (arith, nat_tests) in
    let state : Doubts → Durable = λ doubts. record { store = store; doubts = doubts } in
    let last : with_doubt front xid (completed o) ≡ front ++ (xid, record { work = work; outcome = Some o }) ∷ [] =
    at_end front xid (completed o) before ∙ ap (λ (w : Work). front ++ (xid, record { work = w; outcome = Some o }) ∷ []) (sym good.1) in
    ap (decided_so (state front) xid o) (none_found (doubt_of front xid) (unknown front xid before))
    ∙ ap (λ (b : Bool). if b then Some (state (with_doubt front xid (completed o))) else None) room ∙ ap (λ (doubts : Doubts). Some (state doubts)) last

-- ---- all of them

one_behind : (xid : List ℕ) (front : Doubts) (e : List ℕ × Doubt) → AreBefore xid front → by_xid e.0 xid ≡ Less → AreBefore xid (front ++ e ∷ [])
one_behind xid [] e before less = (less, tt)
one_behind xid (x ∷ front) e before less = (before.0, one_behind xid front e before.1 less)

abbrev AllBefore : Doubts → Doubts → Type 0
AllBefore front rest = AllByRecursion (λ (e : List ℕ × Doubt). AreBefore e.0 front) rest

all_behind : (front rest : Doubts) (e : List ℕ × Doubt) → AllBefore front rest → list_all (λ later. is_lt (by_xid e.0 later)) (keys_of rest) ≡ true → AllBefore (front ++ e ∷ []) rest
all_behind front [] e before less = tt
all_behind front (x ∷ rest) e before less = (
  one_behind x.0 front e before.0 (less_is (by_xid e.0 x.0) (first_true (is_lt (by_xid e.0 x.0)) (list_all (λ later. is_lt (by_xid e.0 later)) (keys_of rest)) less)),
  all_behind front rest e before.1 (second_true (is_lt (by_xid e.0 x.0)) (list_all (λ later. is_lt (by_xid e.0 later)) (keys_of rest)) less),
)

all_laid : (store : Store) (front rest : Doubts) → AllByRecursion IsGoodDoubt rest → are_placed rest store ≡ true → AllBefore front rest → rises by_xid (keys_of rest) ≡ true → length front + length rest ≤ 256
    → replayed_from (record { store = store; doubts = front }) (records_of rest) ≡ Some (record { store = store; doubts = front ++ rest })
all_laid store front [] good placed before rise few = ap (λ (doubts : Doubts). Some (record { store = store; doubts = doubts })) (sym (append-nil front))
all_laid store front (e ∷ rest) good placed before rise few =
    let here = first_true (is_placed store e.1.work e.1.outcome) (are_placed rest store) placed in
    let others = second_true (is_placed store e.1.work e.1.outcome) (are_placed rest store) placed in
    let later = first_true (list_all (λ later. is_lt (by_xid e.0 later)) (keys_of rest)) (rises by_xid (keys_of rest)) rise in
    let longer : length (front ++ e ∷ []) ≡ length front + 1 = length-append front (e ∷ []) in
    ap (option_and_then (λ (d : Durable). replayed_from d (records_of rest))) (one_laid store front e.0 e.1.work e.1.outcome good.0 here before.0 (omega (arith, few)))
    ∙ all_laid store (front ++ e ∷ []) rest good.1 others (all_behind front rest e before.1 later) (second_true (list_all (λ later. is_lt (by_xid e.0 later)) (keys_of rest)) (rises by_xid (keys_of rest)) rise) (omega (arith, few, longer))
    ∙ ap (λ (doubts : Doubts). Some (record { store = store; doubts = doubts })) (append_assoc front (e ∷ []) rest)

none_before : (rest : Doubts) → AllBefore [] rest
none_before [] = tt
none_before (e ∷ rest) = (tt, none_before rest)

record_good : (xid : List ℕ) (work : Work) (outcome : Option Decision) → IsGoodBranch xid work outcome → IsGood (laid_in xid work outcome)
record_good xid work None good = good.good
record_good xid work (Some o) good = good.0

pub records_good : (doubts : Doubts) → AllByRecursion IsGoodDoubt doubts → AreGood (records_of doubts)
records_good [] good = tt
records_good (e ∷ es) good = (record_good e.0 e.1.work e.1.outcome good.0, records_good es good.1)

pub doubts_are_laid : WrittenLead → DoubtsAreLaid
doubts_are_laid written = record {
  replayed = laid;
  leads = λ d sound placed. written (at_checkpoint d.store) d (records_of d.doubts) (records_good d.doubts sound.good) (laid d sound placed);
}
  where
    laid : (d : Durable) → IsSound d → are_placed d.doubts d.store ≡ true → replayed_from (at_checkpoint d.store) (records_of d.doubts) ≡ Some d
    laid d sound placed = all_laid d.store [] d.doubts sound.good placed (none_before d.doubts) sound.rising (omega (arith, sound.few))
