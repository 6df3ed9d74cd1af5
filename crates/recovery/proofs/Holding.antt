-- What the units in doubt hold back.
use Rattle.std.proofs.Common.{◌≡◌, ◌≢◌, ℕ, ◌+◌, List, [], ◌∷◌, length, Bool, true, false, ◌&&◌, true≢false, cond, if◌then◌else◌, refl, sym, ap, ◌∙◌, arith, Option, Some, None, Ordering, Less, Equal, Greater}
use Rattle.std.specs.Prelude.{bytes_eq, is_some, not, nat_lt}
use Rattle.std.specs.Option.{option_and_then}
use Rattle.std.specs.Ordering.{match_ordering, nat_cmp}
use Rattle.std.specs.Cmp.Lexicographic.{slice_cmp}
use Rattle.row_values.proofs.ValueLaws.{chained, first_true, second_true}
use Rattle.tables.proofs.Changes.{names_apart}
use Rattle.tables.proofs.Finding.{itself, same_bytes}
use Rattle.unit_locks.specs.Claims.{all_added}
use Rattle.core_model.specs.Units.{Work}
use Rattle.half_store.specs.declared.header.Layout.{Layout}
use Rattle.half_store.specs.declared.header.Layout.TheVariants.{One, Two}
use Rattle.xa_manager.specs.declared.due.Decision.{Decision}
use Rattle.unit_records.specs.Records.{UnitRecord, committed, decided, forgotten, heuristic, prepared}
use Rattle.unit_records.specs.Room.{decision_taken, held_by, released_by}
use Rattle.recovery.specs.Durable.{Doubt, Doubts, Durable, completed, completed_in, decide, decided_so, doubt_of, ended, ended_in, have_places, is_claimed, is_free, let_go, let_go_of, next, replayed_from, turned, waiting, with_doubt, without_doubt}
use Rattle.recovery.specs.Known.{ReleaseAll, Releases}
use Rattle.recovery.specs.Laws.{HeldForAll, HeldForDoubts, held_at, held_for}

pub not_found : (b : Bool) (doubt : Doubt) (o : Option Doubt) → is_some (cond b (Some doubt) o) ≡ false → (b ≡ false) × (is_some o ≡ false)
not_found true doubt o h = absurd cc
not_found false doubt o h = (refl, h)

pub other_xid : (a b : List ℕ) → bytes_eq a b ≡ false → slice_cmp nat_cmp a b ≢ Equal
other_xid a b other tie = true≢false (sym (ap (bytes_eq a) (sym (names_apart.exact a b tie)) ∙ itself a) ∙ other)

module _ (layout : Layout) where
  -- ---- one more

  more_step : (xid : List ℕ) (doubt : Doubt) (e : List ℕ × Doubt) (es : Doubts) (rest : Doubts) (o : Ordering) → o ≢ Equal → held_for layout rest ≡ held_for layout es + held_at layout xid doubt.outcome
      → held_for layout (match_ordering o ((xid, doubt) ∷ e ∷ es) ((e.0, doubt) ∷ es) (e ∷ rest)) ≡ held_at layout e.0 e.1.outcome + held_for layout es + held_at layout xid doubt.outcome
  more_step xid doubt e es rest Less other more = omega arith
  more_step xid doubt e es rest Equal other more = absurd (other refl)
  more_step xid doubt e es rest Greater other more = omega arith

  one_held : (doubts : Doubts) (xid : List ℕ) (doubt : Doubt) → is_some (doubt_of doubts xid) ≡ false → held_for layout (with_doubt doubts xid doubt) ≡ held_for layout doubts + held_at layout xid doubt.outcome
  one_held [] xid doubt free = omega arith
  one_held (e ∷ es) xid doubt free =
      let none = not_found (bytes_eq xid e.0) e.1 (doubt_of es xid) free in
      more_step xid doubt e es (with_doubt es xid doubt) (slice_cmp nat_cmp xid e.0) (other_xid xid e.0 none.0) (one_held es xid doubt none.1)

  -- ---- one fewer

  -- the one that is found holds as much
  as_much : (xid : List ℕ) (doubt : Doubt) (e : List ℕ × Doubt) → bytes_eq xid e.0 ≡ true → e.1 ≡ doubt → held_at layout xid doubt.outcome ≡ held_at layout e.0 e.1.outcome
  as_much xid doubt e is same = ap (λ (z : List ℕ). held_at layout z doubt.outcome) (same_bytes xid e.0 is) ∙ ap (λ (d : Doubt). held_at layout e.0 d.outcome) (sym same)

  fewer_step : (xid : List ℕ) (doubt : Doubt) (e : List ℕ × Doubt) (es rest : Doubts) (b : Bool) (o : Option Doubt) → bytes_eq xid e.0 ≡ b → cond b (Some e.1) o ≡ Some doubt → (o ≡ Some doubt → held_for layout rest + held_at layout xid doubt.outcome ≡ held_for layout es)
      → held_for layout (cond b es (e ∷ rest)) + held_at layout xid doubt.outcome ≡ held_at layout e.0 e.1.outcome + held_for layout es
  fewer_step xid doubt e es rest true o is found less = let same : e.1 ≡ doubt = cc in let much = as_much xid doubt e is same in omega (arith, much)
  fewer_step xid doubt e es rest false o is found less = let h = less found in omega (arith, h)

  one_released : (doubts : Doubts) (xid : List ℕ) (doubt : Doubt) → doubt_of doubts xid ≡ Some doubt → held_for layout (without_doubt doubts xid) + held_at layout xid doubt.outcome ≡ held_for layout doubts
  one_released [] xid doubt found = absurd cc
  one_released (e ∷ es) xid doubt found = fewer_step xid doubt e es (without_doubt es xid) (bytes_eq xid e.0) (doubt_of es xid) refl found (λ h. one_released es xid doubt h)

  -- ---- another in its place

  turned_step : (xid : List ℕ) (new old : Doubt) (e : List ℕ × Doubt) (es rest : Doubts) (b : Bool) (o : Option Doubt) → bytes_eq xid e.0 ≡ b → cond b (Some e.1) o ≡ Some old
      → (o ≡ Some old → held_for layout rest + held_at layout xid old.outcome ≡ held_for layout es + held_at layout xid new.outcome)
      → held_for layout (cond b ((e.0, new) ∷ es) (e ∷ rest)) + held_at layout xid old.outcome ≡ held_at layout e.0 e.1.outcome + held_for layout es + held_at layout xid new.outcome
  turned_step xid new old e es rest true o is found more =
      let same : e.1 ≡ old = cc in
      let much = as_much xid old e is same in
      let new_much : held_at layout xid new.outcome ≡ held_at layout e.0 new.outcome = ap (λ (z : List ℕ). held_at layout z new.outcome) (same_bytes xid e.0 is) in
      omega (arith, much, new_much)
  turned_step xid new old e es rest false o is found more = let h = more found in omega (arith, h)

  one_turned : (doubts : Doubts) (xid : List ℕ) (new old : Doubt) → doubt_of doubts xid ≡ Some old → held_for layout (turned doubts xid new) + held_at layout xid old.outcome ≡ held_for layout doubts + held_at layout xid new.outcome
  one_turned [] xid new old found = absurd cc
  one_turned (e ∷ es) xid new old found = turned_step xid new old e es (turned es xid new) (bytes_eq xid e.0) (doubt_of es xid) refl found (λ h. one_turned es xid new old h)

-- ---- records

pub if_some : (b : Bool) (x e : Durable) → (if b then Some x else None) ≡ Some e → (b ≡ true) × (x ≡ e)
if_some true x e h = (refl, cc)
if_some false x e h = absurd cc

pub not_true : (b : Bool) → not b ≡ true → b ≡ false
not_true true h = absurd cc
not_true false h = refl

-- a branch that is decided was waiting for that
pub ended_is : (d : Durable) (xid : List ℕ) (o : Decision) (work : Work) (outcome : Option Decision) (e : Durable) → ended_in d xid o work outcome ≡ Some e
    → (outcome ≡ None) × ((let x : Durable = record { store = decide o d.store work; doubts = without_doubt d.doubts xid } in x) ≡ e)
ended_is d xid o work None e h = (refl, cc)
ended_is d xid o work (Some p) e h = absurd cc

pub completed_is : (d : Durable) (xid : List ℕ) (o : Decision) (work : Work) (outcome : Option Decision) (e : Durable) → completed_in d xid o work outcome ≡ Some e
    → (outcome ≡ None) × ((let x : Durable = record { store = decide o d.store work; doubts = turned d.doubts xid (completed o) } in x) ≡ e)
completed_is d xid o work None e h = (refl, cc)
completed_is d xid o work (Some p) e h = absurd cc

-- one that is forgotten was decided heuristically
pub let_go_is : (d : Durable) (xid : List ℕ) (outcome : Option Decision) (e : Durable) → let_go_of d xid outcome ≡ Some e
    → ((o : Decision) × (outcome ≡ Some o)) × ((let x : Durable = record { store = d.store; doubts = without_doubt d.doubts xid } in x) ≡ e)
let_go_is d xid None e h = absurd cc
let_go_is d xid (Some o) e h = ((o, refl), cc)

-- a heuristic decision in layout 2, by what is in doubt
heuristic_held : (d e : Durable) (xid : List ℕ) (o : Decision) (found : Option Doubt) → doubt_of d.doubts xid ≡ found → is_some found ≡ true → decided_so d xid o found ≡ Some e
    → held_for Two e.doubts + decision_taken xid ≡ held_for Two d.doubts
heuristic_held d e xid o None is some h = absurd cc
heuristic_held d e xid o (Some doubt) is some h =
    let c = completed_is d xid o doubt.work doubt.outcome e h in
    let sum = one_turned Two d.doubts xid (completed o) doubt is in
    let waits : held_at Two xid doubt.outcome ≡ held_at Two xid None = ap (held_at Two xid) c.0 in
    let same = ap (λ (x : Durable). held_for Two x.doubts) c.1 in
    omega (arith, sum, waits, same)

pub held_for_doubts : HeldForDoubts
held_for_doubts layout d e (committed changes) of h =
    let is = if_some (have_places changes d.store) _ e h in
    ap (λ (x : Durable). held_for layout x.doubts + 0) (sym is.1)
held_for_doubts layout d e (prepared xid changes claims) of h =
    let is = if_some (have_places changes d.store && (is_claimed changes claims && is_free d.doubts xid)) _ e h in
    let free = second_true (is_claimed changes claims) (is_free d.doubts xid) (second_true (have_places changes d.store) (is_claimed changes claims && is_free d.doubts xid) is.0) in
    let unknown = not_true (is_some (doubt_of d.doubts xid)) (first_true (not (is_some (doubt_of d.doubts xid))) (nat_lt (length d.doubts) 256) free) in
    let sum = one_held layout d.doubts xid (waiting (record { changes = changes; claims = all_added [] claims })) unknown in
    let same = ap (λ (x : Durable). held_for layout x.doubts) is.1 in
    omega (arith, sum, same)
held_for_doubts layout d e (decided xid o) of h =
    let found = chained (ended d xid o) (doubt_of d.doubts xid) e h in
    let is = ended_is d xid o found.0.work found.0.outcome e found.2 in
    let sum = one_released layout d.doubts xid found.0 found.1 in
    let waits : held_at layout xid found.0.outcome ≡ held_at layout xid None = ap (held_at layout xid) is.0 in
    let same = ap (λ (x : Durable). held_for layout x.doubts) is.1 in
    omega (arith, sum, waits, same)
held_for_doubts One d e (heuristic xid o) of h = let clash : One ≡ Two = of.0 in absurd cc
held_for_doubts Two d e (heuristic xid o) of h = let sum = heuristic_held d e xid o (doubt_of d.doubts xid) refl of.1 h in omega (arith, sum)
held_for_doubts layout d e (forgotten xid) of h =
    let found = chained (let_go d xid) (doubt_of d.doubts xid) e h in
    let is = let_go_is d xid found.0.outcome e found.2 in
    let sum = one_released layout d.doubts xid found.0 found.1 in
    let waits : held_at layout xid found.0.outcome ≡ held_at layout xid (Some is.0.0) = ap (held_at layout xid) is.0.1 in
    let same = ap (λ (x : Durable). held_for layout x.doubts) is.1 in
    omega (arith, sum, waits, same)

-- ---- records one behind another

module _ (held : HeldForDoubts) (layout : Layout) where
  held_on : (d e : Durable) (r : UnitRecord) (rs : List UnitRecord) (o : Option Durable) → Releases layout d r → next d r ≡ o → option_and_then (λ (f : Durable). replayed_from f rs) o ≡ Some e
      → ((f : Durable) → next d r ≡ Some f → replayed_from f rs ≡ Some e → held_for layout e.doubts + released_by layout rs ≡ held_for layout f.doubts + held_by layout rs)
      → held_for layout e.doubts + released_by layout (r ∷ rs) ≡ held_for layout d.doubts + held_by layout (r ∷ rs)
  held_on d e r rs None of step whole on = absurd cc
  held_on d e r rs (Some f) of step whole on = let first = held layout d f r of step in let rest = on f step whole in omega (arith, first, rest)

  all_held : (d e : Durable) (rs : List UnitRecord) → ReleaseAll layout d rs → replayed_from d rs ≡ Some e → held_for layout e.doubts + released_by layout rs ≡ held_for layout d.doubts + held_by layout rs
  all_held d e [] of whole = let same : e ≡ d = cc in ap (λ (x : Durable). held_for layout x.doubts + 0) same
  all_held d e (r ∷ rs) of whole = held_on d e r rs (next d r) of.0 refl whole (λ f step. all_held f e rs (of.1 f step))

pub held_for_all : HeldForDoubts → HeldForAll
held_for_all held layout d e rs of whole = all_held held layout d e rs of whole
