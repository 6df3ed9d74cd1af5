-- The units that go with a conversation, one branch after the other.
use Rattle.std.proofs.Common.{◌≡◌, ◌<◌, ◌≤◌, ◌+◌, ℕ, zero, suc, Bool, true, false, List, [], ◌∷◌, length, drop, get_or, refl, sym, ◌∙◌, ap, arith}
use Rattle.std.specs.Prelude.{if◌then◌else◌, filter, map}
use Rattle.xa_manager.specs.declared.branch.Branch.{Branch}
use Rattle.xa_manager.specs.Branch.{is_lost_with}
use Rattle.core_model.specs.Units.{Held, global, without}
use Rattle.core_model.specs.Events.{Leave, bare_run}
use Rattle.core_model.specs.Step.{lost_xids}
use Rattle.tables.specs.Tables.{Store}
use Rattle.rdb_core.specs.Steps.{left_units}

module _ (c : ℕ) where
  abbrev goes : Branch → Bool
  goes b = is_lost_with c b.state

  abbrev xids_if : Bool → Branch → List Branch → List (List ℕ)
  xids_if t b bs = map (λ (b : Branch). b.xid) (if t then b ∷ filter goes bs else filter goes bs)

  by_test : (t : Bool) (b : Branch) (bs : List Branch) (us : List Held) → left_units (xids_if t b bs) us ≡ left_units (lost_xids bs c) (if t then without (global b.xid) us else us)
  by_test true b bs us = refl
  by_test false b bs us = refl

  pub one_gone : (b : Branch) (bs : List Branch) (us vs : List Held) → vs ≡ (if goes b then without (global b.xid) us else us) → left_units (lost_xids bs c) vs ≡ left_units (lost_xids (b ∷ bs) c) us
  one_gone b bs us vs is = ap (λ (l : List Held). left_units (lost_xids bs c) l) is ∙ sym (by_test (goes b) b bs us)

next_at : (bs : List Branch) (at : ℕ) (b : Branch) → at < length bs → b ≡ get_or bs at b → drop at bs ≡ b ∷ drop (at + 1) bs
next_at [] at b lt is = absurd (omega (arith, lt))
next_at (x ∷ bs) zero b lt is = ap (λ (y : Branch). y ∷ bs) (sym is)
next_at (x ∷ bs) (suc n) b lt is =
    let q : suc (n + 1) ≡ suc n + 1 = omega arith in
    next_at bs n b (omega (arith, lt)) is ∙ ap (λ (k : ℕ). b ∷ drop k (x ∷ bs)) q

pub past : (bs : List Branch) (at : ℕ) → length bs ≤ at → drop at bs ≡ []
past [] zero le = refl
past [] (suc at) le = refl
past (b ∷ bs) zero le = absurd (omega (arith, le))
past (b ∷ bs) (suc at) le = past bs at (omega (arith, le))

-- the definition's events
pub as_events : (xs : List (List ℕ)) (s : Store) (us : List Held) → bare_run (map (λ x. Leave (global x)) xs) (record { store = s; units = us }) ≡ record { store = s; units = left_units xs us }
as_events [] s us = refl
as_events (x ∷ xs) s us = as_events xs s (without (global x) us)
