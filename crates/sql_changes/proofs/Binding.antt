-- Assignments that are bound one after another.
use Rattle.std.proofs.Common.{◌≡◌, ◌≤◌, ◌-◌, ℕ, List, [], ◌∷◌, ◌++◌, Option, Some, None, Ok, Err, ◌||◌, nat_eq, length, take, drop, get_or, refl, sym, ap, subst, ◌∙◌}
use Rattle.std.specs.Prelude.{slice_set}
use Rattle.std.specs.List.{list_any, slice_get}
use Rattle.std.proofs.lemmas.List.{append-nil, map-append}
use Rattle.sql_text.specs.declared.tree.Sum.{Sum}
use Rattle.sql_text.specs.declared.tree.Assignment.{Assignment}
use Rattle.row_values.specs.Value.{Value}
use Rattle.row_values.specs.Column.{Column}
use Rattle.core_calls.specs.declared.sql_fault.SqlFault.{SqlFault}
use Rattle.sql_semantics.specs.Checked.{Checked, and_then, fault_in, if_none}
use Rattle.sql_semantics.specs.Values.{column_place}
use Rattle.sql_semantics.specs.Update.{new_target, place_fault, set_all, sum_fault, sum_value, targets}
use Rattle.sql_changes.specs.Assigned.{all_set, assigned, places, total}
use Rattle.sql_changes.specs.declared.sum.BoundSum.{BoundSum}
use Rattle.sql_changes.specs.declared.target.Target.{Target}
use Rattle.sql_changes.proofs.Checks.{inside, joins, none_then, nothing_before, same_each, same_fault, then_then}
use Rattle.sql_changes.proofs.Lists.{opened}

-- ---- places

pub any_place : (place : ℕ) (ts : List Target) → list_any (nat_eq place) (places ts) ≡ list_any (λ (t : Target). nat_eq place t.place) ts
any_place place [] = refl
any_place place (t ∷ ts) = ap (λ b. nat_eq place t.place || b) (any_place place ts)

-- ---- one target more in a row

module _ (params : List Value) (cs : List Column) (old : List Value) where
  sets_more : (ts : List Target) (t : Target) (vs : List Value) → all_set old cs (ts ++ t ∷ []) vs ≡ and_then (all_set old cs ts vs) (all_set old cs (t ∷ []))
  sets_more [] t vs = refl
  sets_more (x ∷ ts) t vs =
      same_each Value (List Value) (λ v. all_set old cs (ts ++ t ∷ []) (slice_set vs x.place v)) (λ v. and_then (all_set old cs ts (slice_set vs x.place v)) (all_set old cs (t ∷ []))) (λ v. sets_more ts t (slice_set vs x.place v)) (assigned old cs x)
      ∙ sym (then_then Value (List Value) (List Value) (λ v. all_set old cs ts (slice_set vs x.place v)) (all_set old cs (t ∷ [])) (assigned old cs x))

  abbrev fitting : ℕ → Value → Checked (List Value) → Checked (List Value)
  fitting place v go = if_none (place_fault (slice_get cs place) v) go

  means_more : (ts : List (ℕ × Sum)) (q : ℕ × Sum) (vs : List Value) → set_all params cs old (ts ++ q ∷ []) vs ≡ and_then (set_all params cs old ts vs) (set_all params cs old (q ∷ []))
  means_more [] q vs = refl
  means_more (x ∷ ts) q vs =
      same_each Value (List Value) (λ v. fitting x.0 v (set_all params cs old (ts ++ q ∷ []) (slice_set vs x.0 v))) (λ v. and_then (fitting x.0 v (set_all params cs old ts (slice_set vs x.0 v))) (set_all params cs old (q ∷ [])))
      (λ v. ap (fitting x.0 v) (means_more ts q (slice_set vs x.0 v)) ∙ sym (none_then (List Value) (List Value) (set_all params cs old (q ∷ [])) (set_all params cs old ts (slice_set vs x.0 v)) (place_fault (slice_get cs x.0) v)))
      (sum_value params cs old x.1)
      ∙ sym (then_then Value (List Value) (List Value) (λ v. fitting x.0 v (set_all params cs old ts (slice_set vs x.0 v))) (set_all params cs old (q ∷ [])) (sum_value params cs old x.1))

  one_means : (place : ℕ) (bound : BoundSum) (sum : Sum) (ws : List Value) → total old bound ≡ sum_value params cs old sum → all_set old cs (record { place = place; sum = bound } ∷ []) ws ≡ set_all params cs old ((place, sum) ∷ []) ws
  one_means place bound sum ws same =
      then_then Value Value (List Value) (λ v. if_none (place_fault (slice_get cs place) v) (Ok v)) (λ v. Ok (slice_set ws place v)) (total old bound)
      ∙ same_each Value (List Value) (λ v. and_then (if_none (place_fault (slice_get cs place) v) (Ok v)) (λ v. Ok (slice_set ws place v))) (λ v. fitting place v (Ok (slice_set ws place v))) (λ v. none_then Value (List Value) (λ v. Ok (slice_set ws place v)) (Ok v) (place_fault (slice_get cs place) v)) (total old bound)
      ∙ ap (λ (r : Checked Value). and_then r (λ v. fitting place v (Ok (slice_set ws place v)))) same

  more_means : (ts : List Target) (done : List (ℕ × Sum)) (place : ℕ) (bound : BoundSum) (sum : Sum) (vs : List Value) → total old bound ≡ sum_value params cs old sum → all_set old cs ts vs ≡ set_all params cs old done vs
      → all_set old cs (ts ++ record { place = place; sum = bound } ∷ []) vs ≡ set_all params cs old (done ++ (place, sum) ∷ []) vs
  more_means ts done place bound sum vs same so =
      sets_more ts (record { place = place; sum = bound }) vs
      ∙ same_each (List Value) (List Value) (all_set old cs (record { place = place; sum = bound } ∷ [])) (set_all params cs old ((place, sum) ∷ [])) (λ ws. one_means place bound sum ws same) (all_set old cs ts vs)
      ∙ ap (λ (r : Checked (List Value)). and_then r (set_all params cs old ((place, sum) ∷ []))) so
      ∙ sym (means_more done (place, sum) vs)

-- ---- assignment by assignment

-- what is bound stands for some targets; those of the assignments that are left come behind them
pub record SoFar (params : List Value) (cs : List Column) (key : List ℕ) (bound : List Target) (left all : List Assignment) : Type 0 where
  pub done : List (ℕ × Sum)
  pub means : (old vs : List Value) → all_set old cs bound vs ≡ set_all params cs old done vs
  pub whole : and_then (targets params cs key (places bound) left) (λ more. Ok (done ++ more)) ≡ targets params cs key [] all

module _ (params : List Value) (cs : List Column) (key : List ℕ) (all : List Assignment) where
  pub begins : SoFar params cs key [] all all
  begins = record { done = []; means = λ old vs. refl; whole = nothing_before (ℕ × Sum) (targets params cs key [] all) }

  abbrev ahead : List ℕ → ℕ → Assignment → List Assignment → Checked (List (ℕ × Sum))
  ahead found p a later = and_then (targets params cs key (found ++ p ∷ []) later) (λ ts. Ok ((p, a.sum) ∷ ts))

  taken : (found : List ℕ) (a : Assignment) (later : List Assignment) (place : ℕ) → new_target key found (column_place cs a.column) ≡ Ok place → sum_fault params cs place a.sum ≡ None
      → targets params cs key found (a ∷ later) ≡ ahead found place a later
  taken found a later place is fine =
      ap (λ (r : Checked ℕ). and_then r (λ p. if_none (sum_fault params cs p a.sum) (ahead found p a later))) is
      ∙ ap (λ (o : Option SqlFault). if_none o (ahead found place a later)) fine

  steps : (bound : List Target) (a : Assignment) (later : List Assignment) (place : ℕ) (sum : BoundSum) → new_target key (places bound) (column_place cs a.column) ≡ Ok place → sum_fault params cs place a.sum ≡ None
      → ((old : List Value) → total old sum ≡ sum_value params cs old a.sum) → SoFar params cs key bound (a ∷ later) all → SoFar params cs key (bound ++ record { place = place; sum = sum } ∷ []) later all
  steps bound a later place sum is fine same so = record {
    done = so.done ++ (place, a.sum) ∷ [];
    means = λ old vs. more_means params cs old bound so.done place sum a.sum vs (same old) (so.means old vs);
    whole =
        ap (λ (found : List ℕ). and_then (targets params cs key found later) (λ more. Ok ((so.done ++ (place, a.sum) ∷ []) ++ more))) (map-append (λ (t : Target). t.place) bound (record { place = place; sum = sum } ∷ []))
        ∙ joins (ℕ × Sum) so.done (place, a.sum) (targets params cs key (places bound ++ place ∷ []) later)
        ∙ ap (λ (r : Checked (List (ℕ × Sum))). and_then r (λ more. Ok (so.done ++ more))) (sym (taken (places bound) a later place is fine))
        ∙ so.whole;
  }

  -- as the code takes a list apart
  pub goes_on : (bound more : List Target) (left : List Assignment) (a : Assignment) (place : ℕ) (sum : BoundSum) → 1 ≤ length left → a ≡ get_or left 0 a → more ≡ bound ++ record { place = place; sum = sum } ∷ []
      → new_target key (places bound) (column_place cs a.column) ≡ Ok place → sum_fault params cs place a.sum ≡ None → ((old : List Value) → total old sum ≡ sum_value params cs old a.sum)
      → SoFar params cs key bound left all → SoFar params cs key more (take (length left - 1) (drop 1 left)) all
  goes_on bound more left a place sum some first pushed is fine same so =
      subst (λ (ts : List Target). SoFar params cs key ts (take (length left - 1) (drop 1 left)) all) (sym pushed)
      (steps bound a (take (length left - 1) (drop 1 left)) place sum is fine same (subst (λ (rest : List Assignment). SoFar params cs key bound rest all) (opened left a some first) so))

  fault_so : (bound : List Target) (left : List Assignment) → SoFar params cs key bound left all → fault_in (targets params cs key [] all) ≡ fault_in (targets params cs key (places bound) left)
  fault_so bound left so = ap fault_in (sym so.whole) ∙ same_fault (List (ℕ × Sum)) (List (ℕ × Sum)) (λ more. so.done ++ more) (targets params cs key (places bound) left)

  fault_by : (bound : List Target) (left : List Assignment) (a : Assignment) → 1 ≤ length left → a ≡ get_or left 0 a → SoFar params cs key bound left all
      → fault_in (targets params cs key [] all) ≡ fault_in (targets params cs key (places bound) (a ∷ take (length left - 1) (drop 1 left)))
  fault_by bound left a some first so = fault_so bound left so ∙ ap (λ (rest : List Assignment). fault_in (targets params cs key (places bound) rest)) (opened left a some first)

  -- a column that is no target
  pub no_target : (bound : List Target) (left : List Assignment) (a : Assignment) (e : SqlFault) → 1 ≤ length left → a ≡ get_or left 0 a → new_target key (places bound) (column_place cs a.column) ≡ Err e
      → SoFar params cs key bound left all → fault_in (targets params cs key [] all) ≡ Some e
  no_target bound left a e some first is so =
      let later = take (length left - 1) (drop 1 left) in
      fault_by bound left a some first so
      ∙ ap (λ (r : Checked ℕ). fault_in (and_then r (λ p. if_none (sum_fault params cs p a.sum) (ahead (places bound) p a later)))) is

  -- a sum at fault
  pub no_sum : (bound : List Target) (left : List Assignment) (a : Assignment) (place : ℕ) (e : SqlFault) → 1 ≤ length left → a ≡ get_or left 0 a → new_target key (places bound) (column_place cs a.column) ≡ Ok place
      → sum_fault params cs place a.sum ≡ Some e → SoFar params cs key bound left all → fault_in (targets params cs key [] all) ≡ Some e
  no_sum bound left a place e some first is bad so =
      let later = take (length left - 1) (drop 1 left) in
      fault_by bound left a some first so
      ∙ ap (λ (r : Checked ℕ). fault_in (and_then r (λ p. if_none (sum_fault params cs p a.sum) (ahead (places bound) p a later)))) is
      ∙ ap (λ (o : Option SqlFault). fault_in (if_none o (ahead (places bound) place a later))) bad

  -- all are bound
  pub no_fault : (bound : List Target) → SoFar params cs key bound [] all → fault_in (targets params cs key [] all) ≡ None
  no_fault bound so = fault_so bound [] so

  pub ends : (bound : List Target) → SoFar params cs key bound [] all → (ts : List (ℕ × Sum)) → targets params cs key [] all ≡ Ok ts → (old vs : List Value) → all_set old cs bound vs ≡ set_all params cs old ts vs
  ends bound so ts is old vs =
      so.means old vs ∙ ap (λ (done : List (ℕ × Sum)). set_all params cs old done vs) (sym (append-nil so.done) ∙ inside (List (ℕ × Sum)) (so.done ++ []) ts (so.whole ∙ is))
