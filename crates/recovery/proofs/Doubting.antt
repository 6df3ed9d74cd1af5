-- Units in doubt in the order of their XIDs.
use Rattle.std.proofs.Common.{◌≡◌, ◌≢◌, ℕ, ◌+◌, suc, List, [], ◌∷◌, Bool, true, false, true≢false, cond, refl, sym, ap, ◌∙◌, arith, get_or, set, Some, None, option_map, Equal}
use Rattle.std.specs.Prelude.{bytes_eq, is_some, not, position}
use Rattle.std.specs.List.{insert, list_any, position_or_len, prefix_len, remove}
use Rattle.std.specs.Ordering.{is_gt, nat_cmp}
use Rattle.std.specs.Cmp.Lexicographic.{slice_cmp}
use Rattle.tables.proofs.Changes.{names_apart}
use Rattle.tables.proofs.Finding.{itself, same_bytes}
use Rattle.tables.proofs.Places.{any_found, first_place, found_nowhere, found_there, item_there, lookup_found, none_passes, put_new}
use Rattle.recovery.specs.Durable.{Doubt, doubt_of, turned, with_doubt, without_doubt}
use Rattle.recovery.specs.Replay.{doubt_in, doubts_in}
use Rattle.recovery.specs.declared.prepared.PreparedUnit.{PreparedUnit}

abbrev is_of : List ℕ → PreparedUnit → Bool
is_of xid u = bytes_eq xid u.xid

other_xid : (xid : List ℕ) (u : PreparedUnit) → is_of xid u ≡ false → slice_cmp nat_cmp xid u.xid ≢ Equal
other_xid xid u other tie = true≢false (sym (ap (bytes_eq xid) (sym (names_apart.exact xid u.xid tie)) ∙ itself xid) ∙ other)

-- a unit goes to its place
pub added : (new : PreparedUnit) (units : List PreparedUnit) (place : ℕ) → is_some (doubt_of (doubts_in units) new.xid) ≡ false → place ≡ prefix_len (λ (u : PreparedUnit). is_gt (slice_cmp nat_cmp new.xid u.xid)) units
    → doubts_in (insert units place new) ≡ with_doubt (doubts_in units) new.xid (doubt_in new).1
added new units place free at =
    let none : list_any (is_of new.xid) units ≡ false = any_found doubt_in (bytes_eq new.xid) units ∙ free in
    ap (λ (i : ℕ). doubts_in (insert units i new)) at
    ∙ put_new (slice_cmp nat_cmp) doubt_in new.xid (doubt_in new).1 new units refl (λ u there. other_xid new.xid u (none_passes (is_of new.xid) units (prefix_len (λ (v : PreparedUnit). is_gt (slice_cmp nat_cmp new.xid v.xid)) units) u none there))

-- a unit that is sought
pub unit_there : (xid : List ℕ) (units : List PreparedUnit) (i : ℕ) (u : PreparedUnit) → position (is_of xid) units ≡ Some i → u ≡ get_or units i u → doubt_of (doubts_in units) xid ≡ Some (doubt_in u).1
unit_there xid units i u is at =
    lookup_found doubt_in (bytes_eq xid) units ∙ ap (option_map (λ (v : PreparedUnit). (doubt_in v).1)) (found_there (is_of xid) units i u is (item_there (is_of xid) units i u is at))

pub unit_nowhere : (xid : List ℕ) (units : List PreparedUnit) → position (is_of xid) units ≡ None → doubt_of (doubts_in units) xid ≡ None
unit_nowhere xid units is = lookup_found doubt_in (bytes_eq xid) units ∙ ap (option_map (λ (v : PreparedUnit). (doubt_in v).1)) (found_nowhere (is_of xid) units is)

gone_step : (u : PreparedUnit) (units : List PreparedUnit) (n : ℕ) (b : Bool) (rest : List (List ℕ × Doubt)) → doubts_in (remove units n) ≡ rest
    → doubts_in (remove (u ∷ units) (cond (not b) (1 + n) 0)) ≡ cond b (doubts_in units) (doubt_in u ∷ rest)
gone_step u units n true rest more = refl
gone_step u units n false rest more =
    let next : 1 + n ≡ suc n = omega arith in
    ap (λ (i : ℕ). doubts_in (remove (u ∷ units) i)) next ∙ ap (λ (l : List (List ℕ × Doubt)). doubt_in u ∷ l) more

gone_first : (xid : List ℕ) (units : List PreparedUnit) → doubts_in (remove units (position_or_len (is_of xid) units)) ≡ without_doubt (doubts_in units) xid
gone_first xid [] = refl
gone_first xid (u ∷ units) = gone_step u units (position_or_len (is_of xid) units) (is_of xid u) (without_doubt (doubts_in units) xid) (gone_first xid units)

-- it is taken out
pub unit_gone : (xid : List ℕ) (units : List PreparedUnit) (i : ℕ) → position (is_of xid) units ≡ Some i → doubts_in (remove units i) ≡ without_doubt (doubts_in units) xid
unit_gone xid units i is = sym (ap (λ (n : ℕ). doubts_in (remove units n)) (first_place (is_of xid) units i is)) ∙ gone_first xid units

-- another is set in its place
turned_step : (new u : PreparedUnit) (units : List PreparedUnit) (n : ℕ) (b : Bool) (rest : List (List ℕ × Doubt)) → is_of new.xid u ≡ b → doubts_in (set units n new) ≡ rest
    → doubts_in (set (u ∷ units) (cond (not b) (1 + n) 0) new) ≡ cond b ((u.xid, (doubt_in new).1) ∷ doubts_in units) (doubt_in u ∷ rest)
turned_step new u units n true rest is more = ap (λ (z : List ℕ). (z, (doubt_in new).1) ∷ doubts_in units) (same_bytes new.xid u.xid is)
turned_step new u units n false rest is more =
    let next : 1 + n ≡ suc n = omega arith in
    ap (λ (i : ℕ). doubts_in (set (u ∷ units) i new)) next ∙ ap (λ (l : List (List ℕ × Doubt)). doubt_in u ∷ l) more

turned_first : (new : PreparedUnit) (units : List PreparedUnit) → doubts_in (set units (position_or_len (is_of new.xid) units) new) ≡ turned (doubts_in units) new.xid (doubt_in new).1
turned_first new [] = refl
turned_first new (u ∷ units) = turned_step new u units (position_or_len (is_of new.xid) units) (is_of new.xid u) (turned (doubts_in units) new.xid (doubt_in new).1) refl (turned_first new units)

pub unit_turned : (new : PreparedUnit) (units : List PreparedUnit) (i : ℕ) → position (is_of new.xid) units ≡ Some i → doubts_in (set units i new) ≡ turned (doubts_in units) new.xid (doubt_in new).1
unit_turned new units i is = sym (ap (λ (n : ℕ). doubts_in (set units n new)) (first_place (is_of new.xid) units i is)) ∙ turned_first new units
