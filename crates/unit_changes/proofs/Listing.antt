-- Lists of changes and of tables.
use Rattle.std.proofs.Common.{◌≡◌, ◌<◌, ◌≤◌, ◌+◌, ℕ, zero, suc, List, [], ◌∷◌, ◌++◌, Bool, true, false, true≢false, cond, refl, sym, ap, subst, ◌∙◌, get_or, length, map, set, Option, Some, None, option_map, arith, add-one, drop, drop-cons}
use Rattle.std.specs.Prelude.{bytes_eq, find, not, position, ◌&&◌}
use Rattle.std.specs.List.{list_all, position_or_len, slice_get}
use Rattle.std.specs.String.{string_bytes}
use Rattle.std.proofs.lemmas.Slice.Eq.{bytes_eq-Decides}
use Rattle.tables.specs.declared.change.Change.{Change as CodeChange}
use Rattle.tables.specs.Change.{Change, is_change}
use Rattle.tables.specs.ChangeView.{change_of}
use Rattle.tables.proofs.Places.{first_place, found_nowhere, found_there, item_there, same_shown}
use Rattle.unit_changes.specs.declared.table_changes.TableChanges.{TableChanges}
use Rattle.unit_changes.specs.UnitTable.{UnitTable, name_of}
use Rattle.unit_changes.specs.TableChanges.{table_of}
use Rattle.unit_changes.specs.Index.{AreApart, AreOf, is_named, told_of}

-- ---- changes

next : (cs : List CodeChange) (i : ℕ) (x : CodeChange) → x ≡ get_or cs i x → i < length cs → drop i cs ≡ x ∷ drop (i + 1) cs
next cs i x is lt = drop-cons cs i x lt ∙ ap (λ (y : CodeChange). y ∷ drop (suc i) cs) (sym is) ∙ ap (λ n. x ∷ drop n cs) (sym (add-one i))

pub of_next : (name : List ℕ) (cs : List CodeChange) (i : ℕ) (x : CodeChange) → x ≡ get_or cs i x → i < length cs → name_of (change_of x) ≡ name → AreOf name (map change_of (drop (i + 1) cs)) → AreOf name (map change_of (drop i cs))
of_next name cs i x is lt named rest = subst (λ (l : List CodeChange). AreOf name (map change_of l)) (sym (next cs i x is lt)) (named, rest)

both : (a b : Bool) → a ≡ true → b ≡ true → (a && b) ≡ true
both true b h k = k
both false b h k = absurd cc

pub good_next : (cs : List CodeChange) (i : ℕ) (x : CodeChange) → x ≡ get_or cs i x → i < length cs → list_all is_change (map change_of (drop (i + 1) cs)) ≡ true → list_all is_change (map change_of (drop i cs)) ≡ true
good_next cs i x is lt rest =
    ap (λ (l : List CodeChange). list_all is_change (map change_of l)) (next cs i x is lt)
    ∙ both (is_change (change_of x)) (list_all is_change (map change_of (drop (i + 1) cs))) x.good rest

end : (cs : List CodeChange) (i : ℕ) → length cs ≤ i → drop i cs ≡ []
end [] zero h = refl
end [] (suc i) h = refl
end (c ∷ cs) zero h = absurd (omega (arith, h))
end (c ∷ cs) (suc i) h = end cs i (omega (arith, h))

pub of_end : (name : List ℕ) (cs : List CodeChange) (i : ℕ) → length cs ≤ i → AreOf name (map change_of (drop i cs)) × (list_all is_change (map change_of (drop i cs)) ≡ true)
of_end name cs i h = let none = end cs i h in
    (subst (λ (l : List CodeChange). AreOf name (map change_of l)) (sym none) tt, ap (λ (l : List CodeChange). list_all is_change (map change_of l)) none)

-- ---- tables

pub itself : (a : List ℕ) → bytes_eq a a ≡ true
itself a = (bytes_eq-Decides a a).1 refl

pub same_bytes : (a b : List ℕ) → bytes_eq a b ≡ true → a ≡ b
same_bytes a b h = (bytes_eq-Decides a b).0 h

shown_step : (b : Bool) (t : TableChanges) (o : Option TableChanges) (p : Option UnitTable) → p ≡ option_map table_of o → cond b (Some (table_of t)) p ≡ option_map table_of (cond b (Some t) o)
shown_step true t o p is = refl
shown_step false t o p is = is

told_found : (name : List ℕ) (ts : List TableChanges) → told_of name (map table_of ts) ≡ option_map table_of (find (is_named name) ts)
told_found name [] = refl
told_found name (t ∷ ts) = shown_step (is_named name t) t (find (is_named name) ts) (told_of name (map table_of ts)) (told_found name ts)

pub told_there : (name : List ℕ) (ts : List TableChanges) (i : ℕ) (t : TableChanges) → position (is_named name) ts ≡ Some i → t ≡ get_or ts i t → told_of name (map table_of ts) ≡ Some (table_of t)
told_there name ts i t is at = told_found name ts ∙ ap (option_map table_of) (found_there (is_named name) ts i t is (item_there (is_named name) ts i t is at))

pub told_nowhere : (name : List ℕ) (ts : List TableChanges) → position (is_named name) ts ≡ None → told_of name (map table_of ts) ≡ None
told_nowhere name ts is = told_found name ts ∙ ap (option_map table_of) (found_nowhere (is_named name) ts is)

-- a table in place of another of its name
in_place : (a b : Bool) (new old : Option UnitTable) (more : Option UnitTable) → a ≡ b → cond a new more ≡ cond b new (cond a old more)
in_place true true new old more same = refl
in_place false false new old more same = refl
in_place true false new old more same = absurd cc
in_place false true new old more same = absurd cc

swapped : (a b : Bool) (x new more rest : Option UnitTable) → rest ≡ cond b new more → (a ≡ true → b ≡ false) → cond a x rest ≡ cond b new (cond a x more)
swapped true true x new more rest is apart = absurd (true≢false (apart refl))
swapped true false x new more rest is apart = refl
swapped false b x new more rest is apart = is

apart_by : (q name other : List ℕ) → bytes_eq name other ≡ false → bytes_eq q other ≡ true → bytes_eq q name ≡ false
apart_by q name other differ alike = decide (bytes_eq q name) refl
  where
    decide : (b : Bool) → bytes_eq q name ≡ b → b ≡ false
    decide true is = absurd (true≢false (sym (itself other) ∙ ap (λ (n : List ℕ). bytes_eq n other) (sym (same_bytes q other alike) ∙ same_bytes q name is) ∙ differ))
    decide false is = refl

set_step : (q name : List ℕ) (x t new : TableChanges) (xs : List TableChanges) (n : ℕ) (b : Bool) → is_named name x ≡ b → (table_of new).name ≡ name → slice_get (x ∷ xs) (cond (not b) (1 + n) 0) ≡ Some t
    → (slice_get xs n ≡ Some t → told_of q (map table_of (set xs n new)) ≡ cond (bytes_eq q name) (Some (table_of new)) (told_of q (map table_of xs)))
    → told_of q (map table_of (set (x ∷ xs) (cond (not b) (1 + n) 0) new)) ≡ cond (bytes_eq q name) (Some (table_of new)) (told_of q (map table_of (x ∷ xs)))
set_step q name x t new xs n true is named at more =
    ap (λ (m : List ℕ). cond (bytes_eq q m) (Some (table_of new)) (told_of q (map table_of xs))) (named ∙ same_bytes name (string_bytes x.name) is)
    ∙ in_place (bytes_eq q (string_bytes x.name)) (bytes_eq q name) (Some (table_of new)) (Some (table_of x)) (told_of q (map table_of xs)) (ap (bytes_eq q) (sym (same_bytes name (string_bytes x.name) is)))
set_step q name x t new xs n false is named at more =
    let far : 1 + n ≡ suc n = omega arith in
    ap (λ i. told_of q (map table_of (set (x ∷ xs) i new))) far
    ∙ swapped (bytes_eq q (string_bytes x.name)) (bytes_eq q name) (Some (table_of x)) (Some (table_of new)) (told_of q (map table_of xs)) (told_of q (map table_of (set xs n new)))
    (more (sym (ap (slice_get (x ∷ xs)) far) ∙ at)) (λ alike. apart_by q name (string_bytes x.name) is alike)

set_first : (q name : List ℕ) (ts : List TableChanges) (t new : TableChanges) → (table_of new).name ≡ name → slice_get ts (position_or_len (is_named name) ts) ≡ Some t
    → told_of q (map table_of (set ts (position_or_len (is_named name) ts) new)) ≡ cond (bytes_eq q name) (Some (table_of new)) (told_of q (map table_of ts))
set_first q name [] t new named at = absurd cc
set_first q name (x ∷ xs) t new named at =
    set_step q name x t new xs (position_or_len (is_named name) xs) (is_named name x) refl named at (λ there. set_first q name xs t new named there)

pub told_set : (q name : List ℕ) (ts : List TableChanges) (i : ℕ) (t new : TableChanges) → position (is_named name) ts ≡ Some i → t ≡ get_or ts i t → (table_of new).name ≡ name
    → told_of q (map table_of (set ts i new)) ≡ cond (bytes_eq q name) (Some (table_of new)) (told_of q (map table_of ts))
told_set q name ts i t new is at named =
    let here = first_place (is_named name) ts i is in
    sym (ap (λ n. told_of q (map table_of (set ts n new))) here) ∙ set_first q name ts t new named (ap (slice_get ts) here ∙ item_there (is_named name) ts i t is at)

pub tables_kept : (name : List ℕ) (ts : List TableChanges) (i : ℕ) (t new : TableChanges) → position (is_named name) ts ≡ Some i → t ≡ get_or ts i t → table_of new ≡ table_of t → map table_of (set ts i new) ≡ map table_of ts
tables_kept name ts i t new is at same = same_shown table_of ts i t new (item_there (is_named name) ts i t is at) same

-- ---- names

abbrev pub shown_name : TableChanges → List ℕ
shown_name t = string_bytes t.name

none_step : (q : List ℕ) (t u : TableChanges) (ts us : List TableChanges) → shown_name t ≡ shown_name u → (told_of q (map table_of ts) ≡ None → told_of q (map table_of us) ≡ None) → told_of q (map table_of (t ∷ ts)) ≡ None → told_of q (map table_of (u ∷ us)) ≡ None
none_step q t u ts us same more h =
    ap (λ (n : List ℕ). cond (bytes_eq q n) (Some (table_of u)) (told_of q (map table_of us))) (sym same)
    ∙ by_case (bytes_eq q (shown_name t)) (Some (table_of t)) (Some (table_of u)) (told_of q (map table_of ts)) (told_of q (map table_of us)) more h (table_of t) refl
  where
    by_case : (b : Bool) (x y o p : Option UnitTable) → (o ≡ None → p ≡ None) → cond b x o ≡ None → (v : UnitTable) → x ≡ Some v → cond b y p ≡ None
    by_case true x y o p more h v is = absurd cc
    by_case false x y o p more h v is = more h

none_by : (q : List ℕ) (ts us : List TableChanges) → map shown_name ts ≡ map shown_name us → told_of q (map table_of ts) ≡ None → told_of q (map table_of us) ≡ None
none_by q [] [] same h = refl
none_by q [] (u ∷ us) same h = absurd cc
none_by q (t ∷ ts) [] same h = absurd cc
none_by q (t ∷ ts) (u ∷ us) same h =
    let one : shown_name t ≡ shown_name u = cc in
    let rest : map shown_name ts ≡ map shown_name us = cc in
    none_step q t u ts us one (none_by q ts us rest) h

apart_same : (ts us : List TableChanges) → map shown_name ts ≡ map shown_name us → AreApart (map table_of ts) → AreApart (map table_of us)
apart_same [] [] same h = tt
apart_same [] (u ∷ us) same h = absurd cc
apart_same (t ∷ ts) [] same h = absurd cc
apart_same (t ∷ ts) (u ∷ us) same h =
    let one : shown_name t ≡ shown_name u = cc in
    let rest : map shown_name ts ≡ map shown_name us = cc in
    (ap (λ (n : List ℕ). told_of n (map table_of us)) (sym one) ∙ none_by (shown_name t) ts us rest h.0, apart_same ts us rest h.1)

pub apart_set : (name : List ℕ) (ts : List TableChanges) (i : ℕ) (t new : TableChanges) → position (is_named name) ts ≡ Some i → t ≡ get_or ts i t → shown_name new ≡ shown_name t → AreApart (map table_of ts) → AreApart (map table_of (set ts i new))
apart_set name ts i t new is at same h =
    apart_same ts (set ts i new) (sym (same_shown shown_name ts i t new (item_there (is_named name) ts i t is at) same)) h

-- one table more, behind the others
pub told_more : (q : List ℕ) (ts : List UnitTable) (t : UnitTable) → told_of t.name ts ≡ None → told_of q (ts ++ t ∷ []) ≡ cond (bytes_eq q t.name) (Some t) (told_of q ts)
told_more q [] t new = refl
told_more q (x ∷ xs) t new =
    let apart : bytes_eq t.name x.name ≡ false = not_there (bytes_eq t.name x.name) x (told_of t.name xs) new in
    swapped (bytes_eq q x.name) (bytes_eq q t.name) (Some x) (Some t) (told_of q xs) (told_of q (xs ++ t ∷ [])) (told_more q xs t (rest_none (bytes_eq t.name x.name) x (told_of t.name xs) apart new)) (λ alike. apart_by q t.name x.name apart alike)
  where
    not_there : (b : Bool) (x : UnitTable) (o : Option UnitTable) → cond b (Some x) o ≡ None → b ≡ false
    not_there true x o h = absurd cc
    not_there false x o h = refl

    rest_none : (b : Bool) (x : UnitTable) (o : Option UnitTable) → b ≡ false → cond b (Some x) o ≡ None → o ≡ None
    rest_none true x o is h = absurd cc
    rest_none false x o is h = h

pub apart_more : (ts : List UnitTable) (t : UnitTable) → told_of t.name ts ≡ None → AreApart ts → AreApart (ts ++ t ∷ [])
apart_more [] t new h = (refl, tt)
apart_more (x ∷ xs) t new h =
    let apart : bytes_eq t.name x.name ≡ false = not_there (bytes_eq t.name x.name) x (told_of t.name xs) new in
    let other : bytes_eq x.name t.name ≡ false = turned (bytes_eq x.name t.name) refl apart in (
      told_more x.name xs t (rest_none (bytes_eq t.name x.name) x (told_of t.name xs) apart new) ∙ ap (λ b. cond b (Some t) (told_of x.name xs)) other ∙ h.0,
      apart_more xs t (rest_none (bytes_eq t.name x.name) x (told_of t.name xs) apart new) h.1,
    )
  where
    not_there : (b : Bool) (x : UnitTable) (o : Option UnitTable) → cond b (Some x) o ≡ None → b ≡ false
    not_there true x o h = absurd cc
    not_there false x o h = refl

    rest_none : (b : Bool) (x : UnitTable) (o : Option UnitTable) → b ≡ false → cond b (Some x) o ≡ None → o ≡ None
    rest_none true x o is h = absurd cc
    rest_none false x o is h = h

    turned : (b : Bool) → bytes_eq x.name t.name ≡ b → bytes_eq t.name x.name ≡ false → b ≡ false
    turned true is differ = absurd (true≢false (sym (itself x.name) ∙ ap (λ (n : List ℕ). bytes_eq n x.name) (same_bytes x.name t.name is) ∙ differ))
    turned false is differ = refl

-- the first change, and the others
pub first_of : (cs : List CodeChange) (x : CodeChange) → x ≡ get_or cs 0 x → 1 ≤ length cs → (rest : List Change) × (map change_of cs ≡ change_of x ∷ rest)
first_of [] x is some = absurd (omega (arith, some))
first_of (y ∷ ys) x is some = (map change_of ys, ap (λ (z : CodeChange). change_of z ∷ map change_of ys) (sym is))

shown_then : (ts : List TableChanges) (u : TableChanges) → map table_of (ts ++ u ∷ []) ≡ map table_of ts ++ table_of u ∷ []
shown_then [] u = refl
shown_then (t ∷ ts) u = ap (λ (l : List UnitTable). table_of t ∷ l) (shown_then ts u)

pub pushed : (ts us : List TableChanges) (u : TableChanges) → us ≡ ts ++ u ∷ [] → map table_of us ≡ map table_of ts ++ table_of u ∷ []
pushed ts us u is = ap (λ (l : List TableChanges). map table_of l) is ∙ shown_then ts u
