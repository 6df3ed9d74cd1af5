-- What is true of the pages of all tables, after one of them has changed.
use Rattle.std.proofs.Common.{◌≡◌, ◌⊎◌, inl, ℕ, ◌+◌, ◌*◌, ◌≤◌, List, [], ◌∷◌, Bool, true, false, cond, refl, sym, ap, subst, ◌∙◌, length, Option, Some, filter, Ordering, Less, Equal, Greater, arith}
use Rattle.std.specs.List.{AllByRecursion}
use Rattle.std.specs.List.Sorted.{IsStrictlySortedBy}
use Rattle.std.specs.Map.{lookup, set_value}
use Rattle.std.specs.BTreeMap.{insert_entry}
use Rattle.std.specs.Ordering.{match_ordering}
use Rattle.key_map.specs.RowForm.{row_form}
use Rattle.key_map.specs.Slots.{by_bytes, by_key}
use Rattle.row_pages.specs.Laying.{rows_over}
use Rattle.row_values.specs.Schema.{Schema}
use Rattle.table_map.specs.Keyed.{keyed_rows}
use Rattle.table_map.specs.Stored.{Places, IsStored as StandAt}
use Rattle.paged_tables.specs.Stored.{IsOnPages, KeepsPages, LiesInside, LiesOutside, Stored}
use Rattle.paged_tables.specs.TablesByName.{PagesStay, Tables, is_created, named}

-- ---- one table

pub same_on_pages : (file : List ℕ) (t u : Stored) → KeepsPages t u → IsOnPages file t → IsOnPages file u
same_on_pages file t u keeps is = record {
  pages = is.pages;
  stand = subst (λ (s : Schema). StandAt (row_form s) u.places is.pages file) (sym keeps.schema) (subst (λ (p : Places). StandAt (row_form t.schema) p is.pages file) (sym keeps.places) is.stand);
  rows = keeps.base ∙ is.rows ∙ ap (λ (s : Schema). keyed_rows (row_form s) (rows_over is.pages)) (sym keeps.schema);
}

pub same_inside : (size : ℕ) (t u : Stored) → KeepsPages t u → LiesInside size t → LiesInside size u
same_inside size t u keeps h = subst (λ (p : Places). p.at + 8192 * length p.keys ≤ size) (sym keeps.places) h

pub same_outside : (from end : ℕ) (t u : Stored) → KeepsPages t u → LiesOutside from end t → LiesOutside from end u
same_outside from end t u keeps h = subst (λ (p : Places). (p.at + 8192 * length p.keys ≤ from) ⊎ (end ≤ p.at)) (sym keeps.places) h

-- ---- all tables

module _ (P : Stored → Type 0) where
  abbrev AllHave : Tables → Type 0
  AllHave s = AllByRecursion (λ (e : List ℕ × Stored). P e.1) s

  found_step : (b : Bool) (v t : Stored) (o : Option Stored) → cond b (Some v) o ≡ Some t → P v → (o ≡ Some t → P t) → P t
  found_step true v t o at one more = let same : v ≡ t = cc in subst P same one
  found_step false v t o at one more = more at

  pub all_found : (test : List ℕ → Bool) (s : Tables) (t : Stored) → lookup test s ≡ Some t → AllHave s → P t
  all_found test [] t at all = absurd cc
  all_found test (e ∷ es) t at all = found_step (test e.0) e.1 t (lookup test es) at all.0 (λ there. all_found test es t there all.1)

  set_step : (b : Bool) (k : List ℕ) (v u : Stored) (es fs : Tables) → P v → P u → AllHave es → AllHave fs → AllHave (cond b ((k, u) ∷ es) ((k, v) ∷ fs))
  set_step true k v u es fs one new all more = (new, all)
  set_step false k v u es fs one new all more = (one, more)

  pub all_set : (test : List ℕ → Bool) (s : Tables) (u : Stored) → P u → AllHave s → AllHave (set_value test s u)
  all_set test [] u new all = tt
  all_set test (e ∷ es) u new all = set_step (test e.0) e.0 e.1 u es (set_value test es u) all.0 new all.1 (all_set test es u new all.1)

  insert_step : (o : Ordering) (k : List ℕ) (u : Stored) (e : List ℕ × Stored) (es fs : Tables) → P u → P e.1 → AllHave es → AllHave fs → AllHave (match_ordering o ((k, u) ∷ e ∷ es) ((e.0, u) ∷ es) (e ∷ fs))
  insert_step Less k u e es fs new one all more = (new, (one, all))
  insert_step Equal k u e es fs new one all more = (new, all)
  insert_step Greater k u e es fs new one all more = (one, more)

  pub all_insert : (R : List ℕ → List ℕ → Ordering) (s : Tables) (k : List ℕ) (u : Stored) → P u → AllHave s → AllHave (insert_entry R s k u)
  all_insert R [] k u new all = (new, tt)
  all_insert R (e ∷ es) k u new all = insert_step (R k e.0) k u e es (insert_entry R es k u) new all.0 all.1 (all_insert R es k u new all.1)

  kept_step : (b : Bool) (e : List ℕ × Stored) (fs : Tables) → P e.1 → AllHave fs → AllHave (cond b (e ∷ fs) fs)
  kept_step true e fs one more = (one, more)
  kept_step false e fs one more = more

  pub all_kept : (s : Tables) → AllHave s → AllHave (filter is_created s)
  all_kept [] all = tt
  all_kept (e ∷ es) all = kept_step e.1.is_created e (filter is_created es) all.0 (all_kept es all.1)

-- ---- the pages stay

pub pages_stay_themselves : (s : Tables) → PagesStay s s
pages_stay_themselves s = record { stand = λ file h. h; inside = λ size h. h; apart = λ from end h. h }

pub and_stay : (s t u : Tables) → PagesStay s t → PagesStay t u → PagesStay s u
and_stay s t u one two = record {
  stand = λ file h. two.stand file (one.stand file h);
  inside = λ size h. two.inside size (one.inside size h);
  apart = λ from end h. two.apart from end (one.apart from end h);
}

pub pages_set : (q : List ℕ) (s : Tables) (t u : Stored) → named s q ≡ Some t → KeepsPages t u → PagesStay s (set_value (by_key q) s u)
pages_set q s t u at keeps = record {
  stand = λ file h. all_set (IsOnPages file) (by_key q) s u (same_on_pages file t u keeps (all_found (IsOnPages file) (by_key q) s t at h)) h;
  inside = λ size h. all_set (LiesInside size) (by_key q) s u (same_inside size t u keeps (all_found (LiesInside size) (by_key q) s t at h)) h;
  apart = λ from end h. all_set (LiesOutside from end) (by_key q) s u (same_outside from end t u keeps (all_found (LiesOutside from end) (by_key q) s t at h)) h;
}

-- a table without pages
pub record IsBare (t : Stored) : Type 0 where
  pub places : t.places ≡ record { at = 0; keys = [] }
  pub base : t.base ≡ []

bare_on_pages : (file : List ℕ) (t : Stored) → IsBare t → IsOnPages file t
unfolding IsStrictlySortedBy
bare_on_pages file t bare = record {
  pages = [];
  stand = subst (λ (p : Places). StandAt (row_form t.schema) p [] file) (sym bare.places) (record { stand = tt; some = tt; first = refl; order = tt });
  rows = bare.base;
}

bare_inside : (size : ℕ) (t : Stored) → IsBare t → LiesInside size t
bare_inside size t bare =
    let none : 0 + 8192 * 0 ≤ size = omega arith in
    subst (λ (p : Places). p.at + 8192 * length p.keys ≤ size) (sym bare.places) none

bare_outside : (from end : ℕ) (t : Stored) → IsBare t → LiesOutside from end t
bare_outside from end t bare = inl (bare_inside from t bare)

pub pages_added : (q : List ℕ) (s : Tables) (t : Stored) → IsBare t → PagesStay s (insert_entry by_bytes s q t)
pages_added q s t bare = record {
  stand = λ file h. all_insert (IsOnPages file) by_bytes s q t (bare_on_pages file t bare) h;
  inside = λ size h. all_insert (LiesInside size) by_bytes s q t (bare_inside size t bare) h;
  apart = λ from end h. all_insert (LiesOutside from end) by_bytes s q t (bare_outside from end t bare) h;
}

pub pages_kept : (s : Tables) → PagesStay s (filter is_created s)
pages_kept s = record {
  stand = λ file h. all_kept (IsOnPages file) s h;
  inside = λ size h. all_kept (LiesInside size) s h;
  apart = λ from end h. all_kept (LiesOutside from end) s h;
}
