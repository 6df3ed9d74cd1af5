-- Rows that are judged one behind another are rows of the schema whose keys rise.
use Rattle.std.proofs.Common.{◌≡◌, ◌+◌, ℕ, zero, suc, List, [], ◌∷◌, Bool, true, false, ◌&&◌, refl, sym, ap, ◌∙◌, drop, map, Option, Some, None, Ordering, Less, Equal, Greater}
use Rattle.std.specs.List.{list_all, slice_get}
use Rattle.std.specs.Cmp.{IsTotalOrder}
use Rattle.std.specs.Ordering.{is_lt}
use Rattle.drda_words.specs.Order.{rises}
use Rattle.row_values.specs.Key.{key_cmp, row_key}
use Rattle.row_values.specs.Row.{is_row}
use Rattle.row_values.specs.Schema.{Schema}
use Rattle.row_values.proofs.KeyOrder.{key_cmp_total}
use Rattle.row_values.proofs.ReadSteps.{drop_at}
use Rattle.row_values.proofs.ValueLaws.{both_true, first_true, second_true}
use Rattle.row_pages.specs.Judging.{AreJudged, do_rise, go_on, is_behind}

pub less_is : (o : Ordering) → is_lt o ≡ true → o ≡ Less
less_is Less h = refl
less_is Equal h = absurd cc
less_is Greater h = absurd cc

-- a key comes before all of a list
abbrev before_all : (List ℕ → List ℕ → Ordering) → List ℕ → List (List ℕ) → Bool
before_all R k ks = list_all (λ later. is_lt (R k later)) ks

before_trans : (R : List ℕ → List ℕ → Ordering) → IsTotalOrder R → (a b : List ℕ) (ks : List (List ℕ)) → R a b ≡ Less → before_all R b ks ≡ true → before_all R a ks ≡ true
before_trans R o a b [] lt h = refl
before_trans R o a b (k ∷ ks) lt h =
    both_true (is_lt (R a k)) (before_all R a ks) (ap is_lt (o.trans a b k lt (less_is (R b k) (first_true (is_lt (R b k)) (before_all R b ks) h)))) (before_trans R o a b ks lt (second_true (is_lt (R b k)) (before_all R b ks) h))

-- rows of the schema with rising keys, all of which come behind this row's
abbrev rise_behind : Schema → List ℕ → List (List ℕ) → Bool
rise_behind schema last rows = list_all (is_row schema) rows && (before_all (key_cmp schema) (row_key schema last) (map (row_key schema) rows) && rises (key_cmp schema) (map (row_key schema) rows))

-- a test that follows from two others is left out
one_less : (one rest next later all up : Bool) → (next ≡ true → later ≡ true → all ≡ true) → (one && (next && (rest && (later && up)))) ≡ ((one && rest) && ((next && all) && (later && up)))
one_less false rest next later all up h = refl
one_less true false false later all up h = refl
one_less true false true later all up h = refl
one_less true true false later all up h = refl
one_less true true true true true up h = refl
one_less true true true true false up h = absurd (let no = h refl refl in cc)
one_less true true true false true up h = refl
one_less true true true false false up h = refl

later_rise : (schema : Schema) (last : List ℕ) (rows : List (List ℕ)) → go_on schema (Some last) rows ≡ rise_behind schema last rows
later_rise schema last [] = refl
later_rise schema last (row ∷ rows) =
    let R = key_cmp schema in let before = row_key schema last in let key = row_key schema row in let keys = map (row_key schema) rows in
    ap (λ b. is_row schema row && (is_lt (R before key) && b)) (later_rise schema row rows)
    ∙ one_less (is_row schema row) (list_all (is_row schema) rows) (is_lt (R before key)) (before_all R key keys) (before_all R before keys) (rises R keys)
    (λ next later. before_trans R (key_cmp_total schema) before key keys (less_is (R before key) next) later)

joined : (a b c : Bool) → (a && (b && c)) ≡ ((a && b) && c)
joined true b c = refl
joined false b c = refl

pub all_rise : (schema : Schema) (rows : List (List ℕ)) → go_on schema None rows ≡ do_rise schema rows
all_rise schema [] = refl
all_rise schema (row ∷ rows) =
    let R = key_cmp schema in let key = row_key schema row in let keys = map (row_key schema) rows in
    ap (λ b. is_row schema row && b) (later_rise schema row rows) ∙ joined (is_row schema row) (list_all (is_row schema) rows) (before_all R key keys && rises R keys)

-- ---- from a place on

-- what was found of a row that was parsed
pub behind_is : (schema s : Schema) (last : Option (List ℕ)) (row r : List ℕ) → s ≡ schema → r ≡ row → is_behind s last r ≡ is_behind schema last row
behind_is schema s last row r schemas rows = ap (λ (t : Schema). is_behind t last r) schemas ∙ ap (is_behind schema last) rows

module _ (schema : Schema) (last : Option (List ℕ)) (rows : List (List ℕ)) (i : ℕ) (row : List ℕ) (at : slice_get rows i ≡ Some row) where
  step : (one next : Bool) → one ≡ is_row schema row → next ≡ is_behind schema last row → go_on schema last (drop i rows) ≡ (one && (next && go_on schema (Some row) (drop (i + 1) rows)))
  step one next is_one is_next =
      ap (go_on schema last) (drop_at rows i row at)
      ∙ ap (λ b. b && (is_behind schema last row && go_on schema (Some row) (drop (i + 1) rows))) (sym is_one)
      ∙ ap (λ b. one && (b && go_on schema (Some row) (drop (i + 1) rows))) (sym is_next)

  -- what stands there is no row
  pub no_row : (whole : Bool) → false ≡ is_row schema row → go_on schema last (drop i rows) ≡ whole → false ≡ whole
  no_row whole is_none so = sym (step false (is_behind schema last row) is_none refl) ∙ so

  -- the row there does not come behind the one before it
  pub not_behind : (whole : Bool) → true ≡ is_row schema row → false ≡ is_behind schema last row → go_on schema last (drop i rows) ≡ whole → false ≡ whole
  not_behind whole is_one not so = sym (step true false is_one not) ∙ so

  -- it does, and the others decide
  pub one_more : (whole : Bool) → true ≡ is_row schema row → true ≡ is_behind schema last row → go_on schema last (drop i rows) ≡ whole → go_on schema (Some row) (drop (i + 1) rows) ≡ whole
  one_more whole is_one next so = sym (step true true is_one next) ∙ so

-- ---- one of rows that were judged

all_at : (p : List ℕ → Bool) (rows : List (List ℕ)) (n : ℕ) (row : List ℕ) → list_all p rows ≡ true → slice_get rows n ≡ Some row → p row ≡ true
all_at p [] n row all at = absurd cc
all_at p (r ∷ rows) zero row all at = let same : r ≡ row = cc in ap p (sym same) ∙ first_true (p r) (list_all p rows) all
all_at p (r ∷ rows) (suc n) row all at = all_at p rows n row (second_true (p r) (list_all p rows) all) at

pub judged_row : (schema : Schema) (rows : List (List ℕ)) (n : ℕ) (row : List ℕ) → AreJudged schema rows → slice_get rows n ≡ Some row → is_row schema row ≡ true
judged_row schema rows n row judged at = all_at (is_row schema) rows n row (first_true (list_all (is_row schema) rows) (rises (key_cmp schema) (map (row_key schema) rows)) judged.rise) at
