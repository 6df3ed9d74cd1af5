-- Pages that were judged one by one, and lie one behind another, are rows in order.
use Rattle.std.proofs.Common.{◌≡◌, ℕ, zero, suc, ◌+◌, ◌-◌, ◌<◌, Bool, true, false, true≢false, List, [], ◌∷◌, ◌++◌, length, map, Option, Some, None, refl, sym, ap, ◌∙◌, subst, append-nil, arith, Ordering, Less, Equal, Greater}
use Rattle.std.specs.List.{AllByRecursion, list_all, slice_get}
use Rattle.std.specs.List.Sorted.{IsStrictlySortedBy}
use Rattle.std.specs.Map.{keys_of}
use Rattle.std.specs.Ordering.{is_gt}
use Rattle.std.proofs.lemmas.Cmp.{nat_list_cmp_total}
use Rattle.std.proofs.lemmas.Map.Keys.{sorted_head, sorted_tail}
use Rattle.std.proofs.lemmas.Map.Lookups.{exact_bytes}
use Rattle.drda_words.specs.Bytes.{AreBytes}
use Rattle.drda_words.specs.Order.{rises}
use Rattle.key_map.specs.Slots.{by_bytes}
use Rattle.key_map.specs.Merging.{Above, Changes, InOrder, Rows, merged}
use Rattle.key_map.specs.Overlay.{change_of}
use Rattle.row_values.specs.Key.{key_cmp, row_key}
use Rattle.row_values.specs.Row.{is_row}
use Rattle.row_values.specs.Schema.{Schema}
use Rattle.row_values.proofs.ValueLaws.{both_true, first_true, second_true}
use Rattle.table_map.specs.Judged.{ComesBefore, IsScanned, PassesJudged, RiseByKeys}
use Rattle.table_map.specs.Keyed.{keyed_rows}
use Rattle.table_map.specs.Passing.{Passes}
use Rattle.table_map.specs.Table.{without_keys}
use Rattle.table_map.proofs.Going.{all_above, mirrored}
use Rattle.table_map.proofs.Passed.{both_pass, none_passes}

-- less than one that another does not come before is less than that
less_step : (a b c : List ℕ) (o : Ordering) → by_bytes a b ≡ Less → by_bytes b c ≡ o → (o ≡ Greater → ⊥) → by_bytes a c ≡ Less
less_step a b c Less lt is not = nat_list_cmp_total.trans a b c lt is
less_step a b c Equal lt is not = subst (λ (k : List ℕ). by_bytes a k ≡ Less) (exact_bytes b c is) lt
less_step a b c Greater lt is not = absurd (not refl)

less_then : (a b c : List ℕ) → by_bytes a b ≡ Less → (by_bytes b c ≡ Greater → ⊥) → by_bytes a c ≡ Less
less_then a b c lt not = less_step a b c (by_bytes b c) lt refl not

all_rows : (p : List ℕ → Bool) (a b : List (List ℕ)) → list_all p a ≡ true → list_all p b ≡ true → list_all p (a ++ b) ≡ true
all_rows p [] b one two = two
all_rows p (x ∷ a) b one two = both_true (p x) (list_all p (a ++ b)) (first_true (p x) (list_all p a) one) (all_rows p a b (second_true (p x) (list_all p a) one) two)

all_bytes : (a b : List (List ℕ)) → AllByRecursion AreBytes a → AllByRecursion AreBytes b → AllByRecursion AreBytes (a ++ b)
all_bytes [] b one two = two
all_bytes (x ∷ a) b one two = (one.0, all_bytes a b one.1 two)

module _ (key_of : List ℕ → List ℕ) where
  -- the keys of all rows come before this one
  abbrev Below : List ℕ → List (List ℕ) → Type 0
  Below end rows = AllByRecursion (λ (row : List ℕ). by_bytes (key_of row) end ≡ Less) rows

  abbrev pub AllBefore : Option (List ℕ) → List (List ℕ) → Type 0
  AllBefore None rows = Unit {0}
  AllBefore (Some end) rows = Below end rows

  -- the last one does, and so do all
  below_at : (rows : List (List ℕ)) (i : ℕ) (row end : List ℕ) → i + 1 ≡ length rows → InOrder (keyed_rows key_of rows) → slice_get rows i ≡ Some row → by_bytes (key_of row) end ≡ Less → Below end rows
  below_at [] i row end n up at lt = absurd (omega (arith, n))
  below_at (r ∷ []) zero row end n up at lt = let same : r ≡ row = cc in (subst (λ (x : List ℕ). by_bytes (key_of x) end ≡ Less) (sym same) lt, tt)
  below_at (r ∷ []) (suc i) row end n up at lt = absurd (omega (arith, n))
  below_at (r ∷ s ∷ rows) zero row end n up at lt = absurd (omega (arith, n))
  below_at (r ∷ s ∷ rows) (suc i) row end n up at lt =
      let more = below_at (s ∷ rows) i row end (omega (arith, n)) (sorted_tail by_bytes (key_of r) (keys_of (keyed_rows key_of (s ∷ rows))) up) at lt in
      let next = sorted_head by_bytes (key_of r) (keys_of (keyed_rows key_of (s ∷ rows))) up in
      (nat_list_cmp_total.trans (key_of r) (key_of s) end next.0 more.0, more)

  last_at : (rows : List (List ℕ)) → 0 < length rows → (row : List ℕ) × (slice_get rows (length rows - 1) ≡ Some row)
  last_at rows some = at (length rows - 1) rows (omega (arith, some))
    where
      at : (i : ℕ) (l : List (List ℕ)) → i < length l → (row : List ℕ) × (slice_get l i ≡ Some row)
      at i [] lt = absurd (omega (arith, lt))
      at zero (x ∷ l) lt = (x, refl)
      at (suc i) (x ∷ l) lt = at i l (omega (arith, lt))

  pub page_before : (end : Option (List ℕ)) (page : List (List ℕ)) → 0 < length page → InOrder (keyed_rows key_of page) → ((row : List ℕ) → slice_get page (length page - 1) ≡ Some row → ComesBefore (key_of row) end) → AllBefore end page
  page_before None page some up last = tt
  page_before (Some end) page some up last = let row = last_at page some in below_at page (length page - 1) row.0 end (omega (arith, some)) up row.1 (last row.0 row.1)

  -- what was compared is the first row, and the last one
  pub first_is : (low : List ℕ) (rows : List (List ℕ)) (row : List ℕ) (o : Ordering) → slice_get rows 0 ≡ Some row → o ≡ by_bytes low (key_of row) → is_gt o ≡ false → (r : List ℕ) → slice_get rows 0 ≡ Some r → by_bytes low (key_of r) ≡ Greater → ⊥
  first_is low rows row o at is not r other greater =
      let same : row ≡ r = cc in
      let more : o ≡ Greater = is ∙ ap (λ (x : List ℕ). by_bytes low (key_of x)) same ∙ greater in
      true≢false (sym (ap is_gt more) ∙ not)

  greater_is : (o : Ordering) → is_gt o ≡ true → o ≡ Greater
  greater_is Less h = absurd cc
  greater_is Equal h = absurd cc
  greater_is Greater h = refl

  pub last_is : (end : List ℕ) (rows : List (List ℕ)) (n : ℕ) (row : List ℕ) (o : Ordering) → slice_get rows (n - 1) ≡ Some row → n ≡ length rows → o ≡ by_bytes end (key_of row) → is_gt o ≡ true → (r : List ℕ) → slice_get rows (length rows - 1) ≡ Some r → by_bytes (key_of r) end ≡ Less
  last_is end rows n row o at count is more r other =
      let here : slice_get rows (length rows - 1) ≡ Some row = ap (λ k. slice_get rows (k - 1)) (sym count) ∙ at in
      let same : row ≡ r = cc in
      mirrored end (key_of r) (ap (λ (x : List ℕ). by_bytes end (key_of x)) (sym same) ∙ sym is ∙ greater_is o more)

  -- rows that come before the first of a page come before an end that its rows come before
  base_before : (end : Option (List ℕ)) (low : List ℕ) (base page : List (List ℕ)) → 0 < length page → ((row : List ℕ) → slice_get page 0 ≡ Some row → by_bytes low (key_of row) ≡ Greater → ⊥) → Below low base → AllBefore end page → AllBefore end (base ++ page)
  base_before None low base page some first below ends = tt
  base_before (Some end) low [] page some first below ends = ends
  base_before (Some end) low (x ∷ base) [] some first below ends = absurd (omega (arith, some))
  base_before (Some end) low (x ∷ base) (r ∷ page) some first below ends = (
    nat_list_cmp_total.trans (key_of x) (key_of r) end (less_then (key_of x) low (key_of r) below.0 (first r refl)) ends.0,
    base_before (Some end) low base (r ∷ page) some first below.1 ends,
  )

  above_both : (key : List ℕ) (base page : List (List ℕ)) → Above key (keyed_rows key_of base) → Above key (keyed_rows key_of page) → Above key (keyed_rows key_of (base ++ page))
  above_both key [] page a b = b
  above_both key (x ∷ base) page a b = (a.0, above_both key base page a.1 b)

  above_page : (key low : List ℕ) (page : List (List ℕ)) → by_bytes key low ≡ Less → ((row : List ℕ) → slice_get page 0 ≡ Some row → by_bytes low (key_of row) ≡ Greater → ⊥) → InOrder (keyed_rows key_of page) → Above key (keyed_rows key_of page)
  above_page key low [] lt first up = tt
  above_page key low (r ∷ page) lt first up = all_above key (key_of r) r (keyed_rows key_of page) (less_then key low (key_of r) lt (first r refl)) up

  order_both : (low : List ℕ) (base page : List (List ℕ)) → InOrder (keyed_rows key_of base) → Below low base → InOrder (keyed_rows key_of page) → ((row : List ℕ) → slice_get page 0 ≡ Some row → by_bytes low (key_of row) ≡ Greater → ⊥)
      → InOrder (keyed_rows key_of (base ++ page))
  unfolding IsStrictlySortedBy
  order_both low [] page up below more first = more
  order_both low (x ∷ base) page up below more first = (
    above_both (key_of x) base page (sorted_head by_bytes (key_of x) (keys_of (keyed_rows key_of base)) up) (above_page (key_of x) low page below.0 first more),
    order_both low base page (sorted_tail by_bytes (key_of x) (keys_of (keyed_rows key_of base)) up) below.1 more first,
  )

  -- rows of the schema in order, which come before an end, were put behind others, with changes among them
  pub record IsJoined (schema : Schema) (end : Option (List ℕ)) (from to : Rows) (old new : List (List ℕ)) : Type 0 where
    pub base : List (List ℕ)
    pub order : InOrder (keyed_rows key_of base)
    pub rows : list_all (is_row schema) base ≡ true
    pub bytes : AllByRecursion AreBytes base
    pub before : AllBefore end base
    pub passes : Passes key_of base from to old new

  none_before : (end : Option (List ℕ)) → AllBefore end []
  none_before None = tt
  none_before (Some end) = tt

  pub none_joined : (schema : Schema) (end : Option (List ℕ)) (changes : Rows) (old : List (List ℕ)) → IsJoined schema end changes changes old old
  unfolding IsStrictlySortedBy
  none_joined schema end changes old = record { base = []; order = tt; rows = refl; bytes = tt; before = none_before end; passes = none_passes key_of changes old }

  pub page_joined : (schema : Schema) → RiseByKeys key_of schema → (low : List ℕ) (end : Option (List ℕ)) (from mid to : Rows) (old between new : List (List ℕ)) → IsJoined schema (Some low) from mid old between → PassesJudged key_of schema low end mid to between new
      → IsJoined schema end from to old new
  page_joined schema rise low end from mid to old between new so page =
      let up = rise page.page page.judged in
      record {
        base = so.base ++ page.page;
        order = order_both low so.base page.page so.order so.before up page.within.first;
        rows = all_rows (is_row schema) so.base page.page so.rows (first_true (list_all (is_row schema) page.page) (rises (key_cmp schema) (map (row_key schema) page.page)) page.judged.rise);
        bytes = all_bytes so.base page.page so.bytes page.judged.bytes;
        before = base_before end low so.base page.page page.some page.within.first so.before (page_before end page.page page.some up page.within.last);
        passes = both_pass key_of so.base page.page from mid to old between new so.passes page.passes;
      }

  -- all changes are among them
  pub all_joined : (schema : Schema) (end : Option (List ℕ)) (changes : Changes) (from to : Rows) (old between new : List (List ℕ)) → map change_of from ≡ changes → InOrder changes → IsJoined schema end from to old between
      → (InOrder (map change_of to) → new ≡ between ++ without_keys (merged [] (map change_of to))) → IsScanned key_of schema changes old new
  all_joined schema end changes from to old between new all up so last =
      let rising = subst (λ (l : Changes). InOrder l) (sym all) up in
      let none = append-nil (keyed_rows key_of so.base) in
      let passed = so.passes.same [] (subst (λ (l : Rows). InOrder l) (sym none) so.order) rising in
      record {
        base = so.base;
        order = so.order;
        rows = so.rows;
        bytes = so.bytes;
        rising = up;
        same =
            last (so.passes.rising rising)
            ∙ sym passed
            ∙ ap (λ (l : Rows). old ++ without_keys (merged l (map change_of from))) none
            ∙ ap (λ (l : Changes). old ++ without_keys (merged (keyed_rows key_of so.base) l)) all;
      }
