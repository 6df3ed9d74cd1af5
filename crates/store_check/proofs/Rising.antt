-- Rows that go on one behind another.
use Rattle.std.proofs.Common.{◌≡◌, ℕ, true, false, ◌&&◌, List, [], ◌∷◌, ◌++◌, Option, Some, None, refl, ap, Ordering, Less, Equal, Greater}
use Rattle.std.specs.Prelude.{IfSome}
use Rattle.std.specs.Ordering.{match_ordering}
use Rattle.std.specs.List.{AllByRecursion}
use Rattle.std.specs.List.Sorted.{IsStrictlySortedBy}
use Rattle.std.specs.Map.{keys_of}
use Rattle.std.specs.Cmp.Lexicographic.{nat_list_cmp_total}
use Rattle.std.proofs.lemmas.Bool.{and_from, and_parts}
use Rattle.key_map.specs.Slots.{by_bytes}
use Rattle.row_values.specs.Schema.{Schema}
use Rattle.row_values.specs.Row.{is_row}
use Rattle.key_map.specs.Merging.{Above, InOrder}
use Rattle.key_map.proofs.Merged.{weaker}
use Rattle.table_map.specs.Keyed.{keyed_rows}
use Rattle.store_check.specs.Judging.{go_on, is_behind, last_key}

pub less_is : (o : Ordering) → match_ordering o true false false ≡ true → o ≡ Less
less_is Less is = refl
less_is Equal is = absurd cc
less_is Greater is = absurd cc

module _ (schema : Schema) (key_of : List ℕ → List ℕ) where
  -- what is known of the first row
  first_parts : (last : Option (List ℕ)) (row : List ℕ) (rows : List (List ℕ)) → go_on schema key_of last (row ∷ rows) ≡ true → (is_row schema row ≡ true) × (is_behind last (key_of row) ≡ true) × (go_on schema key_of (Some (key_of row)) rows ≡ true)
  first_parts last row rows good =
      let p = and_parts (is_row schema row) (is_behind last (key_of row) && go_on schema key_of (Some (key_of row)) rows) good in
      let q = and_parts (is_behind last (key_of row)) (go_on schema key_of (Some (key_of row)) rows) p.1 in
      (p.0, q.0, q.1)

  above : (k : List ℕ) (rows : List (List ℕ)) → go_on schema key_of (Some k) rows ≡ true → Above k (keyed_rows key_of rows)
  above k [] good = tt
  above k (row ∷ rows) good =
      let p = first_parts (Some k) row rows good in
      let less = less_is (by_bytes k (key_of row)) p.1 in
      (less, weaker (λ y. by_bytes (key_of row) y ≡ Less) (λ y. by_bytes k y ≡ Less) (keys_of (keyed_rows key_of rows)) (λ y lt. nat_list_cmp_total.trans k (key_of row) y less lt) (above (key_of row) rows p.2))

  -- rows that go on are in order
  pub in_order : (last : Option (List ℕ)) (rows : List (List ℕ)) → go_on schema key_of last rows ≡ true → InOrder (keyed_rows key_of rows)
  unfolding IsStrictlySortedBy
  in_order last [] good = tt
  in_order last (row ∷ rows) good =
      let p = first_parts last row rows good in
      (above (key_of row) rows p.2, in_order (Some (key_of row)) rows p.2)

  pub all_fit : (last : Option (List ℕ)) (rows : List (List ℕ)) → go_on schema key_of last rows ≡ true → AllByRecursion (λ row. is_row schema row ≡ true) rows
  all_fit last [] good = tt
  all_fit last (row ∷ rows) good =
      let p = first_parts last row rows good in
      (p.0, all_fit (Some (key_of row)) rows p.2)

  is_first : (last : Option (List ℕ)) (row : List ℕ) (rows : List (List ℕ)) → IfSome last (λ k. Above k (keyed_rows key_of (row ∷ rows))) → is_behind last (key_of row) ≡ true
  is_first None row rows up = refl
  is_first (Some k) row rows up = ap (λ (o : Ordering). match_ordering o true false false) up.0

  -- rows of the schema that are in order go on
  pub rising : (last : Option (List ℕ)) (rows : List (List ℕ)) → AllByRecursion (λ row. is_row schema row ≡ true) rows → InOrder (keyed_rows key_of rows) → IfSome last (λ k. Above k (keyed_rows key_of rows)) → go_on schema key_of last rows ≡ true
  unfolding IsStrictlySortedBy
  rising last [] fit order up = refl
  rising last (row ∷ rows) fit order up =
      and_from (is_row schema row) (is_behind last (key_of row) && go_on schema key_of (Some (key_of row)) rows) fit.0
      (and_from (is_behind last (key_of row)) (go_on schema key_of (Some (key_of row)) rows) (is_first last row rows up) (rising (Some (key_of row)) rows fit.1 order.1 order.0))

  -- ---- rows behind rows

  pub joined : (last : Option (List ℕ)) (rows more : List (List ℕ)) → go_on schema key_of last rows ≡ true → go_on schema key_of (last_key key_of last rows) more ≡ true → go_on schema key_of last (rows ++ more) ≡ true
  joined last [] more good then = then
  joined last (row ∷ rows) more good then =
      let p = first_parts last row rows good in
      and_from (is_row schema row) (is_behind last (key_of row) && go_on schema key_of (Some (key_of row)) (rows ++ more)) p.0
      (and_from (is_behind last (key_of row)) (go_on schema key_of (Some (key_of row)) (rows ++ more)) p.1 (joined (Some (key_of row)) rows more p.2 then))

  pub parted : (last : Option (List ℕ)) (rows more : List (List ℕ)) → go_on schema key_of last (rows ++ more) ≡ true → (go_on schema key_of last rows ≡ true) × (go_on schema key_of (last_key key_of last rows) more ≡ true)
  parted last [] more good = (refl, good)
  parted last (row ∷ rows) more good =
      let p = first_parts last row (rows ++ more) good in
      let q = parted (Some (key_of row)) rows more p.2 in
      (and_from (is_row schema row) (is_behind last (key_of row) && go_on schema key_of (Some (key_of row)) rows) p.0 (and_from (is_behind last (key_of row)) (go_on schema key_of (Some (key_of row)) rows) p.1 q.0), q.1)

pub last_joined : (key_of : List ℕ → List ℕ) (last : Option (List ℕ)) (rows more : List (List ℕ)) → last_key key_of last (rows ++ more) ≡ last_key key_of (last_key key_of last rows) more
last_joined key_of last [] more = refl
last_joined key_of last (row ∷ rows) more = last_joined key_of (Some (key_of row)) rows more
