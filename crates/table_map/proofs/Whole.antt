-- Pages that are given whole.
use Rattle.std.proofs.Common.{◌≡◌, ℕ, ◌-◌, ◌<◌, List, [], ◌∷◌, ◌++◌, length, map, Option, Some, None, refl, sym, ap, ◌∙◌, subst, arith, Less, Greater}
use Rattle.std.specs.List.{AllByRecursion, slice_get}
use Rattle.std.specs.Ordering.{ordering_reverse}
use Rattle.std.specs.Cmp.Lexicographic.{nat_list_cmp_total}
use Rattle.row_pages.specs.Laying.{rows_over}
use Rattle.row_pages.specs.Page.{Page}
use Rattle.key_map.specs.Slots.{by_bytes}
use Rattle.key_map.specs.Merging.{InOrder, RowFirst, Rows, merged}
use Rattle.key_map.specs.Overlay.{change_of}
use Rattle.table_map.specs.Cursor.{IsLeft}
use Rattle.table_map.specs.Keyed.{keyed_rows}
use Rattle.table_map.specs.Passing.{order_to}
use Rattle.table_map.specs.Walk.{PagesLeft, TakesPage}
use Rattle.table_map.specs.Whole.{GivesPage, StandsApart, TakesMore}
use Rattle.table_map.specs.declared.cursor.RowCursor.{RowCursor}
use Rattle.table_map.proofs.Found.{behind_order, front_order, keyed_append}
use Rattle.table_map.proofs.Going.{mirrored}
use Rattle.table_map.proofs.Joined.{page_before}
use Rattle.table_map.proofs.Passed.{above_row}

turned : (a b : List ℕ) → by_bytes a b ≡ Less → by_bytes b a ≡ Greater
turned a b less = nat_list_cmp_total.antisymm b a ∙ ap ordering_reverse less

module _ (key_of : List ℕ → List ℕ) where
  -- without changes, and where the first comes behind the last row, no change comes before a row or in its place
  none_before : (rows : List (List ℕ)) → AllByRecursion (λ (row : List ℕ). order_to (key_of row) [] ≡ Greater) rows
  none_before [] = tt
  none_before (row ∷ rows) = (refl, none_before rows)

  all_turned : (e : List ℕ × List ℕ) (es : Rows) (rows : List (List ℕ)) → AllByRecursion (λ (row : List ℕ). by_bytes (key_of row) e.0 ≡ Less) rows → AllByRecursion (λ (row : List ℕ). order_to (key_of row) (e ∷ es) ≡ Greater) rows
  all_turned e es [] all = tt
  all_turned e es (row ∷ rows) all = (turned (key_of row) e.0 all.0, all_turned e es rows all.1)

  all_before : (changes : Rows) (rows : List (List ℕ)) → 0 < length rows → InOrder (keyed_rows key_of rows) → ((row : List ℕ) → slice_get rows (length rows - 1) ≡ Some row → order_to (key_of row) changes ≡ Greater)
      → AllByRecursion (λ (row : List ℕ). order_to (key_of row) changes ≡ Greater) rows
  all_before [] rows some up last = none_before rows
  all_before (e ∷ es) rows some up last = all_turned e es rows (page_before key_of (Some e.0) rows some up (λ row at. mirrored e.0 (key_of row) (last row at)))

  rows_first : RowFirst → (rows : List (List ℕ)) (rest changes : Rows) → AllByRecursion (λ (row : List ℕ). order_to (key_of row) changes ≡ Greater) rows → InOrder (map change_of changes)
      → merged (keyed_rows key_of rows ++ rest) (map change_of changes) ≡ keyed_rows key_of rows ++ merged rest (map change_of changes)
  rows_first law [] rest changes all up = refl
  rows_first law (row ∷ rows) rest changes all up =
      law (key_of row, row) (keyed_rows key_of rows ++ rest) (map change_of changes) (above_row key_of row changes all.0 up)
      ∙ ap (λ (l : Rows). (key_of row, row) ∷ l) (rows_first law rows rest changes all.1 up)

  some_rows : (room : ℕ) (rows : List (List ℕ)) → TakesMore room rows → 0 < length rows
  some_rows room [] more = absurd more
  some_rows room (row ∷ rows) more = omega arith

  pub page_given : RowFirst → (file : List ℕ) (room : ℕ) (cursor : RowCursor) (left : Rows) → IsLeft key_of file cursor left → StandsApart key_of room cursor.base.rows cursor.changes
      → (page : Option Page) (new : PagesLeft) → TakesPage cursor.base page new → GivesPage key_of file left page (record { base = new; changes = cursor.changes })
  page_given law file room cursor left held apart None new takes = subst (λ (b : PagesLeft). IsLeft key_of file (record { base = b; changes = cursor.changes }) left) (sym takes) held
  page_given law file room cursor left held apart (Some page) new takes =
      let rows = cursor.base.rows in
      let rest = keyed_rows key_of (rows_over held.pages) in
      let joined : keyed_rows key_of (rows ++ rows_over held.pages) ≡ keyed_rows key_of rows ++ rest = keyed_append key_of [] rows (rows_over held.pages) in
      let order : InOrder (keyed_rows key_of rows ++ rest) = subst (λ (l : Rows). InOrder l) joined held.order in
      let before = all_before cursor.changes rows (some_rows room rows apart.first) (front_order (keyed_rows key_of rows) rest order) apart.last in
      let more = merged rest (map change_of cursor.changes) in
      record {
        more = more;
        same =
            held.same
            ∙ ap (λ (l : Rows). merged l (map change_of cursor.changes)) joined
            ∙ rows_first law rows rest cursor.changes before held.rising
            ∙ ap (λ (l : List (List ℕ)). keyed_rows key_of l ++ more) takes.0;
        is = subst (λ (b : PagesLeft). IsLeft key_of file (record { base = b; changes = cursor.changes }) more) (sym takes.1)
            (record { pages = held.pages; stand = held.stand; many = held.many; order = behind_order (keyed_rows key_of rows) rest order; rising = held.rising; same = refl });
      }
