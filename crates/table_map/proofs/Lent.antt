-- Rows that are lent by their numbers.
use Rattle.std.proofs.Common.{◌≡◌, ℕ, zero, suc, ◌<◌, false, List, [], ◌∷◌, Option, Some, None, length, drop, refl, sym, subst, arith}
use Rattle.std.specs.Prelude.{is_some}
use Rattle.std.specs.Borrow.{Bor}
use Rattle.std.specs.List.{slice_get}
use Rattle.key_map.specs.Merging.{Rows}
use Rattle.table_map.specs.Cursor.{FallsAt, FindsFirst, GivesFirst, GoesOnWith, row_found}
use Rattle.table_map.specs.Keyed.{seen}
use Rattle.table_map.specs.Walk.{GivesRow, IsFirstRow, PagesLeft, last_of}
use Rattle.table_map.specs.declared.cursor.Place.{Place}
use Rattle.table_map.specs.declared.cursor.RowCursor.{RowCursor}

-- ---- of a page

drop_some : (rows : List (List ℕ)) (n : ℕ) (row : List ℕ) → slice_get rows n ≡ Some row → drop n rows ≡ row ∷ drop (suc n) rows
drop_some [] n row is = absurd cc
drop_some (first ∷ rows) zero row is = cc
drop_some (first ∷ rows) (suc n) row is = drop_some rows n row is

drop_none : (rows : List (List ℕ)) (n : ℕ) → slice_get rows n ≡ None → drop n rows ≡ []
drop_none [] zero is = cc
drop_none [] (suc n) is = cc
drop_none (first ∷ rows) zero is = absurd cc
drop_none (first ∷ rows) (suc n) is = drop_none rows n is

-- the row of number n is the first behind n rows
pub first_row : (rows : List (List ℕ)) (n : ℕ) (row : Option (Bor (List ℕ))) → seen row ≡ slice_get rows n → IsFirstRow (drop n rows) row
first_row rows n None is = drop_none rows n (sym is)
first_row rows n (Some row) is = (drop (suc n) rows, drop_some rows n row.now (sym is))

-- without a first row none is left
pub none_first : (rows : List (List ℕ)) (row : Option (Bor (List ℕ))) → IsFirstRow rows row → is_some row ≡ false → rows ≡ []
none_first rows None first none = first
none_first rows (Some row) first none = absurd cc

-- what is left of a page behind n rows, and the last of these
abbrev pub behind : ℕ → ℕ → List (List ℕ) → ℕ → PagesLeft
behind at pages rows n = record { at = at; pages = pages; rows = drop n rows; last = last_of n rows }

one_given : (at pages : ℕ) (rows : List (List ℕ)) (n : ℕ) → n < length rows → GivesRow (drop n rows) (behind at pages rows (suc n))
one_given at pages [] n low = absurd (omega (arith, low))
one_given at pages (row ∷ rows) zero low = (refl, refl)
one_given at pages (row ∷ rows) (suc n) low = one_given at pages rows n (omega (arith, low))

pub gives_row : (at pages : ℕ) (rows : List (List ℕ)) (n next : ℕ) → next ≡ suc n → n < length rows → GivesRow (drop n rows) (behind at pages rows next)
gives_row at pages rows n next is low = subst (λ k. GivesRow (drop n rows) (behind at pages rows k)) (sym is) (one_given at pages rows n low)

-- ---- of a cursor

-- what is lent is the first of the rows that are left
pub lent_first : (key_of : List ℕ → List ℕ) (file : List ℕ) (left : Rows) (place : Option Place) (row : Option (Bor (List ℕ))) (cursor : RowCursor) → seen row ≡ row_found place cursor → FindsFirst key_of file left place cursor → GivesFirst key_of file left row cursor
lent_first key_of file left None None cursor is found = found
lent_first key_of file left None (Some row) cursor is found = absurd cc
lent_first key_of file left (Some at) None cursor is found = absurd (subst (λ (o : Option (List ℕ)). GoesOnWith key_of file left o cursor) (sym is) found)
lent_first key_of file left (Some at) (Some row) cursor is found = subst (λ (o : Option (List ℕ)). GoesOnWith key_of file left o cursor) (sym is) found

pub lent_falls : (place : Option Place) (row : Option (Bor (List ℕ))) (old cursor : RowCursor) → seen row ≡ row_found place cursor → FallsAt place old cursor → FallsAt row old cursor
lent_falls place None old cursor is falls = tt
lent_falls None (Some row) old cursor is falls = absurd cc
lent_falls (Some at) (Some row) old cursor is falls = falls
