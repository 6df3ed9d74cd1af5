-- How many rows of a table are counted.
use Rattle.std.proofs.Common.{◌≡◌, ℕ, suc, ◌+◌, ◌-◌, ◌^◌, ◌<◌, List, [], ◌∷◌, refl, sym, ap, ◌∙◌, subst, arith, length, min}
use Rattle.key_map.specs.Merging.{Rows}
use Rattle.row_pages.specs.Laying.{counted}
use Rattle.table_map.specs.Cursor.{IsLeft, GoesOn}
use Rattle.table_map.specs.Table.{without_keys}
use Rattle.table_map.specs.declared.cursor.RowCursor.{RowCursor}

-- with the rows that are left, what is counted is all
pub record IsCounting (key_of : List ℕ → List ℕ) (file : List ℕ) (cursor : RowCursor) (count : ℕ) (all : List (List ℕ)) : Type 0 where
  pub left : Rows
  pub is : IsLeft key_of file cursor left
  pub same : counted (count + length (without_keys left)) ≡ counted (length all)

-- a count that stops, of one more
pub step : (count more rest all : ℕ) → more ≡ min (count + 1) (2 ^ 64 - 1) → counted (count + suc rest) ≡ all → counted (more + rest) ≡ all
step count more rest all is same = omega (arith, is, same)

pub ended : (count rest all : ℕ) → count < 2 ^ 64 → rest ≡ 0 → counted (count + rest) ≡ all → count ≡ all
ended count rest all small none same = omega (arith, small, none, same)

module _ (key_of : List ℕ → List ℕ) (file : List ℕ) (all : List (List ℕ)) where
  pub one_counted : (old new : RowCursor) (count more : ℕ) (row : List ℕ) (held : IsCounting key_of file old count all) → GoesOn key_of file held.left row new → more ≡ min (count + 1) (2 ^ 64 - 1) → IsCounting key_of file new more all
  one_counted old new count more row held goes is = record {
    left = goes.more;
    is = goes.is;
    same = step count more (length (without_keys goes.more)) (counted (length all)) is (sym (ap (λ (l : Rows). counted (count + length (without_keys l))) goes.same) ∙ held.same);
  }

  pub all_counted : (cursor : RowCursor) (count : ℕ) (held : IsCounting key_of file cursor count all) → count < 2 ^ 64 → held.left ≡ [] → count ≡ counted (length all)
  all_counted cursor count held small none = ended count (length (without_keys held.left)) (counted (length all)) small (ap (λ (l : Rows). length (without_keys l)) none) held.same
