-- How far a cursor has come.
use Rattle.std.proofs.Common.{◌≡◌, ℕ, List, [], ◌∷◌, length, sym, ap, subst, ◌∙◌}
use Rattle.std.specs.List.{AllByRecursion}
use Rattle.row_pages.specs.Laying.{Count, IsShort, counted, laid, pages_with}
use Rattle.key_map.specs.Merging.{Rows}
use Rattle.table_map.specs.Table.{without_keys}
use Rattle.table_map.specs.Cursor.{IsLeft, GoesOn}
use Rattle.table_map.specs.declared.cursor.RowCursor.{RowCursor}

-- with those that are left there are as many pages as all take, and where all are short they are
pub record IsCounted (key_of : List ℕ → List ℕ) (file : List ℕ) (cursor : RowCursor) (count : Count) (all : List (List ℕ)) : Type 0 where
  pub left : Rows
  pub is : IsLeft key_of file cursor left
  pub same : pages_with count (without_keys left) ≡ counted (length (laid all))
  pub short : AllByRecursion IsShort all → AllByRecursion IsShort (without_keys left)

module _ (key_of : List ℕ → List ℕ) (file : List ℕ) where
  pub one_counted : (old new : RowCursor) (count more : Count) (all : List (List ℕ)) (row : List ℕ) (held : IsCounted key_of file old count all) → GoesOn key_of file held.left row new
      → ((rows : List (List ℕ)) → pages_with more rows ≡ pages_with count (row ∷ rows)) → IsCounted key_of file new more all
  one_counted old new count more all row held goes is =
      record {
        left = goes.more;
        is = goes.is;
        same = is (without_keys goes.more) ∙ ap (λ (l : Rows). pages_with count (without_keys l)) (sym goes.same) ∙ held.same;
        short = λ short. (subst (λ (l : Rows). AllByRecursion IsShort (without_keys l)) goes.same (held.short short)).1;
      }

  -- where all rows are short, one that is given is
  pub one_short : (old new : RowCursor) (count : Count) (all : List (List ℕ)) (row : List ℕ) (held : IsCounted key_of file old count all) → GoesOn key_of file held.left row new → AllByRecursion IsShort all → IsShort row
  one_short old new count all row held goes short = (subst (λ (l : Rows). AllByRecursion IsShort (without_keys l)) goes.same (held.short short)).0

  pub all_counted : (cursor : RowCursor) (count : Count) (all : List (List ℕ)) (held : IsCounted key_of file cursor count all) → held.left ≡ [] → pages_with count [] ≡ counted (length (laid all))
  all_counted cursor count all held none = ap (λ (l : Rows). pages_with count (without_keys l)) (sym none) ∙ held.same
