-- Lists.
use Rattle.std.proofs.Common.{◌≡◌, ◌<◌, ◌≤◌, ◌-◌, List, [], ◌∷◌, Bool, true, false, ◌||◌, ◌&&◌, not, refl, sym, ap, ◌∙◌, map, length, take, drop, get_or, nat_le, arith}
use Rattle.std.proofs.lemmas.Bool.Decides.{nat_tests}
use Rattle.std.proofs.lemmas.List.{length-map, take_all}
use Rattle.std.specs.List.{list_all, list_any}
use Rattle.row_values.specs.declared.column.Column.{Column as CodeColumn}
use Rattle.row_values.specs.Column.{Column, column_of}
use Rattle.row_values.specs.Schema.{are_columns, is_column, no_repeat, same_name}

-- a list that is not empty is its first item and the others
pub uncons : {X : Type 0} (xs : List X) (x : X) → 0 < length xs → x ≡ get_or xs 0 x → xs ≡ x ∷ take (length xs - 1) (drop 1 xs)
uncons [] x some is = absurd (omega arith)
uncons (y ∷ ys) x some is =
    let count : length (y ∷ ys) - 1 ≡ length ys = omega arith in
    let rest : take (length (y ∷ ys) - 1) ys ≡ ys = take_all _ ys (omega arith) in
    ap (λ (l : List _). y ∷ l) (sym rest) ∙ ap (λ z. z ∷ take (length (y ∷ ys) - 1) ys) (sym is)

pub and_true : (a b : Bool) → a ≡ true → (a && b) ≡ b
and_true a b e = rw e refl

pub and_false : (a b : Bool) → a ≡ false → (a && b) ≡ a
and_false a b e = rw e refl

-- a test of columns is one of what they are
pub all_valid : (columns : List CodeColumn) → list_all (λ column. is_column (column_of column)) columns ≡ list_all is_column (map column_of columns)
all_valid [] = refl
all_valid (column ∷ columns) = ap (λ b. is_column (column_of column) && b) (all_valid columns)

pub any_named : (a : Column) (columns : List CodeColumn) → list_any (λ column. same_name a (column_of column)) columns ≡ list_any (same_name a) (map column_of columns)
any_named a [] = refl
any_named a (column ∷ columns) = ap (λ b. same_name a (column_of column) || b) (any_named a columns)

-- what the columns of a schema are, test by test
pub columns_are : (columns : List CodeColumn) → are_columns (map column_of columns) ≡ (nat_le (length columns) 64 && list_all (λ column. is_column (column_of column)) columns && no_repeat same_name (map column_of columns))
columns_are columns = rw (length-map, ← all_valid columns) refl

both : (a b c d e : Bool) → d ≡ (a && b && c) → a ≡ true → b ≡ true → e ≡ c → e ≡ d
both true true c d e is p q r = r ∙ sym is
both true false c d e is p q r = absurd cc
both false b c d e is p q r = absurd cc

no_first : (a b c d : Bool) → d ≡ (a && b && c) → a ≡ false → false ≡ d
no_first true b c d is p = absurd cc
no_first false b c d is p = sym is

no_second : (a b c d : Bool) → d ≡ (a && b && c) → b ≡ false → false ≡ d
no_second true true c d is p = absurd cc
no_second true false c d is p = sym is
no_second false b c d is p = sym is

pub many_columns : (columns : List CodeColumn) → 64 < length columns → false ≡ are_columns (map column_of columns)
many_columns columns many =
    let past : nat_le (length columns) 64 ≡ false = grind (arith, nat_tests) in
    no_first _ _ _ _ (columns_are columns) past

pub bad_columns : (columns : List CodeColumn) → list_all (λ column. is_column (column_of column)) columns ≡ false → false ≡ are_columns (map column_of columns)
bad_columns columns bad = no_second _ _ _ _ (columns_are columns) bad

pub good_columns : (columns : List CodeColumn) (b : Bool) → length columns ≤ 64 → list_all (λ column. is_column (column_of column)) columns ≡ true → b ≡ no_repeat same_name (map column_of columns) → b ≡ are_columns (map column_of columns)
good_columns columns b few good rest =
    let within : nat_le (length columns) 64 ≡ true = grind (arith, nat_tests) in
    both _ _ _ _ _ (columns_are columns) within good rest

-- the first column's name is not taken, and the others differ
pub names_step : (first : CodeColumn) (columns : List CodeColumn) → 0 < length columns → first ≡ get_or columns 0 first
    → no_repeat same_name (map column_of columns) ≡ (not (list_any (λ column. same_name (column_of first) (column_of column)) (take (length columns - 1) (drop 1 columns))) && no_repeat same_name (map column_of (take (length columns - 1) (drop 1 columns))))
names_step first columns some is =
    let rest = take (length columns - 1) (drop 1 columns) in
    ap (λ (l : List CodeColumn). no_repeat same_name (map column_of l)) (uncons columns first some is) ∙ ap (λ b. not b && no_repeat same_name (map column_of rest)) (sym (any_named (column_of first) rest))
