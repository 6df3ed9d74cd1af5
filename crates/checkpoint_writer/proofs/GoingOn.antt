-- What is left of a table that is merged.
use Rattle.std.proofs.Common.{◌≡◌, ℕ, List, [], ◌∷◌, ◌++◌, ap, subst, ◌∙◌, refl}
use Rattle.std.specs.List.{AllByRecursion}
use Rattle.row_pages.specs.Laying.{IsShort}
use Rattle.key_map.specs.Merging.{Rows}
use Rattle.table_map.specs.Cursor.{GoesOn}
use Rattle.table_map.specs.Keyed.{keyed_rows}
use Rattle.table_map.specs.Table.{without_keys}
use Rattle.table_map.specs.Whole.{GoesBehind}
use Rattle.table_map.specs.declared.cursor.RowCursor.{RowCursor}
use Rattle.checkpoint_writer.specs.Steps.{LeavesBehind}

without_keyed : (key_of : List ℕ → List ℕ) (rows : List (List ℕ)) (more : Rows) → without_keys (keyed_rows key_of rows ++ more) ≡ rows ++ without_keys more
without_keyed key_of [] more = refl
without_keyed key_of (row ∷ rows) more = ap (λ (l : List (List ℕ)). row ∷ l) (without_keyed key_of rows more)

-- a page was given
pub page_left : (key_of : List ℕ → List ℕ) (file : List ℕ) (left : Rows) (rows : List (List ℕ)) (cursor : RowCursor) → GoesBehind key_of file left rows cursor → LeavesBehind key_of file left rows cursor
page_left key_of file left rows cursor goes = record { more = goes.more; same = ap without_keys goes.same ∙ without_keyed key_of rows goes.more; is = goes.is }

-- a row was
pub row_left : (key_of : List ℕ → List ℕ) (file : List ℕ) (left : Rows) (row : List ℕ) (cursor : RowCursor) → GoesOn key_of file left row cursor → LeavesBehind key_of file left (row ∷ []) cursor
row_left key_of file left row cursor goes = record { more = goes.more; same = ap without_keys goes.same; is = goes.is }

-- where all rows that are left are short, the first is
pub first_short : (key_of : List ℕ → List ℕ) (file : List ℕ) (left : Rows) (row : List ℕ) (cursor : RowCursor) → GoesOn key_of file left row cursor → AllByRecursion IsShort (without_keys left) → IsShort row
first_short key_of file left row cursor goes short = (subst (λ (l : Rows). AllByRecursion IsShort (without_keys l)) goes.same short).0

-- what was given of a file is given of the same one
pub same_left : (key_of : List ℕ → List ℕ) (old new : List ℕ) (left : Rows) (rows : List (List ℕ)) (cursor : RowCursor) → new ≡ old → LeavesBehind key_of new left rows cursor → LeavesBehind key_of old left rows cursor
same_left key_of old new left rows cursor same goes = subst (λ (f : List ℕ). LeavesBehind key_of f left rows cursor) same goes
