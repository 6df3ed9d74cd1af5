-- Tables that were checked, and where they lie.
use Rattle.std.proofs.Common.{◌≡◌, ℕ, ◌≤◌, List, [], ◌∷◌, sym, subst, arith}
use Rattle.std.specs.List.{AllByRecursion}
use Rattle.table_map.specs.Stored.{IsStored, Places}
use Rattle.checkpoint_writer.specs.Catalogue.{Entry}
use Rattle.store_check.specs.Checkpoint.{forms}
use Rattle.store_check.specs.Half.{IsTable, LiesBelow, TableRows, page_at, placed, told_of}
use Rattle.store_check.specs.Whole.{WholeIsStored}
use Rattle.store_check.specs.declared.half.CheckedTable.{CheckedTable}

-- its pages stand where its map has them
pub stored_there : WholeIsStored → (file : List ℕ) (first : ℕ) (c : CheckedTable) (t : TableRows) → told_of c ≡ placed forms first t → IsTable forms file first t → IsStored (forms c.table.schema) c.pages.pages t.pages file
stored_there law file first c t told is =
    subst (λ (p : Entry × Places). IsStored (forms p.0.schema) p.1 t.pages file) (sym told) (law t.entry.schema (forms t.entry.schema) file (page_at first t.entry.first_page) t.entry.pages t.pages is)

-- ---- where tables lie

pub lie_below : (m n : ℕ) → m ≤ n → (cs : List CheckedTable) → AllByRecursion (LiesBelow m) cs → AllByRecursion (LiesBelow n) cs
lie_below m n le [] all = tt
lie_below m n le (c ∷ cs) all = (omega (arith, le, all.0), lie_below m n le cs all.1)
