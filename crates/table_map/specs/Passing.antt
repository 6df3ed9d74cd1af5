-- Rows that are put behind others, with the changes in front of them or in their place.
use Rattle.std.specs.Prelude.{◌≡◌, ℕ, List, [], ◌∷◌, ◌++◌, Option, Some, None, map}
use Rattle.std.specs.Borrow.{Bor}
use Rattle.std.specs.declared.cmp.Ordering.{Ordering}
use Rattle.std.proofs.Common.{Greater}
use Rattle.key_map.specs.Slots.{by_bytes}
use Rattle.key_map.specs.Merging.{InOrder, Rows, merged}
use Rattle.key_map.specs.Overlay.{change_of, said}
use Rattle.table_map.specs.Keyed.{keyed_rows}
use Rattle.table_map.specs.Table.{without_keys}

-- These rows and the changes in front of them or in their place were put behind others: whatever rows come behind them,
-- what is to be put behind those that there were is what is to be put behind those that there are now.
pub record Passes (key_of : List ℕ → List ℕ) (rows : List (List ℕ)) (old_changes new_changes : Rows) (old new : List (List ℕ)) : Type 0 where
  pub same : (rest : Rows) → InOrder (keyed_rows key_of rows ++ rest) → InOrder (map change_of old_changes)
      → old ++ without_keys (merged (keyed_rows key_of rows ++ rest) (map change_of old_changes)) ≡ new ++ without_keys (merged rest (map change_of new_changes))
  pub rising : InOrder (map change_of old_changes) → InOrder (map change_of new_changes)

-- how the first of the changes stands to a key: behind it where there is none
abbrev pub order_to : List ℕ → Rows → Ordering
order_to key [] = Greater
order_to key (e ∷ es) = by_bytes e.0 key

-- the row of an entry; none where there is no entry, or where it says that a row was taken out
abbrev pub listed : Option (List ℕ) → List (List ℕ)
listed None = []
listed (Some row) = row ∷ []

abbrev pub row_said : Option (Bor (List ℕ) × Bor (List ℕ)) → List (List ℕ)
row_said None = []
row_said (Some e) = listed (said e.1.now)
