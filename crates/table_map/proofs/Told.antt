-- The row of a key by what the changes say of it.
use Rattle.std.proofs.Common.{◌≡◌, ℕ, List, Option, sym, ap, ◌∙◌}
use Rattle.key_map.specs.Merging.{Rows, Changes, InOrder, row_at, merged, over}
use Rattle.key_map.proofs.Merged.{merged_found}

pub told : (q : List ℕ) (rows : Rows) (cs : Changes) (word : Option (Option (List ℕ))) → InOrder rows → word ≡ row_at q cs → over word (row_at q rows) ≡ row_at q (merged rows cs)
told q rows cs word up is = ap (λ o. over o (row_at q rows)) is ∙ sym (merged_found q rows cs up)
