-- Changes between rows that come in order.
use Rattle.std.proofs.Common.{◌≡◌, ℕ, List, [], ◌∷◌, ◌++◌, refl, sym, ap, ◌∙◌, Option, Some, None, Less, Equal, Greater}
use Rattle.std.specs.Ordering.{match_ordering, ordering_reverse}
use Rattle.std.specs.Cmp.Lexicographic.{nat_list_cmp_total}
use Rattle.std.specs.Map.{keys_of}
use Rattle.std.proofs.lemmas.Map.Keys.{sorted_head}
use Rattle.key_map.specs.Slots.{by_bytes}
use Rattle.key_map.specs.Merging.{Rows, Changes, Above, InOrder, keyed, changed, merged}
use Rattle.key_map.proofs.Merged.{keys_above, weaker}

front : (rows : Rows) (key : List ℕ) (r : Option (List ℕ)) → Above key rows → changed rows key r ≡ keyed key r ++ rows
front [] key None above = refl
front [] key (Some row) above = refl
front (e ∷ es) key r above = ap (λ o. match_ordering o (keyed key r ++ (e ∷ es)) (keyed key r ++ es) (e ∷ changed es key r)) above.0

merged_above : (key : List ℕ) (rows : Rows) (cs : Changes) → Above key rows → Above key cs → Above key (merged rows cs)
merged_above key rows [] above_rows above_cs = above_rows
merged_above key rows (c ∷ cs) above_rows above_cs = keys_above key c.0 c.1 (merged rows cs) above_cs.0 (merged_above key rows cs above_rows above_cs.1)

-- a change of a key before all others comes first
pub change_first : (rows : Rows) (c : List ℕ × Option (List ℕ)) (cs : Changes) → Above c.0 rows → InOrder (c ∷ cs) → merged rows (c ∷ cs) ≡ keyed c.0 c.1 ++ merged rows cs
change_first rows c cs above up = front (merged rows cs) c.0 c.1 (merged_above c.0 rows cs above (sorted_head by_bytes c.0 (keys_of cs) up))

greater : (a b : List ℕ) → by_bytes a b ≡ Less → by_bytes b a ≡ Greater
greater a b less = nat_list_cmp_total.antisymm b a ∙ ap ordering_reverse less

-- a row before all changes comes first
pub row_first : (e : List ℕ × List ℕ) (rows : Rows) (cs : Changes) → Above e.0 cs → merged (e ∷ rows) cs ≡ e ∷ merged rows cs
row_first e rows [] above = refl
row_first e rows (c ∷ cs) above =
    ap (λ x. changed x c.0 c.1) (row_first e rows cs above.1)
    ∙ ap (λ o. match_ordering o (keyed c.0 c.1 ++ (e ∷ merged rows cs)) (keyed c.0 c.1 ++ merged rows cs) (e ∷ changed (merged rows cs) c.0 c.1)) (greater e.0 c.0 above.0)

-- a change of a row's key stands in place of the row
pub change_here : (e : List ℕ × List ℕ) (rows : Rows) (c : List ℕ × Option (List ℕ)) (cs : Changes) → by_bytes c.0 e.0 ≡ Equal → InOrder (c ∷ cs) → merged (e ∷ rows) (c ∷ cs) ≡ keyed c.0 c.1 ++ merged rows cs
change_here e rows c cs same up =
    let after : Above e.0 cs = weaker (λ y. by_bytes c.0 y ≡ Less) (λ y. by_bytes e.0 y ≡ Less) (keys_of cs) (λ y lt. sym (nat_list_cmp_total.congr c.0 e.0 y same) ∙ lt) (sorted_head by_bytes c.0 (keys_of cs) up) in
    ap (λ x. changed x c.0 c.1) (row_first e rows cs after)
    ∙ ap (λ o. match_ordering o (keyed c.0 c.1 ++ (e ∷ merged rows cs)) (keyed c.0 c.1 ++ merged rows cs) (e ∷ changed (merged rows cs) c.0 c.1)) same
