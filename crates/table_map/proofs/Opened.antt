-- Each page has a first key.
use Rattle.std.proofs.Common.{◌≡◌, ℕ, suc, List, [], ◌∷◌, length, refl, ap}
use Rattle.table_map.specs.Keyed.{first_keys}

pub many_first : (key_of : List ℕ → List ℕ) (pages : List (List (List ℕ))) → length (first_keys key_of pages) ≡ length pages
many_first key_of [] = refl
many_first key_of (page ∷ pages) = ap suc (many_first key_of pages)
