-- What the entries of an overlay say.
use Rattle.std.proofs.Common.{◌≡◌, ℕ, List, [], ◌∷◌, Bool, true, false, cond, refl, sym, ap, ◌∙◌, map, Option, Some, Ordering, Less, Equal, Greater, length, ◌<◌, arith}
use Rattle.std.specs.Prelude.{option_map}
use Rattle.std.specs.Ordering.{match_ordering}
use Rattle.std.specs.BTreeMap.{insert_entry}
use Rattle.std.specs.Map.{keys_of}
use Rattle.key_map.specs.Slots.{Slots, by_bytes, by_key, rows_of}
use Rattle.key_map.specs.Merging.{Rows, InOrder, row_at, changed, merged, over}
use Rattle.key_map.specs.Overlay.{said, change_of, changes_of}
use Rattle.key_map.proofs.Merged.{merged_found}
use Rattle.key_map.proofs.Known.{one_more}

found_step : (b : Bool) (entry : List ℕ) (o : Option (List ℕ)) → cond b (Some (said entry)) (option_map said o) ≡ option_map said (cond b (Some entry) o)
found_step true entry o = refl
found_step false entry o = refl

-- what is said of a key
pub found_said : (q : List ℕ) (es : Rows) → row_at q (map change_of es) ≡ option_map said (row_at q es)
found_said q [] = refl
found_said q (e ∷ es) = ap (λ o. cond (by_key q e.0) (Some (said e.1)) o) (found_said q es) ∙ found_step (by_key q e.0) e.1 (row_at q es)

-- what is said has the keys of the entries
pub keys_said : (es : Rows) → keys_of (map change_of es) ≡ keys_of es
keys_said [] = refl
keys_said (e ∷ es) = ap (λ (ks : List (List ℕ)). e.0 ∷ ks) (keys_said es)

insert_step : (r : Ordering) (key row : List ℕ) (e : List ℕ × List ℕ) (es rest : Rows)
    → match_ordering r ((key, said row) ∷ change_of e ∷ map change_of es) ((e.0, said row) ∷ map change_of es) (change_of e ∷ map change_of rest)
    ≡ map change_of (match_ordering r ((key, row) ∷ e ∷ es) ((e.0, row) ∷ es) (e ∷ rest))
insert_step Less key row e es rest = refl
insert_step Equal key row e es rest = refl
insert_step Greater key row e es rest = refl

-- an entry more says one thing more
pub insert_said : (es : Rows) (key row : List ℕ) → map change_of (insert_entry by_bytes es key row) ≡ insert_entry by_bytes (map change_of es) key (said row)
insert_said [] key row = refl
insert_said (e ∷ es) key row =
    sym (insert_step (by_bytes key e.0) key row e es (insert_entry by_bytes es key row))
    ∙ ap (λ rest. match_ordering (by_bytes key e.0) ((key, said row) ∷ change_of e ∷ map change_of es) ((e.0, said row) ∷ map change_of es) (change_of e ∷ rest)) (insert_said es key row)

-- the row of a key, by what the overlay says of it and by the row that was there
pub get_said : (q : List ℕ) (rows es : Rows) (entry base : Option (List ℕ)) → InOrder rows → entry ≡ row_at q es → base ≡ row_at q rows
    → over (option_map said entry) base ≡ row_at q (merged rows (map change_of es))
get_said q rows es entry base order is was =
    ap (λ o. over (option_map said o) base) is ∙ ap (λ o. over (option_map said (row_at q es)) o) was
    ∙ ap (λ o. over o (row_at q rows)) (sym (found_said q es)) ∙ sym (merged_found q rows (map change_of es) order)

-- a row of some bytes is put, and none is a mark
pub said_some : (row : List ℕ) → 0 < length row → said row ≡ Some row
said_some [] some = absurd (omega (arith, some))
said_some (b ∷ bytes) some = refl

-- an entry that is put, by what it says
pub put_said : (old new : Slots) (key row : List ℕ) (r : Option (List ℕ)) → said row ≡ r → rows_of new ≡ insert_entry by_bytes (rows_of old) key row → changes_of new ≡ insert_entry by_bytes (changes_of old) key r
put_said old new key row r says is = ap (map change_of) is ∙ insert_said (rows_of old) key row ∙ ap (λ x. insert_entry by_bytes (changes_of old) key x) says

pub put_made : (old new : Slots) (key row : List ℕ) (r : Option (List ℕ)) → said row ≡ r → rows_of new ≡ insert_entry by_bytes (rows_of old) key row
    → (rows : Rows) → InOrder rows → merged rows (changes_of new) ≡ changed (merged rows (changes_of old)) key r
put_made old new key row r says is rows up = ap (merged rows) (put_said old new key row r says is) ∙ one_more rows (changes_of old) key r up
