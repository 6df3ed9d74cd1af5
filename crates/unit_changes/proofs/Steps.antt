-- Steps: a row has bytes, and room stays.
use Rattle.std.proofs.Common.{◌≡◌, ◌<◌, ℕ, List, [], ◌∷◌, Bool, true, false, refl, sym, ap, ◌∙◌, Some, None, Option, cond, length, arith, add-one, drop, drop-cons, get_or, ◌+◌, ◌≤◌, subst, zero, suc}
use Rattle.std.specs.Prelude.{◌&&◌, is_some, nat_eq, nat_le, nat_lt}
use Rattle.std.specs.List.{list_all, slice_get}
use Rattle.key_map.specs.Slots.{HasRoom, Slots}
use Rattle.row_values.specs.Column.{Column}
use Rattle.row_values.specs.Schema.{Schema, are_columns, can_be_key, is_key_of, is_schema, no_repeat}
use Rattle.row_values.specs.Value.{Value}
use Rattle.row_values.specs.Row.{is_row, value_at, values_at}
use Rattle.row_values.specs.Key.{row_key}
use Rattle.key_map.specs.SortForm.{sort_form}
use Rattle.key_map.specs.Merging.{Changes}
use Rattle.key_map.specs.Overlay.{said}
use Rattle.unit_changes.specs.declared.key_change.KeyChange.{KeyChange}
use Rattle.unit_changes.specs.KeyChanges.{HaveRoom}

pub second : (a b : Bool) → (a && b) ≡ true → b ≡ true
second true b h = h
second false b h = absurd cc

pub first : (a b : Bool) → (a && b) ≡ true → a ≡ true
first true b h = refl
first false b h = absurd cc

pub said_some : (row : List ℕ) → 0 < length row → said row ≡ Some row
said_some [] some = absurd (omega (arith, some))
said_some (b ∷ bytes) some = refl

never : false ≡ true → ⊥
never h = absurd cc

no_key_of_nothing : (key : List ℕ) → is_key_of [] key ≡ true → ⊥
no_key_of_nothing [] h = never h
no_key_of_nothing (k ∷ ks) h =
    let columns : List Column = [] in
    let some : Bool = nat_lt 0 (length (k ∷ ks)) && nat_le (length (k ∷ ks)) 4 in
    let can : Bool = list_all (λ place. can_be_key (slice_get columns place)) (k ∷ ks) in
    let three = first (some && can) (no_repeat nat_eq (k ∷ ks)) h in
    let no : false ≡ true = second some can three in
    never no

nothing_is_read : (columns : List Column) (key : List ℕ) → is_key_of columns key ≡ true → values_at columns [] ≡ None
unfolding value_at
nothing_is_read [] key h = absurd (no_key_of_nothing key h)
nothing_is_read (c ∷ cs) key h = refl

pub rows_have_bytes : (schema : Schema) (row : List ℕ) → is_schema schema ≡ true → is_row schema row ≡ true → said row ≡ Some row
rows_have_bytes schema [] good is =
    let none = nothing_is_read schema.columns schema.key (second (are_columns schema.columns) (is_key_of schema.columns schema.key) good) in
    absurd (never (sym (ap (λ (o : Option (List Value)). is_some o) none) ∙ is))
rows_have_bytes schema (b ∷ bytes) good is = refl

pub put_said : (schema : Schema) (row form copy : List ℕ) → is_schema schema ≡ true → is_row schema row ≡ true → form ≡ sort_form schema (row_key schema row) → copy ≡ row
    → ◌≡◌ {A = Changes} ((form, said copy) ∷ []) (cond (is_row schema row) ((sort_form schema (row_key schema row), Some row) ∷ []) [])
put_said schema row form copy good is at same =
    ap (λ (r : List ℕ). (form, said r) ∷ []) same ∙ ap (λ o. (form, o) ∷ []) (rows_have_bytes schema row good is)
    ∙ ap (λ (f : List ℕ). (f, Some row) ∷ []) at
    ∙ sym (ap (λ b. cond b ((sort_form schema (row_key schema row), Some row) ∷ []) []) is)

-- the steps from the next one on have room, and this one
pub room_next : (slots : Slots) (ks : List KeyChange) (i : ℕ) (k : KeyChange) → k ≡ get_or ks i k → i < length ks → HasRoom k.form.items slots → HaveRoom slots (drop (i + 1) ks) → HaveRoom slots (drop i ks)
room_next slots ks i k is lt here rest =
    let later : HaveRoom slots (drop (suc i) ks) = rw add-one at rest in
    subst (λ (l : List KeyChange). HaveRoom slots l) (sym (drop-cons ks i k lt ∙ ap (λ (x : KeyChange). x ∷ drop (suc i) ks) (sym is))) (here, later)

-- behind the last step there is none
pub room_end : (slots : Slots) (ks : List KeyChange) (i : ℕ) → length ks ≤ i → HaveRoom slots (drop i ks)
room_end slots [] zero h = tt
room_end slots [] (suc i) h = tt
room_end slots (k ∷ ks) zero h = absurd (omega (arith, h))
room_end slots (k ∷ ks) (suc i) h = room_end slots ks i (omega (arith, h))
