-- Changes that fit into the room, one after another.
use Rattle.std.proofs.Common.{◌≡◌, ◌≤◌, ◌<◌, ℕ, ◌+◌, ◌-◌, Bool, true, false, nat_le, List, [], ◌∷◌, length, take, drop, get_or, map, arith, sym, ap, ◌∙◌}
use Rattle.std.proofs.lemmas.Bool.Decides.{leb_tells}
use Rattle.std.proofs.lemmas.List.{length-append, take_rest}
use Rattle.std.specs.List.{flat_map}
use Rattle.tables.specs.Change.{change_bytes}
use Rattle.tables.specs.ChangeView.{change_of}
use Rattle.tables.specs.declared.change.Change.{Change as CodeChange}
use Rattle.std.proofs.Math.Dec.{leb}
use Rattle.std.proofs.Common.{◌⊎◌, inl, inr}

abbrev pub one : CodeChange → ℕ
one x = length (change_bytes (change_of x))

abbrev pub size : List CodeChange → ℕ
size xs = length (flat_map change_bytes (map change_of xs))

abbrev pub has_room : List CodeChange → ℕ → Bool
has_room xs room = nat_le (size xs) room

abbrev Told : ℕ → ℕ → Type 0
Told a b = ((leb a b ≡ true) × (a ≤ b)) ⊎ ((leb a b ≡ false) × (b < a))

below_by : (n m room : ℕ) → n ≤ room → Told m (room - n) → Told (n + m) room → nat_le m (room - n) ≡ nat_le (n + m) room
below_by n m room h (inl x) (inl y) = x.0 ∙ sym y.0
below_by n m room h (inr x) (inr y) = x.0 ∙ sym y.0
below_by n m room h (inl x) (inr y) = let a : m ≤ room - n = x.1 in let b : room < n + m = y.1 in absurd (omega arith)
below_by n m room h (inr x) (inl y) = let a : room - n < m = x.1 in let b : n + m ≤ room = y.1 in absurd (omega arith)

split : (x : CodeChange) (xs : List CodeChange) → size (x ∷ xs) ≡ one x + size xs
split x xs = length-append (change_bytes (change_of x)) (flat_map change_bytes (map change_of xs))

pub room_step : (xs : List CodeChange) (x : CodeChange) (n room : ℕ) → 1 ≤ length xs → x ≡ get_or xs 0 x → n ≡ one x → n ≤ room → has_room (take (length xs - 1) (drop 1 xs)) (room - n) ≡ has_room xs room
room_step [] x n room some is e h = absurd (omega arith)
room_step (y ∷ ys) x n room some is e h =
    let rest : take (length (y ∷ ys) - 1) ys ≡ ys = take_rest (y ∷ ys) 1 in
    let n_is : n ≡ one y = e ∙ ap one is in
    let all : n + size ys ≡ size (y ∷ ys) = ap (λ k. k + size ys) n_is ∙ sym (split y ys) in
    ap (λ zs. has_room zs (room - n)) rest
    ∙ below_by n (size ys) room h (leb_tells (size ys) (room - n)) (leb_tells (n + size ys) room)
    ∙ ap (λ k. nat_le k room) all

over_by : (k room : ℕ) → room < k → Told k room → false ≡ nat_le k room
over_by k room h (inl x) = let g : k ≤ room = x.1 in absurd (omega arith)
over_by k room h (inr x) = sym x.0

pub room_over : (xs : List CodeChange) (x : CodeChange) (n room : ℕ) → 1 ≤ length xs → x ≡ get_or xs 0 x → n ≡ one x → room < n → false ≡ has_room xs room
room_over [] x n room some is e h = absurd (omega arith)
room_over (y ∷ ys) x n room some is e h =
    let n_is : n ≡ one y = e ∙ ap one is in
    let all : size (y ∷ ys) ≡ one y + size ys = split y ys in
    let more : room < size (y ∷ ys) = omega arith in
    over_by (size (y ∷ ys)) room more (leb_tells (size (y ∷ ys)) room)
