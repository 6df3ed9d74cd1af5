-- Texts that begin with the bytes of an item.
use Rattle.std.specs.Prelude.{◌≡◌, ◌≢◌, ℕ, ◌^◌, ◌<◌, List, ◌++◌, length, Result, Ok, Err}
use Rattle.std.specs.List.{AllByRecursion, flat_map}
use Rattle.std.specs.Int.{w32, to_be_bytes}
use Rattle.row_values.specs.declared.row.ReadError.{ReadError}
use Rattle.row_values.specs.declared.row.ReadError.TheVariants.{Damaged, NoMemory}

-- items behind their number, which has four bytes
abbrev pub listed : {A : Type 0} → (A → List ℕ) → List A → List ℕ
listed bytes_of items = to_be_bytes w32 (length items) ++ flat_map bytes_of items

-- items of which each is good, as many as the number has bytes for
abbrev pub AreListed : {A : Type 0} → (A → Type 0) → List A → Type 0
AreListed Is items = (length items < 2 ^ 32) × AllByRecursion Is items

-- so many items, of which each is good
abbrev pub AreSo : {A : Type 0} → (A → Type 0) → ℕ → List A → Type 0
AreSo Is n items = (length items ≡ n) × AllByRecursion Is items

-- a text begins with one item at most
abbrev pub OneFront : {A : Type 0} → (A → List ℕ) → (A → Type 0) → Type 0
OneFront bytes_of Is = (a b : _) (rest more : List ℕ) → Is a → Is b → bytes_of a ++ rest ≡ bytes_of b ++ more → (a ≡ b) × (rest ≡ more)

-- no item stands in front, or there is no memory
abbrev pub Misses : {A : Type 0} → (A → List ℕ) → (A → Type 0) → List ℕ → ReadError → Type 0
Misses bytes_of Is text Damaged = (a : _) (rest : List ℕ) → Is a → text ≢ bytes_of a ++ rest
Misses bytes_of Is text NoMemory = Unit {0}

-- what a reader answers: the item that a text begins with, and what follows it; or that it begins with
-- none. Want of memory may come in place of either.
abbrev pub TakesFront : {X A : Type 0} → (X → A × List ℕ) → (A → List ℕ) → (A → Type 0) → List ℕ → Result X ReadError → Type 0
TakesFront view bytes_of Is text (Ok x) = Is (view x).0 × (text ≡ bytes_of (view x).0 ++ (view x).1)
TakesFront view bytes_of Is text (Err error) = Misses bytes_of Is text error
