-- Rows by their keys, and what changes make of them.
use Rattle.std.specs.Prelude.{◌≡◌, ℕ, List, [], ◌∷◌, ◌++◌, Option, Some, None}
use Rattle.std.specs.List.{AllByRecursion}
use Rattle.std.specs.Ordering.{match_ordering}
use Rattle.std.proofs.Common.{Less, Equal}
use Rattle.std.specs.Map.{lookup, keys_of}
use Rattle.std.specs.List.Sorted.{IsStrictlySortedBy}
use Rattle.key_map.specs.Slots.{by_bytes, by_key}

-- rows by their keys
abbrev pub Rows : Type 0
Rows = List (List ℕ × List ℕ)

-- what has become of keys: the row that was put there, or none where the row was taken out
abbrev pub Changes : Type 0
Changes = List (List ℕ × Option (List ℕ))

abbrev pub row_at : {X : Type 0} → List ℕ → List (List ℕ × X) → Option X
row_at key rows = lookup (by_key key) rows

-- keys that rise by their bytes
abbrev pub InOrder : {X : Type 0} → List (List ℕ × X) → Type 0
InOrder rows = IsStrictlySortedBy by_bytes (keys_of rows)

-- a row that is there, under its key
abbrev pub keyed : List ℕ → Option (List ℕ) → Rows
keyed key None = []
keyed key (Some row) = (key, row) ∷ []

-- the rows with this one at its key, or with none there
abbrev pub changed : Rows → List ℕ → Option (List ℕ) → Rows
changed [] key r = keyed key r
changed (e ∷ es) key r = match_ordering (by_bytes key e.0) (keyed key r ++ (e ∷ es)) (keyed key r ++ es) (e ∷ changed es key r)

-- the rows with all changes made
abbrev pub merged : Rows → Changes → Rows
merged rows [] = rows
merged rows (c ∷ cs) = changed (merged rows cs) c.0 c.1

-- a change of a key says what is there; without one it is what was there
abbrev pub over : Option (Option (List ℕ)) → Option (List ℕ) → Option (List ℕ)
over None row = row
over (Some r) row = r

-- the row of a key, in the rows with all changes made
abbrev pub MergedAt : Type 0
MergedAt = (q : List ℕ) (rows : Rows) (changes : Changes) → InOrder rows → row_at q (merged rows changes) ≡ over (row_at q changes) (row_at q rows)

-- they are in order
abbrev pub MergedInOrder : Type 0
MergedInOrder = (rows : Rows) (changes : Changes) → InOrder rows → InOrder (merged rows changes)

-- rows in order are known by what is found in them
abbrev pub KnownByKeys : Type 0
KnownByKeys = (a b : Rows) → InOrder a → InOrder b → ((q : List ℕ) → row_at q a ≡ row_at q b) → a ≡ b

-- ---- rows and changes in turn

-- all keys come after this one
abbrev pub Above : {X : Type 0} → List ℕ → List (List ℕ × X) → Type 0
Above key rows = AllByRecursion (λ y. by_bytes key y ≡ Less) (keys_of rows)

-- a change of a key before all rows comes first
abbrev pub ChangeFirst : Type 0
ChangeFirst = (rows : Rows) (c : List ℕ × Option (List ℕ)) (cs : Changes) → Above c.0 rows → InOrder (c ∷ cs) → merged rows (c ∷ cs) ≡ keyed c.0 c.1 ++ merged rows cs

-- a row whose key comes before all changes comes first
abbrev pub RowFirst : Type 0
RowFirst = (e : List ℕ × List ℕ) (rows : Rows) (cs : Changes) → Above e.0 cs → merged (e ∷ rows) cs ≡ e ∷ merged rows cs

-- a change of the first row's key stands in its place
abbrev pub ChangeHere : Type 0
ChangeHere = (e : List ℕ × List ℕ) (rows : Rows) (c : List ℕ × Option (List ℕ)) (cs : Changes) → by_bytes c.0 e.0 ≡ Equal → InOrder (c ∷ cs) → merged (e ∷ rows) (c ∷ cs) ≡ keyed c.0 c.1 ++ merged rows cs
