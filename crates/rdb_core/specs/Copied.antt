-- Tables that are copied one after another: each is created, and its rows are put from the last one to the first.
use Rattle.std.specs.Prelude.{◌≡◌, ℕ, List, [], ◌∷◌}
use Rattle.tables.specs.Change.{create, put}
use Rattle.tables.specs.Tables.{Store, apply}
use Rattle.row_values.specs.Schema.{Schema}

-- the rows are put, the last one first
abbrev pub with_rows : List ℕ → List (List ℕ) → Store → Store
with_rows name [] store = store
with_rows name (row ∷ rows) store = apply (put name row) (with_rows name rows store)

-- the table is created, and has its rows
abbrev pub with_table_of : List ℕ → Schema → List (List ℕ) → Store → Store
with_table_of name schema rows store = with_rows name rows (apply (create name schema) store)

-- ---- who reads them

-- one read after another, each of which leaves the next of these
abbrev pub ReadsAlong : {R : Type 0} → (R → R → Type 0) → R → List R → R → Type 0
ReadsAlong reads before [] after = after ≡ before
ReadsAlong reads before (next ∷ later) after = reads before next × ReadsAlong reads next later after

-- reads are made, one after another, or none
abbrev pub ReadsOn : {R : Type 0} → (R → R → Type 0) → R → R → Type 0
ReadsOn {R} reads before after = (between : List R) × ReadsAlong reads before between after

-- and the device failed in the last one
abbrev pub FailsOn : {R : Type 0} → (R → R → Type 0) → (R → R → Type 0) → R → R → Type 0
FailsOn {R} reads fails_to_read before after = (last : R) × ReadsOn reads before last × fails_to_read last after
