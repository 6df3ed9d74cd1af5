-- Tables that are lent where they lie.
use Rattle.std.specs.Prelude.{◌≡◌, ℕ, List, [], ◌∷◌, Option, Some, None}
use Rattle.paged_tables.specs.Stored.{IsStored, Stored}
use Rattle.paged_tables.specs.TablesByName.{Tables}
use Rattle.paged_tables.specs.declared.lending.TableRef.{TableRef}

-- a table, with its name, is lent: its schema, where its pages lie, and the changes since
pub record IsLent (e : List ℕ × Stored) (lent : TableRef) : Type 0 where
  pub name : lent.name.now ≡ e.0
  pub schema : lent.schema.now ≡ e.1.schema
  pub rows : lent.rows.now ≡ record { places = e.1.places; overlay = e.1.changes }
  pub stored : IsStored e.1

-- the first of the tables that are left is lent, and none where none is left
abbrev pub LendsFirst : Tables → Option TableRef → Tables → Type 0
LendsFirst old None new = old ≡ []
LendsFirst old (Some lent) new = (e : List ℕ × Stored) × IsLent e lent × (old ≡ e ∷ new)
