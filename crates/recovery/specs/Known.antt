-- Which records a journal may have, by its half's layout.
use Rattle.std.specs.Prelude.{◌≡◌, Bool, true, false, is_some, List, [], ◌∷◌, Some}
use Rattle.std.specs.List.{AllByRecursion}
use Rattle.half_store.specs.declared.header.Layout.{Layout}
use Rattle.half_store.specs.declared.header.Layout.TheVariants.{One, Two}
use Rattle.unit_journal.specs.declared.kind.Kind.{Kind}
use Rattle.unit_journal.specs.declared.kind.Kind.TheVariants as kind
use Rattle.unit_journal.specs.Record.{Entry}
use Rattle.unit_records.specs.Records.{UnitRecord, committed, decided, forgotten, heuristic, kind_of, prepared}
use Rattle.recovery.specs.Durable.{Durable, doubt_of, next}

-- a kind of the layout: in layout 1 nothing is said of heuristic decisions
abbrev pub is_of : Layout → Kind → Bool
is_of One kind.Commit = true
is_of One kind.Prepare = true
is_of One kind.Decide = true
is_of One kind.Heuristic = false
is_of One kind.Forget = false
is_of Two k = true

abbrev pub IsKnown : Layout → UnitRecord → Type 0
IsKnown layout r = is_of layout (kind_of r) ≡ true

-- all entries are
abbrev pub AreKnown : Layout → List Entry → Type 0
AreKnown layout es = AllByRecursion (λ (e : Entry). is_of layout e.kind ≡ true) es

-- What a record releases is held for its branch: a heuristic decision is made in layout 2, of a branch in doubt. Behind a
-- checkpoint one that was made before releases nothing.
abbrev pub Releases : Layout → Durable → UnitRecord → Type 0
Releases layout d (committed changes) = Unit {0}
Releases layout d (prepared xid changes claims) = Unit {0}
Releases layout d (decided xid o) = Unit {0}
Releases layout d (heuristic xid o) = (layout ≡ Two) × (is_some (doubt_of d.doubts xid) ≡ true)
Releases layout d (forgotten xid) = Unit {0}

-- each of records one behind another
abbrev pub ReleaseAll : Layout → Durable → List UnitRecord → Type 0
ReleaseAll layout d [] = Unit {0}
ReleaseAll layout d (r ∷ rs) = Releases layout d r × ((e : Durable) → next d r ≡ Some e → ReleaseAll layout e rs)
