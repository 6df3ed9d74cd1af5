-- Changes made one after another.
use Rattle.std.specs.Prelude.{List, [], ◌∷◌}
use Rattle.tables.specs.Change.{Change}
use Rattle.tables.specs.Tables.{Store, apply}

-- the store after all changes, in their order
abbrev pub apply_all : List Change → Store → Store
apply_all [] store = store
apply_all (change ∷ changes) store = apply_all changes (apply change store)
