use Rattle.std.specs.Prelude.{ℕ, ◌==◌, if◌then◌else◌}
use Rattle.unit_journal.specs.declared.kind.Kind.{Kind}
use Rattle.unit_journal.specs.declared.kind.Kind.TheVariants.{Commit, Prepare, Decide, Heuristic, Forget}

-- the byte of a kind
abbrev pub code_of : Kind → ℕ
code_of Commit = 1
code_of Prepare = 2
code_of Decide = 3
code_of Heuristic = 4
code_of Forget = 5

-- the kind of a byte that is one's
abbrev pub kind_for : ℕ → Kind
kind_for byte = if byte == 1 then Commit else if byte == 2 then Prepare else if byte == 3 then Decide else if byte == 4 then Heuristic else Forget
