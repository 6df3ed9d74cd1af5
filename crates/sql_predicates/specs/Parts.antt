-- What single parts of a predicate say of a key.
use Rattle.std.specs.Prelude.{ℕ, Bool, List, Option}
use Rattle.sql_text.specs.declared.tree.Predicate.{Predicate, out-Predicate}
use Rattle.row_values.specs.Value.{Value}
use Rattle.row_values.specs.Column.{Column}
use Rattle.sql_semantics.specs.Scope.{fixed_by, is_plain_part, parts_in_all}

-- the part is a comparison, or a test for NULL
abbrev pub is_plain : Predicate → Bool
is_plain p = is_plain_part (out-Predicate p)

-- the parts between ANDs alone, where each of them is plain
abbrev pub plain_in_all : Predicate → List Predicate
plain_in_all p = parts_in_all (out-Predicate p)

-- the value that the part gives to the column of this place
abbrev pub fixed_in : List Value → List Column → ℕ → Predicate → Option Value
fixed_in params columns place p = fixed_by params columns place (out-Predicate p)
