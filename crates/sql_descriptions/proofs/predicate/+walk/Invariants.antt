-- The types of the parts so far, and of those that are left.
use Rattle.std.proofs.Common.{◌≡◌, ◌++◌, drop, map}
use Rattle.row_values.specs.Column.{column_of}
use Rattle.sql_semantics.specs.Describe as describe
use Rattle.sql_descriptions.proofs.predicate.+walk.Given as goal

abbrev pub invariant-add_parts-loop-part : goal.invariant-add_parts-loop-part
invariant-add_parts-loop-part l = l.types.items ++ describe.joined (map (describe.predicate_types (map column_of l.columns)) (drop l.part-index l.parts)) ≡ l.fn.types.items ++ describe.joined (map (describe.predicate_types (map column_of l.columns)) l.parts)
