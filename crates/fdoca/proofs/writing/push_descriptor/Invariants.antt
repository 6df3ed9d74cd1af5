-- What was there stands in front, and what is there, with the fields still to come, is the descriptor.
use Rattle.std.proofs.Common.{◌≡◌, ◌≤◌, ◌++◌, drop, length, map, take}
use Rattle.std.specs.List.{flat_map}
use Rattle.std.specs.Prelude.{vec_capacity}
use Rattle.row_values.specs.Column.{column_of}
use Rattle.row_values.specs.Schema.{picked}
use Rattle.fdoca.specs.Writing.{answer_descriptor, answer_closing, field_bytes}
use Rattle.fdoca.proofs.writing.push_descriptor.Given as goal

abbrev pub invariant-loop-i : goal.invariant-loop-i
invariant-loop-i l = record {
  kept : take (length l.fn.out.items) l.out.items ≡ l.fn.out.items;
  longer : length l.fn.out.items ≤ length l.out.items;
  described : l.out.items ++ (flat_map field_bytes (picked (map column_of l.columns) (drop l.i l.places)) ++ answer_closing) ≡ l.fn.out.items ++ answer_descriptor (picked (map column_of l.columns) l.places);
  capacity : vec_capacity l.fn.out ≤ vec_capacity l.out;
}
