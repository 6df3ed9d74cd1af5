-- CREATE TABLE: one creation, where its table is not there and there are fewer than 1,000.
use Rattle.std.proofs.Common.{◌≡◌, ℕ, List, [], ◌∷◌, true, ◌&&◌, refl, ap, Option, None, length}
use Rattle.std.specs.Prelude.{is_some, nat_lt, not}
use Rattle.row_values.specs.Schema.{Schema, is_name, is_schema}
use Rattle.row_values.proofs.ValueLaws.{both_true}
use Rattle.tables.specs.Change.{create}
use Rattle.tables.specs.Tables.{Store, schema_of}
use Rattle.sql_semantics.specs.Meaning.{create_answer, within_room}
use Rattle.sql_semantics.specs.Checked.{unless}
use Rattle.core_calls.specs.declared.sql_fault.SqlFault.TheVariants as fault
use Rattle.recovery.specs.Durable.{has_place}
use Rattle.recovery.specs.QuestionPlaces.{ArePlaced}
use Rattle.recovery.proofs.Checking.{Makes, make_if, make_room}

creation_placed : (v : Store) (name : List ℕ) (schema : Schema) → schema_of v name ≡ None → (is_name name && is_schema schema) ≡ true → nat_lt (length v) 1000 ≡ true → ArePlaced (create name schema ∷ []) v
creation_placed v name schema none good few = record {
  places = both_true (has_place (create name schema) v) true (both_true (not (is_some (schema_of v name))) (nat_lt (length v) 1000) (ap (λ (o : Option Schema). not (is_some o)) none) few) refl;
  good = (good, tt);
}

pub create_placed : (v : Store) (left : ℕ) (name : List ℕ) (schema : Schema) → schema_of v name ≡ None → Makes v (create_answer left name schema (length v))
create_placed v left name schema none =
    make_if v (is_name name && is_schema schema) fault.Syntax (unless (nat_lt (length v) 1000) fault.LimitReached (within_room left (create name schema ∷ []) 0))
    (λ good. make_if v (nat_lt (length v) 1000) fault.LimitReached (within_room left (create name schema ∷ []) 0)
    (λ few. make_room v left (create name schema ∷ []) 0 (creation_placed v name schema none good few)))
