-- One column more.
use Rattle.std.proofs.Common.{◌≡◌, ◌∙◌, ◌<◌, ◌++◌, ◌∷◌, [], length, map, ap, arith}
use Rattle.std.proofs.lemmas.List.{length-map, map-append}
use Rattle.row_values.specs.Column.{column_of}
use Rattle.row_values.specs.Value.{value_of}
use Rattle.sql_semantics.specs.Insert.{given}
use Rattle.sql_semantics.specs.Values.{literal_value}
use Rattle.sql_predicates.specs.Constant.{constant_value}
use Rattle.sql_changes.proofs.AllPlaces.{goes_on}
use Rattle.sql_changes.proofs.given.given_values.Goals as goal

pub loop-column-preserved : goal.loop-column-preserved
loop-column-preserved c =
    let cs = map column_of c.args.columns.now in
    let at = given c.args.places.now (map (literal_value (map value_of c.args.params.now)) c.args.literals.now) in
    let done = map constant_value c.loop-column.row.items in
    let size = length-map c.args.columns.now column_of in
    let below : c.loop-column.column < length cs = omega arith in
    let more : map constant_value c.push.new.self.items ≡ done ++ at c.loop-column.column ∷ [] =
    ap (map constant_value) c.in_ok-push.ensures.items
    ∙ map-append constant_value c.loop-column.row.items (c.in_ok-given.field-0 ∷ [])
    ∙ ap (λ v. done ++ v ∷ []) c.in_ok-given.ensures in
    rw more (goes_on at cs c.loop-column.column done _ below c.loop-column.invariant)
