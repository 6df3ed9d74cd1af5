-- One place more is fixed.
use Rattle.std.proofs.Common.{◌≡◌, ◌<◌, ◌++◌, ◌∷◌, [], Some, sym, ap, ◌∙◌, map, option_map, length, get_or, rules, arith}
use Rattle.std.proofs.lemmas.List.{map-append}
use Rattle.row_values.specs.Column.{column_of}
use Rattle.row_values.specs.Value.{value_of}
use Rattle.sql_predicates.specs.Constant.{constant_value}
use Rattle.sql_semantics.specs.Scope.{all_fixed, fixed}
use Rattle.sql_predicates.proofs.Fixing.{fixing_step}
use Rattle.sql_predicates.proofs.key.all_fixed.Goals as goal

pub loop-place-preserved : goal.loop-place-preserved
loop-place-preserved c =
    let ps = map value_of c.args.params.now in
    let cs = map column_of c.args.columns.now in
    let i = c.loop-place.place-index in
    let below : i < length c.args.places.now = omega arith in
    let at : c.from.result ≡ get_or c.args.places.now i 0 = search rules in
    let is : fixed ps cs c.from.result c.args.parts.now ≡ Some (constant_value c.in-Some.constant) = sym c.in_ok-found.ensures ∙ ap (option_map constant_value) c.in-Some.is in
    let more : map constant_value c.push.new.self.items ≡ map constant_value c.loop-place.constants.items ++ constant_value c.in-Some.constant ∷ [] = ap (map constant_value) c.in_ok-push.ensures.items ∙ map-append constant_value c.loop-place.constants.items (c.in-Some.constant ∷ []) in
    rw more (fixing_step ps cs c.args.parts.now c.args.places.now i c.from.result (map constant_value c.loop-place.constants.items) (constant_value c.in-Some.constant) (all_fixed ps cs c.args.places.now c.args.parts.now) below at is c.loop-place.invariant)
