-- Without names there is a value for each column, in their order.
use Rattle.std.proofs.Common.{◌∙◌, List, Ok, length, map, ap, sym}
use Rattle.std.proofs.lemmas.List.{length-map}
use Rattle.row_values.specs.Column.{Column}
use Rattle.row_values.specs.Value.{value_of}
use Rattle.sql_semantics.specs.Values.{literal_value}
use Rattle.sql_predicates.specs.Constant.{constant_value}
use Rattle.sql_changes.proofs.AllPlaces.{all_taken, in_order, not_in_order}
use Rattle.sql_changes.proofs.given.in_order.Goals as goal

pub returns-then-columns-literals : goal.returns-then-columns-literals
returns-then-columns-literals c =
    let columns = ap (λ (cs : List Column). length cs) c.columns.ensures.columns in
    let mapped = length-map c.args.literals.now (literal_value (map value_of c.args.params.now)) in
    not_in_order c.args.schema.now _ (λ same. c.if-columns-literals.true (sym (length-map c.columns.result.now _) ∙ columns ∙ same ∙ mapped))

pub returns : goal.returns
returns c =
    let columns = ap (λ (cs : List Column). length cs) c.columns.ensures.columns in
    let mapped = length-map c.args.literals.now (literal_value (map value_of c.args.params.now)) in
    in_order c.args.schema.now _ (sym columns ∙ length-map c.columns.result.now _ ∙ c.if-columns-literals.false ∙ sym mapped) ∙ ap Ok (all_taken (literal_value (map value_of c.args.params.now)) (map constant_value c.literals.row.items) c.literals.left.now c.args.literals.now c.in_default.len_below c.literals.invariant)
