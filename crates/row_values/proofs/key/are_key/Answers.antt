-- The first value that does not fit decides, and else the number of values.
use Rattle.std.proofs.Common.{ap, map, length, sym, ◌∙◌, arith}
use Rattle.std.proofs.lemmas.List.{length-map}
use Rattle.row_values.specs.declared.value.Value.TheVariants.{Null}
use Rattle.row_values.specs.Value.{value_of}
use Rattle.row_values.specs.Schema.{key_columns}
use Rattle.row_values.proofs.Fitting.{told_false, told_true}
use Rattle.row_values.proofs.Keys.{key_count}
use Rattle.row_values.proofs.RowSteps.{value_at_place, fit_count, fit_ends, fit_goes_on, fit_stops}
use Rattle.row_values.proofs.key.are_key.Goals as goal

pub returns-then-key-values : goal.returns-then-key-values
returns-then-key-values c =
    let a = length-map c.args.values.now value_of in
    let b = key_count c.args.schema.now c.key.ensures.good in
    let d = ap length c.key.ensures.key in
    fit_count (key_columns c.args.schema.now) (map value_of c.args.values.now) (λ same. c.if-key-values.true (omega arith))

pub returns-then-is_err : goal.returns-then-is_err
returns-then-is_err c =
    sym (fit_stops (key_columns c.args.schema.now) (map value_of c.args.values.now) c.loop-i.i _ _ c.key_column.ensures (value_at_place c.args.values.now c.loop-i.i Null c.loop-i-test.true) (told_false _ _ c.admit.ensures.fits (sym c.is_err.ensures.value ∙ c.if-is_err.true)))
    ∙ c.loop-i.invariant

pub loop-i-preserved : goal.loop-i-preserved
loop-i-preserved c =
    fit_goes_on (key_columns c.args.schema.now) (map value_of c.args.values.now) c.loop-i.i _ _ c.key_column.ensures (value_at_place c.args.values.now c.loop-i.i Null c.loop-i-test.true) (told_true _ _ c.admit.ensures.fits (sym c.is_err.ensures.value ∙ c.if-is_err.false))
    ∙ c.loop-i.invariant

pub returns : goal.returns
returns c =
    let a = length-map c.args.values.now value_of in
    let b = key_count c.args.schema.now c.key.ensures.good in
    let d = ap length c.key.ensures.key in
    let end = c.loop-i-test.false in
    let same = c.if-key-values.false in
    sym (fit_ends (key_columns c.args.schema.now) (map value_of c.args.values.now) c.loop-i.i (omega arith) (omega arith)) ∙ c.loop-i.invariant
