-- The first value that does not fit decides, and else the number of values.
use Rattle.std.proofs.Common.{◌≡◌, ap, map, length, subst, sym, ◌∙◌, arith, Some}
use Rattle.std.specs.List.{slice_get}
use Rattle.std.proofs.lemmas.List.{length-map}
use Rattle.row_values.specs.declared.value.Value.TheVariants.{Null}
use Rattle.row_values.specs.Value.{value_of}
use Rattle.row_values.specs.Column.{column_of}
use Rattle.row_values.proofs.Fitting.{told_false, told_true}
use Rattle.row_values.proofs.RowSteps.{column_at, value_at_place, fit_count, fit_ends, fit_goes_on, fit_stops}
use Rattle.row_values.proofs.row.are_row.Goals as goal

pub returns-then-columns-values : goal.returns-then-columns-values
returns-then-columns-values c =
    let a = length-map c.args.values.now value_of in
    let b = length-map c.columns-columns.result.now column_of in
    let d = ap length c.columns-columns.ensures.columns in
    fit_count c.args.schema.now.columns (map value_of c.args.values.now) (λ same. c.if-columns-values.true (omega arith))

pub returns-then-is_err : goal.returns-then-is_err
returns-then-is_err c =
    let lt = c.loop-i-test.true in
    let same = c.if-columns-values.false in
    let at = subst (λ cs. slice_get cs c.loop-i.i ≡ Some (column_of c.index-columns-i.result)) c.columns-columns.ensures.columns (column_at c.columns-columns.result.now c.loop-i.i c.index-columns-i.result lt c.index-columns-i.is) in
    sym (fit_stops c.args.schema.now.columns (map value_of c.args.values.now) c.loop-i.i _ _ at (value_at_place c.args.values.now c.loop-i.i Null (omega arith)) (told_false _ _ c.admit.ensures.fits (sym c.is_err.ensures.value ∙ c.if-is_err.true)))
    ∙ c.loop-i.invariant

pub loop-i-preserved : goal.loop-i-preserved
loop-i-preserved c =
    let lt = c.loop-i-test.true in
    let same = c.if-columns-values.false in
    let at = subst (λ cs. slice_get cs c.loop-i.i ≡ Some (column_of c.index-columns-i.result)) c.columns-columns.ensures.columns (column_at c.columns-columns.result.now c.loop-i.i c.index-columns-i.result lt c.index-columns-i.is) in
    fit_goes_on c.args.schema.now.columns (map value_of c.args.values.now) c.loop-i.i _ _ at (value_at_place c.args.values.now c.loop-i.i Null (omega arith)) (told_true _ _ c.admit.ensures.fits (sym c.is_err.ensures.value ∙ c.if-is_err.false))
    ∙ c.loop-i.invariant

pub returns : goal.returns
returns c =
    let a = length-map c.args.values.now value_of in
    let b = length-map c.columns-columns.result.now column_of in
    let d = ap length c.columns-columns.ensures.columns in
    let end = c.loop-i-test.false in
    let same = c.if-columns-values.false in
    sym (fit_ends c.args.schema.now.columns (map value_of c.args.values.now) c.loop-i.i (omega arith) (omega arith)) ∙ c.loop-i.invariant
