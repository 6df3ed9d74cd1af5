use Rattle.std.proofs.Common.{◌≡◌, ℕ, ◌<◌, ◌≤◌, ◌+◌, ◌-◌, ◌++◌, List, Some, ap, subst, ◌∙◌, arith, length, take, drop}
use Rattle.std.specs.List.{slice_get}
use Rattle.fdoca.specs.Writing.{answer_row}
use Rattle.row_values.specs.Schema.{Schema, picked}
use Rattle.row_values.specs.Row.{values_in}
use Rattle.row_values.specs.RowView.{row_in, schema_in}
use Rattle.tables.specs.RowList.{RowList}
use Rattle.sqlam_replies.specs.Rows.{answered}
use Rattle.std.specs.Prelude.{vec_capacity}
use Rattle.sqlam_replies.proofs.Appending.{SoFar, room, step, taken_at}
use Rattle.sqlam_replies.proofs.Sizes.{late}
use Rattle.sqlam_replies.proofs.Blocks.{slice_drop}
use Rattle.sqlam_replies.proofs.rows.push_rows.Goals as goal

answered_is : (l : RowList) (schema : Schema) (places row : List ℕ) → schema ≡ l.schema → places ≡ l.selected → answer_row (picked schema.columns places) (picked (values_in schema row) places) ≡ answered l row
answered_is l schema places row p q =
    ap (λ (s : Schema). answer_row (picked s.columns places) (picked (values_in s row) places)) p
    ∙ ap (λ (places : List ℕ). answer_row (picked l.schema.columns places) (picked (values_in l.schema row) places)) q

pub loop-i-preserved : goal.loop-i-preserved
loop-i-preserved c =
    let l = c.args.rows.now in
    let row = row_in c.row.result in
    let k = c.loop-i.i - c.args.from in
    let rows = take c.args.count (drop c.args.from l.rows) in
    let le : c.args.from ≤ c.loop-i.i = c.loop-i.invariant.0 in
    let lt : k < c.args.count = omega (arith, le, c.loop-i-test.true, c.min-end.ensures, c.saturating_add.ensures) in
    let same : c.args.from + k ≡ c.loop-i.i = omega (arith, le) in
    let at : slice_get rows k ≡ Some row = taken_at (drop c.args.from l.rows) c.args.count k lt ∙ slice_drop l.rows c.args.from k ∙ ap (slice_get l.rows) same ∙ c.row.ensures.1 in
    let is = c.in_ok-write_row.ensures.ok ∙ ap (λ x. c.loop-i.out.items ++ x) (answered_is l (schema_in c.row.result) c.selected.result.now row c.row.ensures.0 c.selected.ensures.places) in
    let next : k + 1 ≡ c.loop-i.i + 1 - c.args.from = omega (arith, le) in
    let on : c.args.from ≤ c.loop-i.i + 1 = omega (arith, le) in
    let more : vec_capacity c.args.out.now ≤ vec_capacity c.write_row.new.out = omega (arith, c.loop-i.invariant.2, c.in_ok-write_row.ensures.capacity) in
    (on, subst (λ n. SoFar (answered l) rows n c.args.out.now.items c.write_row.new.out.items) next (step (answered l) rows k row c.args.out.now.items c.loop-i.out.items c.write_row.new.out.items at is c.loop-i.invariant.1), more)

pub returns-in_err-write_row-clause-full : goal.returns-in_err-write_row-clause-full
returns-in_err-write_row-clause-full c =
    let l = c.args.rows.now in
    let row = row_in c.row.result in
    let k = c.loop-i.i - c.args.from in
    let rows = take c.args.count (drop c.args.from l.rows) in
    let le : c.args.from ≤ c.loop-i.i = c.loop-i.invariant.0 in
    let lt : k < c.args.count = omega (arith, le, c.loop-i-test.true, c.min-end.ensures, c.saturating_add.ensures) in
    let same : c.args.from + k ≡ c.loop-i.i = omega (arith, le) in
    let at : slice_get rows k ≡ Some row = taken_at (drop c.args.from l.rows) c.args.count k lt ∙ slice_drop l.rows c.args.from k ∙ ap (slice_get l.rows) same ∙ c.row.ensures.1 in
    let is = ap length (answered_is l (schema_in c.row.result) c.selected.result.now row c.row.ensures.0 c.selected.ensures.places) in
    let space = room (answered l) rows k row c.args.out.now.items c.loop-i.out.items at c.loop-i.invariant.1 in
    late _ c.args.out.now c.loop-i.out _ _ (omega (arith, is, space)) c.loop-i.invariant.2 c.in_err-write_row.ensures.full
