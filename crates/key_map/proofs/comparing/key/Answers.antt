use Rattle.std.proofs.Common.{ℕ, suc, List, drop, map, sym, subst, add-one}
use Rattle.std.specs.List.{slice_get}
use Rattle.row_values.specs.Column.{column_of}
use Rattle.row_values.specs.Schema.{picked}
use Rattle.key_map.specs.SortForm.{values_form}
use Rattle.key_map.specs.Fronts.{Compares, form_if}
use Rattle.key_map.specs.RowForm.{values_read}
use Rattle.key_map.specs.declared.front.Front.TheVariants.{Before, Behind, Same}
use Rattle.key_map.proofs.Joined.{before, behind, on}
use Rattle.key_map.proofs.Picked.{left_at, none_left}
use Rattle.key_map.proofs.comparing.key.Goals as goal

pub returns-in-Before : goal.returns-in-Before
returns-in-Before c =
    let left = left_at c.args.schema.now.columns (map column_of c.columns-columns.result.now) c.args.row.now c.args.schema.now.key c.key-place-items.result.now c.loop-place.place-index c.from.result c.columns-columns.ensures.columns c.key-place-items.ensures.key c.from.ensures c.loop-place-test.true in
    c.loop-place.invariant Before (subst (λ (l : List ℕ). Compares c.loop-place.rest.now l Before) (sym left) (before c.loop-place.rest.now _ _ c.in-Before.ensures))

pub returns-in-Behind : goal.returns-in-Behind
returns-in-Behind c =
    let left = left_at c.args.schema.now.columns (map column_of c.columns-columns.result.now) c.args.row.now c.args.schema.now.key c.key-place-items.result.now c.loop-place.place-index c.from.result c.columns-columns.ensures.columns c.key-place-items.ensures.key c.from.ensures c.loop-place-test.true in
    c.loop-place.invariant Behind (subst (λ (l : List ℕ). Compares c.loop-place.rest.now l Behind) (sym left) (behind c.loop-place.rest.now _ _ c.in-Behind.ensures))

pub loop-place-preserved : goal.loop-place-preserved
loop-place-preserved c = λ o h.
    let vs = values_read c.args.schema.now.columns c.args.row.now in
    let key = c.args.schema.now.key in
    let items = c.key-place-items.result.now in
    let i = c.loop-place.place-index in
    let left = left_at c.args.schema.now.columns (map column_of c.columns-columns.result.now) c.args.row.now key items i c.from.result c.columns-columns.ensures.columns c.key-place-items.ensures.key c.from.ensures c.loop-place-test.true in
    let piece = form_if (slice_get (values_read (map column_of c.columns-columns.result.now) c.args.row.now) c.from.result) in
    let more = values_form (picked vs (drop (suc i) key)) in
    let next : Compares c.in-Same.after.now more o = subst (λ n. Compares c.in-Same.after.now (values_form (picked vs (drop n key))) o) (add-one i) h in
    c.loop-place.invariant o (subst (λ (l : List ℕ). Compares c.loop-place.rest.now l o) (sym left) (on c.loop-place.rest.now piece c.in-Same.after.now more o c.in-Same.ensures next))

pub returns : goal.returns
returns c =
    c.loop-place.invariant (Same c.loop-place.rest)
    (none_left c.args.schema.now.columns c.args.row.now c.args.schema.now.key c.key-place-items.result.now c.loop-place.place-index c.key-place-items.ensures.key c.loop-place-test.false c.loop-place.rest.now)
