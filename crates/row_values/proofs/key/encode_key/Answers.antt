-- Each key column's value fits it, and its bytes are the next of the key.
use Rattle.std.proofs.Common.{◌≤◌, ◌+◌, ◌++◌, ℕ, List, ap, sym, subst, ◌∙◌, length, map, drop}
use Rattle.std.specs.Prelude.{is_some}
use Rattle.row_values.specs.declared.value.Value.TheVariants.{Null}
use Rattle.row_values.specs.Value.{value_of}
use Rattle.row_values.specs.Schema.{key_columns}
use Rattle.row_values.specs.Row.{row_bytes}
use Rattle.row_values.specs.Key.{is_key}
use Rattle.row_values.proofs.Keys.{key_good, key_short}
use Rattle.row_values.proofs.RowKeys.{key_ended, key_in_values}
use Rattle.row_values.proofs.RowSteps.{value_at_place, fits_at, row_at, row_more, row_none}
use Rattle.row_values.proofs.key.encode_key.Goals as goal

pub bounds-values-i : goal.bounds-values-i
bounds-values-i c = key_in_values c.args.schema.now c.args.values.now c.key-i-end.result.now c.loop-i.i c.key-i-end.ensures.good c.key-i-end.ensures.key c.requires c.loop-i-test.true

pub put_value-requires : goal.put_value-requires
put_value-requires c =
    let lt = key_in_values c.args.schema.now c.args.values.now c.key-i-end.result.now c.loop-i.i c.key-i-end.ensures.good c.key-i-end.ensures.key c.requires c.loop-i-test.true in
    fits_at (key_columns c.args.schema.now) (map value_of c.args.values.now) c.loop-i.i _ _ c.requires c.key_column.ensures (value_at_place c.args.values.now c.loop-i.i Null lt)

pub loop-i-preserved : goal.loop-i-preserved
loop-i-preserved c =
    let lt = key_in_values c.args.schema.now c.args.values.now c.key-i-end.result.now c.loop-i.i c.key-i-end.ensures.good c.key-i-end.ensures.key c.requires c.loop-i-test.true in
    let step = row_at (key_columns c.args.schema.now) (map value_of c.args.values.now) c.loop-i.i _ _ c.key_column.ensures (value_at_place c.args.values.now c.loop-i.i Null lt) in
    ap (λ (l : List ℕ). l ++ row_bytes (drop (c.loop-i.i + 1) (key_columns c.args.schema.now)) (drop (c.loop-i.i + 1) (map value_of c.args.values.now))) c.in_ok-put_value.ensures
    ∙ row_more c.loop-i.key.items _ _ _ _ step c.loop-i.invariant

pub returns-clause-key : goal.returns-clause-key
returns-clause-key c =
    let end = key_ended c.args.schema.now c.args.values.now c.key-i-end.result.now c.loop-i.i c.key-i-end.ensures.good c.key-i-end.ensures.key c.requires c.loop-i-test.false in
    row_none c.loop-i.key.items _ _ end c.loop-i.invariant

pub returns-clause-good : goal.returns-clause-good
returns-clause-good c =
    let end = key_ended c.args.schema.now c.args.values.now c.key-i-end.result.now c.loop-i.i c.key-i-end.ensures.good c.key-i-end.ensures.key c.requires c.loop-i-test.false in
    let whole = row_none c.loop-i.key.items _ _ end c.loop-i.invariant in
    ap (is_key c.args.schema.now) whole ∙ ap is_some (key_good c.args.schema.now (map value_of c.args.values.now) c.key-i-end.ensures.good c.requires)

pub returns-clause-short : goal.returns-clause-short
returns-clause-short c =
    let end = key_ended c.args.schema.now c.args.values.now c.key-i-end.result.now c.loop-i.i c.key-i-end.ensures.good c.key-i-end.ensures.key c.requires c.loop-i-test.false in
    let whole = row_none c.loop-i.key.items _ _ end c.loop-i.invariant in
    subst (λ (l : List ℕ). length l ≤ 8012) (sym whole) (key_short c.args.schema.now (map value_of c.args.values.now) c.key-i-end.ensures.good c.requires)
