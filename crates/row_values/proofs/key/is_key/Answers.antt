-- A value is read, or none is, and then the bytes are no key.
use Rattle.std.proofs.Common.{◌≡◌, ◌≤◌, ap, sym, ◌∙◌, arith, length}
use Rattle.row_values.specs.Column.{column_of}
use Rattle.row_values.specs.Schema.{key_columns}
use Rattle.row_values.proofs.Keys.{key_count}
use Rattle.row_values.proofs.ReadSteps.{none_left, none_step, some_step}
use Rattle.row_values.proofs.key.is_key.Goals as goal

pub returns-in-None : goal.returns-in-None
returns-in-None c =
    sym (none_step (key_columns c.args.schema.now) c.loop-i.i (column_of c.key_column.result.now) c.loop-i.rest.now c.key_column.ensures c.in-None.ensures) ∙ c.loop-i.invariant

pub loop-i-preserved : goal.loop-i-preserved
loop-i-preserved c = some_step (key_columns c.args.schema.now) c.loop-i.i (column_of c.key_column.result.now) c.loop-i.rest.now _ c.key_column.ensures c.in-Some.ensures ∙ c.loop-i.invariant

pub returns : goal.returns
returns c =
    let count : length (key_columns c.args.schema.now) ≡ length c.key-i-end.result.now = key_count c.args.schema.now c.key-i-end.ensures.good ∙ sym (ap length c.key-i-end.ensures.key) in
    let past : length (key_columns c.args.schema.now) ≤ c.loop-i.i = let end = c.loop-i-test.false in omega arith in
    c.is_empty.ensures ∙ none_left (key_columns c.args.schema.now) c.loop-i.i c.loop-i.rest.now past ∙ c.loop-i.invariant
