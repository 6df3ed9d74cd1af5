use Rattle.std.proofs.Common.{rules, ap, ◌∙◌}
use Rattle.row_values.specs.Schema.{Schema}
use Rattle.row_values.specs.Row.{is_row}
use Rattle.tables.specs.RowList.{RowList}
use Rattle.small_sql.proofs.Counting.{one_counted, row_passes, same_schema, with_damage}
use Rattle.small_sql.proofs.read.counted_of_many.Goals as goal

pub returns-in_err-add_counted-clause-damaged : goal.returns-in_err-add_counted-clause-damaged
returns-in_err-add_counted-clause-damaged c =
    with_damage (Unit {0}) RowList c.args.list.schema c.loop-i.list.schema c.args.rows.now c.loop-i.i c.row.result.now c.in_err-add_counted.field-0.0 c.from_residual.result
    c.loop-i.invariant.schema c.row.ensures c.in_err-add_counted.ensures.damaged (search rules)

pub loop-i-preserved : goal.loop-i-preserved
loop-i-preserved c =
    let added = one_counted c.args.wanted.now c.args.list c.loop-i.list c.add_counted.new.list c.args.rows.now c.loop-i.i c.row.result.now c.loop-i.invariant.schema c.row.ensures c.loop-i.invariant.found c.in_ok-add_counted.ensures.added in
    record { schema = same_schema c.args.list c.add_counted.new.list _ added; found = added }

pub add_counted-requires : goal.add_counted-requires
add_counted-requires c = λ trusted.
    ap (λ (s : Schema). is_row s c.row.result.now) c.loop-i.invariant.schema
    ∙ row_passes (is_row c.args.list.schema) c.args.rows.now c.loop-i.i c.row.result.now (c.requires.trusted trusted) c.row.ensures
