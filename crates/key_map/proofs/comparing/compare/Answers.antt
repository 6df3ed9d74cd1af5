use Rattle.std.proofs.Common.{arith, sym, [], Less, Greater}
use Rattle.key_map.specs.RowForm.{row_form}
use Rattle.key_map.proofs.Joined.{ended, goes_on, whole}
use Rattle.key_map.proofs.comparing.compare.Goals as goal

pub returns-in-Before : goal.returns-in-Before
returns-in-Before c = sym (whole c.args.form.now (row_form c.args.schema.now c.args.row.now) Less (c.in-Before.ensures []))

pub returns-in-Behind : goal.returns-in-Behind
returns-in-Behind c = sym (whole c.args.form.now (row_form c.args.schema.now c.args.row.now) Greater (c.in-Behind.ensures []))

pub returns-in-Same-empty : goal.returns-in-Same-empty
returns-in-Same-empty c = sym (ended c.args.form.now (row_form c.args.schema.now c.args.row.now) c.in-Same-empty.field-0.now c.in-Same-empty.ensures (omega (arith, c.in-Same-empty.len_below)))

pub returns-in-Same : goal.returns-in-Same
returns-in-Same c = sym (goes_on c.args.form.now (row_form c.args.schema.now c.args.row.now) c.in-Same.field-0.now c.in-Same.ensures (omega (arith, c.in-Same.len_at_least)))
