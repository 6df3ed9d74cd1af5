-- One row more has its form, and a key.
use Rattle.std.proofs.Common.{◌∙◌}
use Rattle.unit_changes.proofs.Turning.{forms_next, keys_next}
use Rattle.unit_changes.proofs.table_rows.formed_rows.Goals as goal

pub loop-i-preserved : goal.loop-i-preserved
loop-i-preserved c = record {
  forms = forms_next c.args.schema.now c.args.rows.now c.loop-i.i c.row.result.now c.loop-i.formed.items c.push.new.self.items c.in_ok-formed_row.field-0 c.row.ensures c.in_ok-formed_row.ensures.form c.in_ok-push.ensures.items ∙ c.loop-i.invariant.forms;
  keys = λ rest. c.loop-i.invariant.keys (keys_next c.args.schema.now c.args.rows.now c.loop-i.i c.row.result.now c.row.ensures c.in_ok-formed_row.ensures.key rest);
}
