-- By the laws of the readers.
use Rattle.std.proofs.Common.{rules}
use Rattle.command_kit.proofs.Sent.{not_described, row_read}
use Rattle.command_kit.proofs.values.read_values.Goals as goal

pub returns-in_err-descriptor : goal.returns-in_err-descriptor
returns-in_err-descriptor c = not_described c.readings_are_found.ensures.described c.args.description.now c.args.row.now c.in_err-descriptor.field-0.0 c.from_residual.result c.in_err-descriptor.ensures (search rules)

pub returns : goal.returns
returns c = row_read c.readings_are_found.ensures.descriptor c.readings_are_found.ensures.row c.readings_are_found.ensures.values c.args.description.now c.args.row.now _ c.read_row.result c.in_ok-descriptor.ensures c.read_row.ensures.values
