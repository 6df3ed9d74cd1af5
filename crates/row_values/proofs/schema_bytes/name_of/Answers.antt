-- A name is UTF-8.
use Rattle.std.proofs.Common.{sym, ◌∙◌}
use Rattle.row_values.proofs.ByteSteps.{name_found, no_name}
use Rattle.row_values.proofs.schema_bytes.name_of.Goals as goal

pub returns-then-not-is_name : goal.returns-then-not-is_name
returns-then-not-is_name c = no_name c.args.bytes.now (sym c.is_name.ensures ∙ c.if-not-is_name.true)

pub returns : goal.returns
returns c = c.text_of.ensures ∙ name_found c.args.bytes.now (sym c.is_name.ensures ∙ c.if-not-is_name.false)
