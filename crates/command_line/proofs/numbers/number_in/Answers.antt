use Rattle.std.proofs.Common.{◌∙◌, ap, arith, sym, Some, None}
use Rattle.std.proofs.lemmas.Str.Pattern.{strip_prefix_char}
use Rattle.command_line.specs.Number.{number_in}
use Rattle.command_line.proofs.Decimal.{not_read, read, signed}
use Rattle.command_line.proofs.numbers.number_in.Goals as goal

pub returns-in-Ok : goal.returns-in-Ok
returns-in-Ok c = read c.args.text.now c.in-Ok.number (strip_prefix_char 43 c.args.text.now None c.in-None.ensures.cases (omega arith)) c.in-Ok.ensures.value.0

pub returns-in-Err : goal.returns-in-Err
returns-in-Err c = not_read c.args.text.now (strip_prefix_char 43 c.args.text.now None c.in-None.ensures.cases (omega arith)) c.in-Err.ensures.value.0

-- a plus
pub returns-in-Some : goal.returns-in-Some
returns-in-Some c = signed c.in-Some.field-0.now ∙ ap number_in (sym (strip_prefix_char 43 c.args.text.now (Some c.in-Some.field-0) c.in-Some.ensures.cases (omega arith)))
