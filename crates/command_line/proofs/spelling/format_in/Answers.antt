use Rattle.std.proofs.Common.{◌∙◌, arith, sym}
use Rattle.command_line.proofs.Spelled.{equal, is_equal, is_format, no_format, no_number, not_both}
use Rattle.command_line.proofs.spelling.format_in.Goals as goal

-- no number
pub returns-in_default : goal.returns-in_default
returns-in_default c = no_number c.args.text.now c.in_default.ensures

-- more than 32 bits
pub returns-then-number : goal.returns-then-number
returns-then-number c = no_format c.args.text.now c.in-Some.number c.in-Some.ensures (λ less is. omega (arith, less, c.if-number.true))

pub returns-then-eq : goal.returns-then-eq
returns-then-eq c =
    let printed = c.as_str.ensures.value ∙ c.in_ok-printed.ensures.ok in
    is_format c.args.text.now c.in-Some.number (omega (arith, c.if-number.false)) (equal c.args.text.now c.as_str.result.now (sym c.if-eq.ensures) ∙ printed)

-- spelled otherwise
pub returns : goal.returns
returns c =
    let printed = c.as_str.ensures.value ∙ c.in_ok-printed.ensures.ok in
    no_format c.args.text.now c.in-Some.number c.in-Some.ensures (λ less is. not_both _ c.if-eq.ensures (is_equal c.args.text.now c.as_str.result.now (is ∙ sym printed)))
