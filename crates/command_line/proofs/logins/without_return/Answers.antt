use Rattle.std.proofs.Common.{◌∙◌, sym, ap, arith, Some, None}
use Rattle.std.proofs.lemmas.Str.Pattern.{strip_suffix_char}
use Rattle.command_line.specs.Job.{without_return}
use Rattle.command_line.proofs.Returned.{stripped, plain}
use Rattle.command_line.proofs.logins.without_return.Goals as goal

pub returns-in-Some : goal.returns-in-Some
returns-in-Some c = sym (ap without_return (strip_suffix_char 13 c.args.line.now (Some c.in-Some.front) c.in-Some.ensures.cases (omega arith)) ∙ stripped c.in-Some.front.now)

pub returns-in-None : goal.returns-in-None
returns-in-None c = sym (plain c.args.line.now (strip_suffix_char 13 c.args.line.now None c.in-None.ensures.cases (omega arith)))
