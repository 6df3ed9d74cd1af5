use Rattle.std.proofs.Common.{[]}
use Rattle.sql_lex.specs.Tokens.{tokens}
use Rattle.sql_text.specs.Rules.{command_at}
use Rattle.sql_text.proofs.Answered.{few_tokens}
use Rattle.sql_text.proofs.Outcomes.{ok_parts}
use Rattle.sql_text.proofs.OnlyRules.{command_only}
use Rattle.sql_text.proofs.laws.one_statement.Goals as goal

pub returns : goal.returns
returns c = λ text a b fits is is'.
    let few = few_tokens text fits in
    (ok_parts (a, []) (b, []) (command_at (tokens text)) (command_only a (tokens text) few is) (command_only b (tokens text) few is')).0
