use Rattle.std.proofs.Common.{◌≡◌, ◌+◌, length, false}
use Rattle.sql_lex.specs.Tokens.{closing}
use Rattle.sql_lex.proofs.cut.closing.Given as goal

abbrev pub invariant-loop-text : goal.invariant-loop-text
invariant-loop-text l = (closing false l.at l.text ≡ closing false 0 l.initial.text) × (l.at + length l.text ≡ length l.initial.text)

abbrev pub decreases-loop-text : goal.decreases-loop-text
decreases-loop-text l = length l.text
