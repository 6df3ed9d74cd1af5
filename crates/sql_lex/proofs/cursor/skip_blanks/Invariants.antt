use Rattle.std.proofs.Common.{◌≡◌, ◌≤◌, length}
use Rattle.sql_lex.specs.Tokens.{tokens_ahead}
use Rattle.sql_lex.proofs.cursor.skip_blanks.Given as goal

abbrev pub invariant-loop-text : goal.invariant-loop-text
invariant-loop-text l = (tokens_ahead (l.fn.markers, l.text) ≡ tokens_ahead (l.fn.markers, l.initial.text)) × (length l.text ≤ length l.initial.text)

abbrev pub decreases-loop-text : goal.decreases-loop-text
decreases-loop-text l = length l.text
