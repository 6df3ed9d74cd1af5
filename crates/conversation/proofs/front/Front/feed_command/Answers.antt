use Rattle.conversation.proofs.NotTaken.{keeps_to_nothing}
use Rattle.conversation.proofs.front.Front.feed_command.Goals as goal

pub returns-then-is_closed-clause-first : goal.returns-then-is_closed-clause-first
returns-then-is_closed-clause-first c = λ un. keeps_to_nothing c.args.self.now.rest c.args.piece.now un
