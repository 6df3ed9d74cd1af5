use Rattle.std.proofs.Common.{◌≡◌, ◌-◌, length}
use Rattle.conversation.specs.Attended.{attended_by}
use Rattle.conversation.specs.Feeding.{IsBetweenCommands}
use Rattle.conversation.proofs.Pieces.{IsUnderWay}
use Rattle.conversation.proofs.feeding.feed.Given as goal

abbrev pub invariant-pieces : goal.invariant-pieces
invariant-pieces g l = record {
  settled : IsBetweenCommands l.front;
  settings : l.front.settings ≡ l.fn.front.settings;
  under_way : IsUnderWay g.A.Ask.asks l.fn.front.settings (attended_by l.fn.front l.fn.asker) l.piece l.fn.out.items l.taken (attended_by l.front l.asker) l.out.items;
}

abbrev pub decreases-pieces : goal.decreases-pieces
decreases-pieces g l = length l.piece - l.taken
