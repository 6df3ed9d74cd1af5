use Rattle.std.proofs.Common.{◌≡◌, ◌≤◌, ◌-◌, [], length, take}
use Rattle.conversation.specs.Attended.{attended_by}
use Rattle.conversation.specs.Feeding.{IsBetweenCommands, Told}
use Rattle.conversation.proofs.feeding.feed_some.Given as goal

abbrev pub invariant-feeding : goal.invariant-feeding
invariant-feeding g l = record {
  within : l.at ≤ length l.piece;
  settled : IsBetweenCommands l.front;
  settings : l.front.settings ≡ l.fn.front.settings;
  heard : Told g.A.Ask.asks l.fn.front.settings (attended_by l.fn.front l.fn.asker) (take l.at l.piece) l.fn.out.items [] (attended_by l.front l.asker) l.out.items;
}

abbrev pub decreases-feeding : goal.decreases-feeding
decreases-feeding g l = length l.piece - l.at
