use Rattle.conversation.specs.Attended.{attended_by}
use Rattle.drda_node.proofs.Askers.{takes}
use Rattle.drda_node.proofs.Journal.{of_some}
use Rattle.drda_node.proofs.slot.Slot.feed.Goals as goal

pub returns-clause-takes : goal.returns-clause-takes
returns-clause-takes g c =
    let (of_core, reach) = takes g.D.Disk.is_modelled g.D.Disk.life c.calls_go_on.ensures c.args.self.now.front.settings (attended_by c.args.self.now.front c.args.asker.now) (attended_by c.feed.new.front c.feed.new.asker) c.args.piece.now
    c.args.out.now.items c.feed.new.out.items c.feed.result c.feed.ensures.takes in
    of_core

pub returns-clause-journaled : goal.returns-clause-journaled
returns-clause-journaled g c =
    let (of_core, reach) = takes g.D.Disk.is_modelled g.D.Disk.life c.calls_go_on.ensures c.args.self.now.front.settings (attended_by c.args.self.now.front c.args.asker.now) (attended_by c.feed.new.front c.feed.new.asker) c.args.piece.now
    c.args.out.now.items c.feed.new.out.items c.feed.result c.feed.ensures.takes in
    of_some g.D.Disk.is_modelled g.D.Disk.life c.calls_go_on.ensures c.args.asker.now c.feed.new.asker c.is_durable.ensures reach.1

pub returns-clause-same_asker : goal.returns-clause-same_asker
returns-clause-same_asker g c =
    let (of_core, reach) = takes g.D.Disk.is_modelled g.D.Disk.life c.calls_go_on.ensures c.args.self.now.front.settings (attended_by c.args.self.now.front c.args.asker.now) (attended_by c.feed.new.front c.feed.new.asker) c.args.piece.now
    c.args.out.now.items c.feed.new.out.items c.feed.result c.feed.ensures.takes in
    reach.0
