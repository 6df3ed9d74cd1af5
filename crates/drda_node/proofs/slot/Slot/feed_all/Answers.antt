use Rattle.conversation.specs.Attended.{attended_by}
use Rattle.drda_node.proofs.Askers.{hears_piece}
use Rattle.drda_node.proofs.Journal.{of_some}
use Rattle.drda_node.proofs.slot.Slot.feed_all.Goals as goal

pub returns-clause-hears : goal.returns-clause-hears
returns-clause-hears g c =
    let (of_core, reach) = hears_piece g.D.Disk.is_modelled g.D.Disk.life c.calls_go_on.ensures c.feed_all.result c.args.self.now.front.settings (attended_by c.args.self.now.front c.args.asker.now) (attended_by c.feed_all.new.front c.feed_all.new.asker) c.args.piece.now
    c.args.out.now.items c.feed_all.new.out.items c.feed_all.ensures.hears in
    of_core

pub returns-clause-journaled : goal.returns-clause-journaled
returns-clause-journaled g c =
    let (of_core, reach) = hears_piece g.D.Disk.is_modelled g.D.Disk.life c.calls_go_on.ensures c.feed_all.result c.args.self.now.front.settings (attended_by c.args.self.now.front c.args.asker.now) (attended_by c.feed_all.new.front c.feed_all.new.asker) c.args.piece.now
    c.args.out.now.items c.feed_all.new.out.items c.feed_all.ensures.hears in
    of_some g.D.Disk.is_modelled g.D.Disk.life c.calls_go_on.ensures c.args.asker.now c.feed_all.new.asker c.is_durable.ensures reach.1

pub returns-clause-same_asker : goal.returns-clause-same_asker
returns-clause-same_asker g c =
    let (of_core, reach) = hears_piece g.D.Disk.is_modelled g.D.Disk.life c.calls_go_on.ensures c.feed_all.result c.args.self.now.front.settings (attended_by c.args.self.now.front c.args.asker.now) (attended_by c.feed_all.new.front c.feed_all.new.asker) c.args.piece.now
    c.args.out.now.items c.feed_all.new.out.items c.feed_all.ensures.hears in
    reach.0
