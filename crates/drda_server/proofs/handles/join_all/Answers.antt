use Rattle.std.proofs.Common.{rules, ◌≡◌, ◌<◌}
use Rattle.drda_server.proofs.Settling.{one_joined}
use Rattle.drda_server.proofs.handles.join_all.Goals as goal

pub loop-place-preserved : goal.loop-place-preserved
loop-place-preserved g c = one_joined _ c.args.threads.now.items c.loop-place.threads.items c.join_at.new.threads.items c.loop-place.place c.loop-place.invariant c.join_at.ensures.kept c.join_at.ensures.emptied
