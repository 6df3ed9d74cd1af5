use Rattle.std.proofs.Common.{Some, None}
use Rattle.drda_server.proofs.Settling.{there}
use Rattle.drda_server.proofs.handles.join_at.Goals as goal

pub returns-in-Some-clause-kept : goal.returns-in-Some-clause-kept
returns-in-Some-clause-kept g c =
    there _ c.args.threads.now.items c.args.place c.index_mut.result.now c.take.result (Some c.in-Some.thread) c.requires c.index_mut.ensures.value c.take.ensures.value c.in-Some.is (c.join.result, c.join.ensures)

pub returns-in_default-clause-kept : goal.returns-in_default-clause-kept
returns-in_default-clause-kept g c =
    there _ c.args.threads.now.items c.args.place c.index_mut.result.now c.take.result None c.requires c.index_mut.ensures.value c.take.ensures.value c.in_default.is tt
