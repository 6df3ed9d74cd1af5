use Rattle.std.proofs.Common.{◌≡◌, length}
use Rattle.drda_server.proofs.handles.no_threads.Given as goal

abbrev pub invariant-loop : goal.invariant-loop
invariant-loop g l = length l.threads.items ≡ l.counter
