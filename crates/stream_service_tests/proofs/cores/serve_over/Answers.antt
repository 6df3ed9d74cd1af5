use Rattle.std.proofs.Common.{sym, subst}
use Rattle.conversation.specs.Held.{Held}
use Rattle.dss_frames.specs.Fault.{IsUnfinished}
use Rattle.stream_service_tests.proofs.cores.serve_over.Goals as goal

pub serve-requires : goal.serve-requires
serve-requires g c = λ still_open. subst (λ (h : Held). IsUnfinished h.rest) (sym c.in-Ok.ensures) c.stays_read.ensures.nothing
