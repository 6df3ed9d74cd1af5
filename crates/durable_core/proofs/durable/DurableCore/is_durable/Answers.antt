use Rattle.std.proofs.Common.{◌≡◌, IsTrue, false, string_bytes, subst}
use Rattle.rdb_core.specs.State.{recorder_of, state_of}
use Rattle.recovery.specs.Journaled.{IsDurable, OnDisk, shown_on}
use Rattle.durable_core.proofs.Recording.{durable_from}
use Rattle.durable_core.proofs.durable.DurableCore.is_durable.Goals as goal

pub returns : goal.returns
returns g c = subst (λ (now : OnDisk g.row.D.Denot). IsTrue g.D.Disk.is_modelled → now.is_failed ≡ false → IsDurable (shown_on g.D.Disk.life now)) c.self.view_is
    (durable_from g.D.Disk.is_modelled g.D.Disk.life (string_bytes c.self.inside.name) c.calls_make_records.ensures (state_of c.self.inside.core) (recorder_of c.self.inside.core) c.self.invariant.0)
