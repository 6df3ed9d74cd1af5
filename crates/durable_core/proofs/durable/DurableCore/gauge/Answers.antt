use Rattle.std.proofs.Common.{IsTrue, false, string_bytes, subst, ◌≡◌}
use Rattle.rdb_core.specs.State.{recorder_of, state_of}
use Rattle.recovery.specs.Journaled.{OnDisk, shown_on}
use Rattle.durable_core.specs.Gauging.{IsGauge}
use Rattle.durable_core.proofs.Gauged.{gauged_by}
use Rattle.durable_core.proofs.durable.DurableCore.gauge.Goals as goal

pub returns-clause-gauge : goal.returns-clause-gauge
returns-clause-gauge g c =
    subst (λ (now : OnDisk g.row.D.Denot). IsTrue g.D.Disk.is_modelled → now.is_failed ≡ false → IsGauge (shown_on g.D.Disk.life now) c.gauge_of.result) c.self.view_is
    (λ modelled going. gauged_by g.D.Disk.is_modelled g.D.Disk.life (string_bytes c.self.inside.name) (state_of c.self.inside.core) (recorder_of c.self.inside.core) c.recorder.result.now c.gauge_of.result
    c.recorder.ensures c.self.invariant.0 modelled going c.gauge_of.ensures.half c.gauge_of.ensures.journal c.gauge_of.ensures.tables c.gauge_of.ensures.room c.gauge_of.ensures.records)
