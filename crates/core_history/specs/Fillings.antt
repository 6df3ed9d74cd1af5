-- How full a core is.
use Rattle.std.specs.Prelude.{◌≡◌, ℕ, ◌^◌, ◌-◌, ◌*◌, ◌/◌, ◌&&◌, nat_lt, Bool, min, length}
use Rattle.xa_manager.specs.Branch.{in_doubt_xids}
use Rattle.recovery.specs.Journaled.{OnDisk, Shown}
use Rattle.durable_core.specs.Gauging.{IsGauge}
use Rattle.turns.specs.declared.gauge.Gauge.{Gauge}
use Rattle.core_history.specs.declared.filling.Filling.{Filling}

-- a number, as far as one is counted up to
abbrev pub counted_up : ℕ → ℕ
counted_up n = min n (2 ^ 64 - 1)

-- the bytes that are left for records, and how many units are in doubt
abbrev pub filling_of : {D : Type 0} → OnDisk D → Filling
filling_of core = record { room = core.room; doubts = counted_up (length (in_doubt_xids core.state.branches)) }

-- More than 16 MiB of records, and than a sixteenth of a half, stand since the last checkpoint, which laid so many bytes of them.
abbrev pub has_many : Gauge → ℕ → Bool
has_many g laid = nat_lt (16 * 2 ^ 20) (g.records - laid) && nat_lt (g.half / 16) (g.records - laid)

-- that is told of a core
abbrev pub IsOverdue : Shown → ℕ → Bool → Type 0
IsOverdue s laid told = (g : Gauge) × IsGauge s g × (told ≡ has_many g laid)
