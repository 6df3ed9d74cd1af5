use Rattle.std.proofs.Common.{ℕ, List, subst}
use Rattle.unit_journal.specs.Record.{entry_of}
use Rattle.unit_records.specs.Read.{ReadsRecord}
use Rattle.recovery.specs.Replay.{doubts_in}
use Rattle.durable_core.proofs.LeftInDoubt.{holds}
use Rattle.durable_core.proofs.holders.holds_for_one.Goals as goal

pub returns : goal.returns
returns c =
    holds c.records_have_one_reading.ensures.once (entry_of c.args.entry.now) (doubts_in c.args.units.now) c.read-said.result c.is_holder.result
    (subst (λ (body : List ℕ). ReadsRecord c.args.entry.now.kind body c.read-said.result) c.as_slice.ensures.value c.read-said.ensures.reads) c.is_holder.ensures
