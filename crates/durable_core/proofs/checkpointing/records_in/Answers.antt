use Rattle.std.proofs.Common.{List, ℕ, sym, ap, ◌∙◌, ◌++◌, append-nil}
use Rattle.unit_journal.specs.Record.{entries_of}
use Rattle.rdb_core.specs.State.{state_of}
use Rattle.durable_core.proofs.Laid.{all_records, records_by}
use Rattle.durable_core.proofs.checkpointing.records_in.Goals as goal

pub returns : goal.returns
returns g c =
    let records = entries_of c.loop-xid.records.items in
    sym (ap (λ (left : List (List ℕ)). records ++ records_by (state_of c.args.core.now) left) c.in_default.ensures.0 ∙ append-nil records)
    ∙ c.loop-xid.invariant ∙ all_records (state_of c.args.core.now)
