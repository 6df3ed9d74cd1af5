use Rattle.std.proofs.lemmas.Result.{IfOk-weaker}
use Rattle.unit_journal.specs.LaidRecord.{entry_in}
use Rattle.unit_records.specs.Records.{decided, record_bytes}
use Rattle.journal_recorder.proofs.Entries.{entry_of_kind}
use Rattle.journal_recorder.proofs.laying.lay_decision.Goals as goal

pub returns-clause-entry : goal.returns-clause-entry
returns-clause-entry c =
    IfOk-weaker c.finish.result _ _ (λ laid is. entry_of_kind c.args.kind (entry_in laid) c.in_ok-bytes.bytes.items _ (record_bytes (decided c.args.xid.now c.args.decision)) is c.in_ok-write_decide.ensures.ok c.in_ok-bytes.ensures.front) c.finish.ensures.entry
