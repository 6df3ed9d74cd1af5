use Rattle.std.proofs.Common.{arith}
use Rattle.std.proofs.lemmas.Result.{IfOk-weaker}
use Rattle.unit_journal.specs.LaidRecord.{entry_in}
use Rattle.unit_records.specs.Records.{forgotten}
use Rattle.xa_manager.specs.declared.due.Decision.TheVariants.{Commit}
use Rattle.journal_recorder.proofs.Entries.{entry_is}
use Rattle.journal_recorder.proofs.laying.lay_forget.Goals as goal

pub returns : goal.returns
returns c layout room = IfOk-weaker c.finish.result _ _ (λ laid is. record {
  entry = entry_is (forgotten c.args.xid.now) (entry_in laid) c.in_ok-bytes.bytes.items _ is c.in_ok-write_forget.ensures.ok c.in_ok-bytes.ensures.front;
  good = c.forget_length.ensures.named;
  fits = omega (arith, (c.decisions_have_room.ensures.no_more layout c.args.xid.now Commit).2);
}) c.finish.ensures.entry
