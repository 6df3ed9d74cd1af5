-- What is read is the record that stands there, since there is one at most.
use Rattle.std.proofs.Common.{subst}
use Rattle.unit_journal.specs.declared.kind.Kind.{Kind}
use Rattle.unit_journal.specs.declared.kind.Kind.TheVariants.{Commit, Decide, Forget, Heuristic, Prepare}
use Rattle.unit_records.specs.Records.{IsRecord}
use Rattle.unit_records.proofs.Bodies.{gives}
use Rattle.unit_records.proofs.record.UnitRecord.read.Goals as goal

pub returns-in-Commit-clause-gives : goal.returns-in-Commit-clause-gives
returns-in-Commit-clause-gives c = λ r there. gives c.records_have_one_reading.ensures.once Commit c.args.body.now r c.read_commit.result c.read_commit.ensures (subst (λ (k : Kind). IsRecord k c.args.body.now r) c.in-Commit.is there)

pub returns-in-Prepare-clause-gives : goal.returns-in-Prepare-clause-gives
returns-in-Prepare-clause-gives c = λ r there. gives c.records_have_one_reading.ensures.once Prepare c.args.body.now r c.read_prepare.result c.read_prepare.ensures (subst (λ (k : Kind). IsRecord k c.args.body.now r) c.in-Prepare.is there)

pub returns-in-Decide-clause-gives : goal.returns-in-Decide-clause-gives
returns-in-Decide-clause-gives c = λ r there. gives c.records_have_one_reading.ensures.once Decide c.args.body.now r c.read_decide.result c.read_decide.ensures (subst (λ (k : Kind). IsRecord k c.args.body.now r) c.in-Decide.is there)

pub returns-in-Heuristic-clause-gives : goal.returns-in-Heuristic-clause-gives
returns-in-Heuristic-clause-gives c = λ r there. gives c.records_have_one_reading.ensures.once Heuristic c.args.body.now r c.read_heuristic.result c.read_heuristic.ensures (subst (λ (k : Kind). IsRecord k c.args.body.now r) c.in-Heuristic.is there)

pub returns-in-Forget-clause-gives : goal.returns-in-Forget-clause-gives
returns-in-Forget-clause-gives c = λ r there. gives c.records_have_one_reading.ensures.once Forget c.args.body.now r c.read_forget.result c.read_forget.ensures (subst (λ (k : Kind). IsRecord k c.args.body.now r) c.in-Forget.is there)
