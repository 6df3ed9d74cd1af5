use Rattle.std.proofs.Common.{arith}
use Rattle.std.proofs.lemmas.Result.{IfOk-weaker}
use Rattle.journal_recorder.proofs.laying.lay_decide.Goals as goal

pub returns : goal.returns
returns c layout room = IfOk-weaker c.lay_decision.result _ _ (λ laid is. record {
  entry = is;
  good = c.lay_decision.ensures.good;
  fits = omega (arith, (c.decisions_have_room.ensures.no_more layout c.args.xid.now c.args.decision).0);
}) c.lay_decision.ensures.entry
