use Rattle.drda_node.proofs.Histories.{calls_are_histories}
use Rattle.drda_node.proofs.laws.calls_are_histories.Goals as goal

pub returns : goal.returns
returns c = calls_are_histories
