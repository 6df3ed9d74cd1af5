use Rattle.recovery.proofs.Laying.{doubts_are_laid}
use Rattle.recovery.proofs.laws.doubts_are_laid.Goals as goal

pub returns : goal.returns
returns c = doubts_are_laid c.records_lead_one_way.ensures.written
