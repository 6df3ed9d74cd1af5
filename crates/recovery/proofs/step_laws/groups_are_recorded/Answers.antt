use Rattle.recovery.proofs.Grouping.{groups_are_of_doubts, groups_keep, groups_lead}
use Rattle.recovery.proofs.DueKinds.{groups_are_known}
use Rattle.recovery.proofs.step_laws.groups_are_recorded.Goals as goal

pub returns-clause-keep : goal.returns-clause-keep
returns-clause-keep c = groups_keep c.steps_are_recorded.ensures.keep

pub returns-clause-lead : goal.returns-clause-lead
returns-clause-lead c = let steps = c.steps_are_recorded.ensures in groups_lead steps.keep steps.lead c.calls_go_together.ensures

pub returns-clause-decisions : goal.returns-clause-decisions
returns-clause-decisions c = groups_are_of_doubts c.doubts_hold_their_decisions.ensures

pub returns-clause-known : goal.returns-clause-known
returns-clause-known c = groups_are_known
