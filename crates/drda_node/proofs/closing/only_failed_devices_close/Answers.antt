use Rattle.drda_node.proofs.Failures.{only_failed_devices_close, only_faults_close}
use Rattle.drda_node.proofs.closing.only_failed_devices_close.Goals as goal

pub returns-clause-commands : goal.returns-clause-commands
returns-clause-commands c = only_failed_devices_close c.answers_belong_to_calls.ensures.belong

pub returns-clause-heard : goal.returns-clause-heard
returns-clause-heard c = only_faults_close c.answers_belong_to_calls.ensures.belong
