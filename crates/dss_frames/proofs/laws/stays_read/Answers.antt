use Rattle.dss_frames.proofs.Holds.{fault_more}
use Rattle.dss_frames.proofs.Readings.{stands_once, nothing_is_unfinished}
use Rattle.dss_frames.proofs.laws.stays_read.Goals as goal

pub returns-clause-nothing : goal.returns-clause-nothing
returns-clause-nothing c = nothing_is_unfinished

pub returns-clause-one : goal.returns-clause-one
returns-clause-one c = λ bytes. stands_once bytes

pub returns-clause-fault : goal.returns-clause-fault
returns-clause-fault c = λ bytes more fault h. fault_more bytes more fault h
