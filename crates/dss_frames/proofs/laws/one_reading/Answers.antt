use Rattle.dss_frames.proofs.Readings.{has_one_reading}
use Rattle.dss_frames.proofs.laws.one_reading.Goals as goal

pub returns : goal.returns
returns c = λ text. has_one_reading text
