use Rattle.dss_frames.proofs.Written.{written-length, written_is}
use Rattle.dss_frames.proofs.writing.written_dss_is_read.Goals as goal

pub returns-clause-length : goal.returns-clause-length
returns-clause-length c = λ format correlator contents. written-length format correlator contents

pub returns-clause-dss : goal.returns-clause-dss
returns-clause-dss c = λ format correlator contents lt fits. written_is format correlator contents lt fits
