use Rattle.drda_disk.proofs.Moments.{torn_within, and_stays}
use Rattle.drda_disk.proofs.through.write_through.Goals as goal

pub returns-clause-within : goal.returns-clause-within
returns-clause-within g c from m base low high each = and_stays _ _ _ _ (torn_within _ _ _ _ _ _ _ c.write_at.ensures.tears each low high) c.sync.ensures.stays

pub returns-in_err-write_at-clause-within : goal.returns-in_err-write_at-clause-within
returns-in_err-write_at-clause-within g c from m base low high each = torn_within _ _ _ _ _ _ _ c.write_at.ensures.tears each low high
