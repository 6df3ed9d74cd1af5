use Rattle.unit_journal.proofs.Readings.{one_list, not_both, one_damage}
use Rattle.unit_journal.proofs.laws.a_region_has_one_reading.Goals as goal

pub returns : goal.returns
returns c = record { records = one_list; whole = not_both; damage = one_damage }
