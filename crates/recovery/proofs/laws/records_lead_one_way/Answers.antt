use Rattle.recovery.proofs.Leading.{leading_were_written, no_stop, one_state, written_lead}
use Rattle.recovery.proofs.laws.records_lead_one_way.Goals as goal

pub returns : goal.returns
returns c = record {
  one = one_state c.records_have_one_reading.ensures.once;
  damage = no_stop c.records_have_one_reading.ensures.once;
  written = written_lead;
  back = leading_were_written;
}
