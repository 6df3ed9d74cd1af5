use Rattle.drda_node.proofs.SerialOrder.{histories_lead, machines_are_serial, sane_openings_begin}
use Rattle.drda_node.proofs.serial.machines_are_serial.Goals as goal

pub returns : goal.returns
returns c =
    let law = c.answers_are_serial.ensures in
    record { lead = histories_lead law.lead_on; openings = sane_openings_begin; serial = machines_are_serial law.lead_on law.serial }
