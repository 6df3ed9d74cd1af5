use Rattle.unit_records.proofs.Parts.{short_xid}
use Rattle.unit_records.proofs.length.names_a_branch.Goals as goal

pub returns : goal.returns
returns c =
    let named = (c.one_reading.ensures.found c.args.bytes.now c.args.bytes.now (λ i. (c.type_inv.bytes i).fits) c.requires).0 in
    record { named = named; short = short_xid c.args.bytes.now named }
