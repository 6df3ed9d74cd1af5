use Rattle.dss_frames.proofs.Wanting.{is_wanted, not_with_command}
use Rattle.dss_frames.proofs.looking.wanted.Goals as goal

pub returns-in-Ok-Nothing-clause-exact : goal.returns-in-Ok-Nothing-clause-exact
returns-in-Ok-Nothing-clause-exact c = λ un.
    let h = rw c.in-Ok-Nothing.field-0-is at c.in-Ok-Nothing.ensures in
    is_wanted c.args.bytes.now c.in-Ok-Nothing.place c.missing.result h.1 h.2 c.missing.ensures

pub returns-in-Ok-Command-clause-exact : goal.returns-in-Ok-Command-clause-exact
returns-in-Ok-Command-clause-exact c = λ un.
    let h = rw c.in-Ok-Command.field-0-is at c.in-Ok-Command.ensures in
    absurd (not_with_command c.args.bytes.now c.in-Ok-Command.field-0-0 h un)

pub returns-in-Err-clause-exact : goal.returns-in-Err-clause-exact
returns-in-Err-clause-exact c = λ un. absurd (un.no_fault c.in-Err.field-0 c.in-Err.ensures)
