use Rattle.cursor_commands.proofs.Local.{closing_local, fetching_local, opening_local}
use Rattle.cursor_commands.proofs.laws.other_sections_stay.Goals as goal

pub returns-clause-opening : goal.returns-clause-opening
returns-clause-opening c = opening_local c.calls_are_local.ensures.opened c.calls_are_local.ensures.advanced

pub returns-clause-fetching : goal.returns-clause-fetching
returns-clause-fetching c = fetching_local c.calls_are_local.ensures.advanced

pub returns-clause-closing : goal.returns-clause-closing
returns-clause-closing c = closing_local c.calls_are_local.ensures.closed
