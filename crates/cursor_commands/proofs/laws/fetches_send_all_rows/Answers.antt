use Rattle.cursor_commands.proofs.Fetches.{query_read, send_all}
use Rattle.cursor_commands.proofs.laws.fetches_send_all_rows.Goals as goal

pub returns-clause-fetches : goal.returns-clause-fetches
returns-clause-fetches c = send_all

pub returns-clause-queries : goal.returns-clause-queries
returns-clause-queries c = query_read
