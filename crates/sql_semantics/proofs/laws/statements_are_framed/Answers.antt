use Rattle.sql_semantics.proofs.Covering.{covered_is_enough, rows_have_keys}
use Rattle.sql_semantics.proofs.Framing.{frame_law}
use Rattle.sql_semantics.proofs.Lying.{changes_lie}
use Rattle.sql_semantics.proofs.laws.statements_are_framed.Goals as goal

pub returns-clause-enough : goal.returns-clause-enough
returns-clause-enough c = covered_is_enough c.keys_are_ordered.ensures.total

pub returns-clause-framed : goal.returns-clause-framed
returns-clause-framed c = frame_law c.keys_are_ordered.ensures.total

pub returns-clause-lies : goal.returns-clause-lies
returns-clause-lies c = changes_lie c.values_have_their_bytes.ensures.written

pub returns-clause-keys : goal.returns-clause-keys
returns-clause-keys c = rows_have_keys
