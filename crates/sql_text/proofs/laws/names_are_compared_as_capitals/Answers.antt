use Rattle.sql_text.proofs.Undone.{same_names, capitals_once}
use Rattle.sql_text.proofs.laws.names_are_compared_as_capitals.Goals as goal

pub returns-clause-same : goal.returns-clause-same
returns-clause-same c = λ a b. same_names a b

pub returns-clause-once : goal.returns-clause-once
returns-clause-once c = λ a. capitals_once a
