use Rattle.conversation.proofs.TreesOf.{commands_are_trees, faults_are_trees, first_are_one_tree}
use Rattle.conversation.proofs.laws.replies_are_trees.Goals as goal

pub returns-clause-commands : goal.returns-clause-commands
returns-clause-commands g c = commands_are_trees g.A.Ask.asks

pub returns-clause-before_sql : goal.returns-clause-before_sql
returns-clause-before_sql g c = first_are_one_tree g.A.Ask.asks

pub returns-clause-faults : goal.returns-clause-faults
returns-clause-faults g c = faults_are_trees
