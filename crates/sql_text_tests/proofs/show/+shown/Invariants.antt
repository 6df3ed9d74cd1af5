use Rattle.sql_text_tests.proofs.show.+shown.Given as goal

abbrev pub decreases-joined : goal.decreases-joined
decreases-joined l = l.depth

abbrev pub decreases-predicate : goal.decreases-predicate
decreases-predicate l = l.depth
