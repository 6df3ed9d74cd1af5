use Rattle.journal_recorder.proofs.laying.lay.Goals as goal

pub returns-in-Commit-clause-ok : goal.returns-in-Commit-clause-ok
returns-in-Commit-clause-ok c = rw c.in-Commit.is (c.lay_commit.ensures.ok c.args.layout)

pub returns-in-Commit-clause-err : goal.returns-in-Commit-clause-err
returns-in-Commit-clause-err c = rw c.in-Commit.is (c.lay_commit.ensures.err c.args.layout)

pub returns-in_ok-lay_decide-in-Decide-clause-ok : goal.returns-in_ok-lay_decide-in-Decide-clause-ok
returns-in_ok-lay_decide-in-Decide-clause-ok c = rw c.in-Decide.is (c.in_ok-lay_decide-in-Decide.ensures c.args.layout c.args.room)

pub returns-in_ok-lay_heuristic-in-Heuristic-clause-ok : goal.returns-in_ok-lay_heuristic-in-Heuristic-clause-ok
returns-in_ok-lay_heuristic-in-Heuristic-clause-ok c = rw c.in-Heuristic.is (c.in_ok-lay_heuristic-in-Heuristic.ensures c.args.layout c.args.room)

pub returns-in_ok-lay_forget-in-Forget-clause-ok : goal.returns-in_ok-lay_forget-in-Forget-clause-ok
returns-in_ok-lay_forget-in-Forget-clause-ok c = rw c.in-Forget.is (c.in_ok-lay_forget-in-Forget.ensures c.args.layout c.args.room)
