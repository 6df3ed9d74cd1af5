use Rattle.drda_server.proofs.threads.admit.Goals as goal

pub returns-in-None-clause-none : goal.returns-in-None-clause-none
returns-in-None-clause-none g c none = c.admit.ensures.none c.in-None.is
