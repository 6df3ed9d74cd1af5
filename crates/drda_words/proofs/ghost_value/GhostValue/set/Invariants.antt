use Rattle.drda_words.proofs.ghost_value.GhostValue.set.Given as goal

abbrev pub ghost-of : goal.ghost-of
ghost-of g a = g.picked
