use Rattle.recovery_tests.proofs.journals.told.Goals as goal

pub shown-requires : goal.shown-requires
shown-requires c = c.in-Ok.ensures.pages.inside 0 c.in_ok-checkpoint.ensures
