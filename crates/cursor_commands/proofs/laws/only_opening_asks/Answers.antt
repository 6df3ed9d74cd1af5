use Rattle.cursor_commands.proofs.laws.only_opening_asks.Goals as goal

pub returns-clause-fetching : goal.returns-clause-fetching
returns-clause-fetching c = λ rdb given k. tt

pub returns-clause-closing : goal.returns-clause-closing
returns-clause-closing c = λ rdb given k. tt
