use Rattle.cursor_commands.proofs.Counting.{is_block, one_block}
use Rattle.cursor_commands.proofs.laws.blocks_are_longest.Goals as goal

pub returns-clause-block : goal.returns-clause-block
returns-clause-block c = is_block

pub returns-clause-one : goal.returns-clause-one
returns-clause-one c = one_block
