-- An SQLCARD has 65 bytes.
use Rattle.std.proofs.Common.{rules, of_z, to_z, w32}
use Rattle.command_kit.proofs.card.write_card.Goals as goal

pub returns-clause-full : goal.returns-clause-full
returns-clause-full c =
    let size = c.texts_have_lengths.ensures.sqlcard (to_z w32 (of_z w32 c.args.code)) c.args.state.now c.args.count c.told-state in
    search rules
