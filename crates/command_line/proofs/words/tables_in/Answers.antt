use Rattle.std.proofs.Common.{◌∙◌, ap, codes}
use Rattle.clap.proofs.WalkLemmas.{first_value-rows}
use Rattle.clap.specs.Words.{found_of}
use Rattle.command_line.specs.Job.{tables_by}
use Rattle.command_line.proofs.words.tables_in.Goals as goal

pub returns : goal.returns
returns c =
    let found = found_of c.args.given.now in
    c.tables_by.ensures ∙ ap tables_by (c.get_str.ensures ∙ first_value-rows found (codes "path"))
