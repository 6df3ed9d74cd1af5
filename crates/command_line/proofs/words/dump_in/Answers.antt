use Rattle.std.proofs.Common.{◌∙◌, ap, codes}
use Rattle.clap.proofs.WalkLemmas.{first_value-rows}
use Rattle.clap.specs.Words.{found_of}
use Rattle.command_line.specs.Job.{dump_by}
use Rattle.command_line.proofs.words.dump_in.Goals as goal

pub returns : goal.returns
returns c =
    let found = found_of c.args.given.now in
    c.dump_by.ensures ∙ ap dump_by (c.get_str.ensures ∙ first_value-rows found (codes "path"))
