use Rattle.std.proofs.Common.{◌∙◌, ap₂, codes}
use Rattle.clap.proofs.WalkLemmas.{first_value-rows}
use Rattle.clap.specs.Words.{found_of}
use Rattle.command_line.specs.Job.{grow_by}
use Rattle.command_line.proofs.words.grow_in.Goals as goal

pub returns : goal.returns
returns c =
    let found = found_of c.args.given.now in
    c.grow_by.ensures ∙ ap₂ (λ f x. f x) (ap₂ grow_by (c.get_str.ensures ∙ first_value-rows found (codes "path")) (c.get_str-2.ensures ∙ first_value-rows found (codes "new"))) (c.get_str-3.ensures ∙ first_value-rows found (codes "size"))
