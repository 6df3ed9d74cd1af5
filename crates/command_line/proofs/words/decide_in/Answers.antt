use Rattle.std.proofs.Common.{◌≡◌, ◌∙◌, ap₂, codes, subst, Option, IfOk}
use Rattle.std.specs.Prelude.{option_map}
use Rattle.clap.proofs.WalkLemmas.{first_value-rows}
use Rattle.clap.specs.Words.{found_of}
use Rattle.command_line.specs.Job.{Job, decide_by, plain_job}
use Rattle.command_line.proofs.words.decide_in.Goals as goal

pub returns : goal.returns
returns c =
    let found = found_of c.args.given.now in
    subst (λ (said : Option Job). IfOk c.decide_by.result (λ job. option_map plain_job job ≡ said))
    (ap₂ (λ f x. f x) (ap₂ (λ f x. f x) (ap₂ (λ f x. f x) (ap₂ decide_by (c.get_str.ensures ∙ first_value-rows found (codes "path")) (c.get_str-2.ensures ∙ first_value-rows found (codes "xid"))) (c.get_str-3.ensures ∙ first_value-rows found (codes "decision"))) (c.get_str-4.ensures ∙ first_value-rows found (codes "branch"))) (c.get_str-5.ensures ∙ first_value-rows found (codes "last")))
    c.decide_by.ensures
