use Rattle.std.proofs.Common.{◌≡◌, ℕ, Option, Ok, Err, sym, subst, ◌∙◌}
use Rattle.std.specs.Prelude.{MatchOption}
use Rattle.drda_commands.specs.declared.given.Given as rust_given
use Rattle.drda_commands.specs.declared.refusal.Refusal.TheVariants.{ValueNotSupported}
use Rattle.drda_commands.specs.Given.{Given}
use Rattle.drda_commands.specs.Judge.{none_bad}
use Rattle.drda_commands.specs.Tables.{items_for}
use Rattle.drda_commands.specs.Views.{given_of}
use Rattle.drda_commands.proofs.Required.{passed}
use Rattle.drda_commands.proofs.judging.judge.Goals as goal

pub returns-clause-brings : goal.returns-clause-brings
returns-clause-brings c =
    let brought : rust_given.Given = record { parameters = c.in_ok-object.object.value; objects = c.args.objects } in
    let given : Given = given_of brought in
    passed c.args.unicode c.in-Some.command given
    (sym c.faults_in-faults.ensures.twice ∙ c.if-faults.false)
    (sym c.faults_in-faults.ensures.missing ∙ c.if-faults-2.false)
    (subst (λ (bad : Option ℕ). MatchOption bad (none_bad c.args.unicode (items_for c.in-Some.command) given ≡ Ok tt) (λ code. none_bad c.args.unicode (items_for c.in-Some.command) given ≡ Err (ValueNotSupported code))) c.in_default-bad.is c.faults_in-faults.ensures.bad)
