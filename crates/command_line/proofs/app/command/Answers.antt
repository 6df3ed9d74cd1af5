use Rattle.std.proofs.Common.{◌≡◌, ◌∙◌, refl}
use Rattle.std.proofs.lemmas.List.{drop_all}
use Rattle.clap.specs.Words.{app_of}
use Rattle.command_line.proofs.Owning.{kept, neither, next_word, no_word}
use Rattle.command_line.proofs.app.command.Goals as goal

pub loop-word-init : goal.loop-word-init
loop-word-init c =
    let about_is : app_of c.about-command.result ≡ app_of c.new.result = rw c.about-command.ensures refl in (
      _,
      (
        about_is ∙ c.new.ensures.app,
        λ args whole are more. kept _ (λ old new arg p added own. added.globals ∙ neither _ _ p own) (λ sub p old new adds. adds.shape p) args c.about-command.result whole (rw c.about-command.ensures c.new.ensures.local) are more,
      ),
      refl,
    )

pub loop-word-preserved : goal.loop-word-preserved
loop-word-preserved c =
    next_word _ c.args.subcommand.now.words.now c.loop-word.word-index _ c.loop-word.command c.in_ok-command.command c.arg_of.result c.loop-word-test.true c.arg_of.ensures c.in_ok-command.ensures c.loop-word.invariant

pub returns : goal.returns
returns c = no_word _ _ c.loop-word.command (drop_all c.loop-word.word-index c.args.subcommand.now.words.now c.loop-word-test.false) c.loop-word.invariant
