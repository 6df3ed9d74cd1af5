use Rattle.std.proofs.Common.{◌≡◌, ◌∙◌, map}
use Rattle.clap.specs.Words.{app_of, kind_of, subcommand_rows_of}
use Rattle.clap.specs.declared.error.kind.ErrorKind.TheVariants as kind
use Rattle.command_line.proofs.Parsed.{no_faults, given_is, some_faults}
use Rattle.command_line.proofs.words.parse_words.Goals as goal

pub returns-in-Ok-clause-parses : goal.returns-in-Ok-clause-parses
returns-in-Ok-clause-parses g c =
    let words = map g.S.AsStr.text c.args.words.now in
    let app = app_of c.in_ok-drdad.field-0 in (
      no_faults app words c.in_ok-drdad.ensures c.in-Ok.ensures.kinds,
      given_is app words (subcommand_rows_of c.in-Ok.matches) c.in_ok-drdad.ensures (λ simple. (c.in-Ok.ensures.matches simple).1),
    )

pub returns-clause-parses : goal.returns-clause-parses
returns-clause-parses g c =
    let apart : kind_of c.in-Err.error ≡ kind.OutOfMemory → ⊥ = λ out. c.in_default.not-OutOfMemory (c.kind.ensures ∙ out) in
    some_faults (app_of c.in_ok-drdad.field-0) (map g.S.AsStr.text c.args.words.now) c.in-Err.error c.in_ok-drdad.ensures apart c.in-Err.ensures.kinds
