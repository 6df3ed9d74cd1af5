-- A text is judged by its length, then as UTF-8, and then read.
use Rattle.std.proofs.Common.{◌≡◌, ◌≤◌, ℕ, List, length, ap, sym, subst, ◌∙◌, Err}
use Rattle.std.specs.Prelude.{IfSome}
use Rattle.sql_text.specs.Text.{but_memory, reading}
use Rattle.command_kit.specs.Text.{told}
use Rattle.command_kit.proofs.Texts.{is_read, not_utf8, refused_as}
use Rattle.command_kit.proofs.text.statement_of.Goals as goal

pub returns-in_default : goal.returns-in_default
returns-in_default c = not_utf8 c.args.text.now c.if-text-gt-MAX_TEXT_LENGTH.false c.in_default.ensures.cases.0

pub returns-in-Ok-parse : goal.returns-in-Ok-parse
returns-in-Ok-parse c =
    let same = c.in-Ok.ensures.cases.0 in
    let short = c.if-text-gt-MAX_TEXT_LENGTH.false in
    let within : length c.in-Ok.text.now ≤ 32767 = subst (λ (t : List ℕ). length t ≤ 32767) (sym same) short in
    is_read c.args.text.now short c.in-Ok.ensures.cases.1 ∙ ap told (ap reading (sym same) ∙ c.in-Ok-parse.ensures.exact within)

pub returns-in-Err : goal.returns-in-Err
returns-in-Err c =
    let same = c.in-Ok.ensures.cases.0 in
    let short = c.if-text-gt-MAX_TEXT_LENGTH.false in
    let within : length c.in-Ok.text.now ≤ 32767 = subst (λ (t : List ℕ). length t ≤ 32767) (sym same) short in
    let said = subst (λ (t : List ℕ). IfSome (but_memory c.in-Err.error) (λ f. reading t ≡ Err f)) same (c.in-Err.ensures.exact within) in
    refused_as c.args.text.now c.in-Err.error _ c.error_of.ensures (is_read c.args.text.now short c.in-Ok.ensures.cases.1) said
