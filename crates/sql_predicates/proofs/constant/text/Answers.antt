use Rattle.std.proofs.Common.{sym, ap, ◌∙◌, ◌≡◌, subst}
use Rattle.std.proofs.lemmas.Bool.{false≢true}
use Rattle.std.specs.Str.{IsUtf8}
use Rattle.std.specs.String.{string_bytes}
use Rattle.sql_text.specs.Spelled.{undoubled}
use Rattle.sql_semantics.specs.Values.{text_given}
use Rattle.sql_predicates.proofs.Texts.{is_text, no_text, told}
use Rattle.sql_predicates.proofs.constant.text.Goals as goal

pub returns-in-Ok : goal.returns-in-Ok
returns-in-Ok c =
    let e : string_bytes c.in-Ok.text ≡ undoubled c.args.spelled.now = ap (λ v. v.items) c.in-Ok.ensures.ok ∙ c.in_ok-undoubled.ensures in
    is_text (string_bytes c.in-Ok.text) (told _ c.in-Ok.text.ok) ∙ ap text_given e

pub returns-in-Err : goal.returns-in-Err
returns-in-Err c = no_text (undoubled c.args.spelled.now) (λ u. absurd (false≢true (c.in-Err.ensures.succeeds (subst IsUtf8 (sym c.in_ok-undoubled.ensures) u))))
