use Rattle.std.proofs.Common.{sym, ap, not, ◌∙◌}
use Rattle.row_values.proofs.Lists.{and_false, and_true, names_step}
use Rattle.row_values.proofs.schema.+have_different_names.Goals as goal

pub returns-then-not-is_named : goal.returns-then-not-is_named
returns-then-not-is_named t c =
    let step = names_step c.first-item.result c.args.columns.now c.in-len1-up.len_at_least c.first-item.is in
    c.have_different_names.ensures ∙ sym (and_true _ _ (ap not (sym c.is_named.ensures ∙ c.if-not-is_named.true))) ∙ sym step

pub returns-else-not-is_named : goal.returns-else-not-is_named
returns-else-not-is_named t c =
    let step = names_step c.first-item.result c.args.columns.now c.in-len1-up.len_at_least c.first-item.is in
    ap not c.is_named.ensures ∙ sym (and_false _ _ (ap not (sym c.is_named.ensures ∙ c.if-not-is_named.false))) ∙ sym step
