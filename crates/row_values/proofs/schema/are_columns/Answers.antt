use Rattle.std.proofs.Common.{sym, ◌∙◌}
use Rattle.row_values.proofs.Lists.{bad_columns, good_columns, many_columns}
use Rattle.row_values.proofs.schema.are_columns.Goals as goal

pub returns-then-columns-gt-MAX_COLUMNS : goal.returns-then-columns-gt-MAX_COLUMNS
returns-then-columns-gt-MAX_COLUMNS c = many_columns c.args.columns.now c.if-columns-gt-MAX_COLUMNS.true

pub returns-then-not-are_valid : goal.returns-then-not-are_valid
returns-then-not-are_valid c = bad_columns c.args.columns.now (sym c.are_valid.ensures ∙ c.if-not-are_valid.true)

pub returns : goal.returns
returns c = good_columns c.args.columns.now c.have_different_names.result c.if-columns-gt-MAX_COLUMNS.false (sym c.are_valid.ensures ∙ c.if-not-are_valid.false) c.have_different_names.ensures
