-- A text is UTF-8 by its type, so a text that has no misfit fits.
use Rattle.std.proofs.Common.{FitsSigned, ap, of_z, refl, rules, sym, to_z, w64, ◌∙◌}
use Rattle.std.proofs.lemmas.Int.{to_z-of_z}
use Rattle.row_values.specs.Value.{binary, value_of, null, number, text}
use Rattle.row_values.specs.Column.{column_of}
use Rattle.row_values.proofs.Fitting.{fits_other, fits_text}
use Rattle.row_values.proofs.column.Column.admit.Goals as goal

pub returns-in-Null-clause-fits : goal.returns-in-Null-clause-fits
returns-in-Null-clause-fits c = fits_other (column_of c.args.self.now) (value_of c.args.value.now) null c.check.result (ap value_of c.in-Null.is) refl c.check.ensures

pub returns-in-Number-clause-fits : goal.returns-in-Number-clause-fits
returns-in-Number-clause-fits c =
    let in_range : FitsSigned w64 c.in-Number.number = search rules in
    fits_other (column_of c.args.self.now) (value_of c.args.value.now) (number (to_z w64 (of_z w64 c.in-Number.number))) c.admit_number.result
    (ap value_of c.in-Number.is ∙ ap number (sym (to_z-of_z w64 c.in-Number.number in_range))) refl c.admit_number.ensures

pub returns-in-Text-clause-fits : goal.returns-in-Text-clause-fits
returns-in-Text-clause-fits c =
    fits_text (column_of c.args.self.now) (value_of c.args.value.now) c.as_bytes.result.now c.admit_text.result
    (ap value_of c.in-Text.is ∙ ap text (sym c.as_bytes.ensures.value)) c.admit_text.ensures c.as_bytes.ensures.utf8

pub returns-in-Bytes-clause-fits : goal.returns-in-Bytes-clause-fits
returns-in-Bytes-clause-fits c = fits_other (column_of c.args.self.now) (value_of c.args.value.now) (binary c.in-Bytes.bytes.now) c.admit_bytes.result (ap value_of c.in-Bytes.is) refl c.admit_bytes.ensures
