-- A value of the column is one of its type.
use Rattle.std.proofs.Common.{ap, sym, ◌∙◌, option_map}
use Rattle.std.specs.Prelude.{is_some}
use Rattle.row_values.specs.Value.{value_of}
use Rattle.row_values.specs.Column.{column_of}
use Rattle.row_values.proofs.Known.{judged, judged_type}
use Rattle.row_values.proofs.ReadSteps.{still_some}
use Rattle.row_values.proofs.judged.take_value.Goals as goal

pub take_typed-requires : goal.take_typed-requires
take_typed-requires c = judged_type (column_of c.args.column.now) c.args.bytes.now c.requires

pub unwrap-requires : goal.unwrap-requires
unwrap-requires c = sym (still_some (λ x. (value_of x.0, x.1.now)) c.take_typed.result) ∙ ap is_some c.take_typed.ensures ∙ judged_type (column_of c.args.column.now) c.args.bytes.now c.requires

pub returns : goal.returns
returns c = sym (ap (option_map (λ x. (value_of x.0, x.1.now))) c.unwrap.ensures) ∙ c.take_typed.ensures ∙ judged (column_of c.args.column.now) c.args.bytes.now c.requires
