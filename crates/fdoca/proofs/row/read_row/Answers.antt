use Rattle.std.proofs.Common.{List, subst}
use Rattle.fdoca.specs.declared.field.Field.{Field}
use Rattle.fdoca.specs.Reading.{row_at}
use Rattle.fdoca.specs.Calls.{GivesValues}
use Rattle.fdoca.proofs.Rows.{answer_is}
use Rattle.fdoca.proofs.Slices.{read_stand}
use Rattle.fdoca.proofs.row.read_row.Goals as goal

pub returns-clause-values : goal.returns-clause-values
returns-clause-values c =
    answer_is c.args.descriptor.now c.args.row.now c.read.result
    (subst (λ (fields : List Field). GivesValues fields (row_at fields c.args.row.now) c.read.result) c.fields.ensures c.read.ensures)

pub returns-clause-places : goal.returns-clause-places
returns-clause-places c = read_stand c.args.descriptor.now c.args.row.now c.read.result (returns-clause-values c)
