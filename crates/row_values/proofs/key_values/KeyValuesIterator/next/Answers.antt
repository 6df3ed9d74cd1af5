-- Past the last key column nothing is left; before it, a value of the next one is.
use Rattle.std.proofs.Common.{ap, arith, length}
use Rattle.row_values.specs.Column.{column_of}
use Rattle.row_values.specs.Schema.{key_columns}
use Rattle.row_values.proofs.Keys.{key_count}
use Rattle.row_values.proofs.ReadSteps.{ends_from, there_from}
use Rattle.row_values.proofs.key_values.KeyValuesIterator.next.Goals as goal

pub returns-then-self-key-clause-steps : goal.returns-then-self-key-clause-steps
returns-then-self-key-clause-steps c =
    let count = key_count c.args.self.now.schema.now c.key.ensures.good in
    let size = ap length c.key.ensures.key in
    let past = c.if-self-key.true in
    let none = ends_from (key_columns c.args.self.now.schema.now) c.args.self.now.place c.args.self.now.rest.now (omega arith) in
    (none, none)

pub take_value-requires : goal.take_value-requires
take_value-requires c = there_from (key_columns c.args.self.now.schema.now) c.args.self.now.place (column_of c.key_column-column.result.now) c.args.self.now.rest.now c.key_column-column.ensures c.args.self.now.judged
