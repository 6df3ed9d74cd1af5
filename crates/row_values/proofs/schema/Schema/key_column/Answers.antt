-- The key's places are places of columns.
use Rattle.std.proofs.Common.{sym, ◌∙◌, arith}
use Rattle.row_values.proofs.Keys.{key_column_is, inside_columns, same_default}
use Rattle.row_values.proofs.schema.Schema.key_column.Goals as goal

pub index-requires-2 : goal.index-requires-2
index-requires-2 c =
    let lt = inside_columns c.args.self.now c.self.inside.columns.items c.self.inside.key.items c.args.i c.from.result (sym c.self.view_is) c.self.invariant c.requires
    (c.from.ensures ∙ c.index.ensures ∙ same_default c.self.inside.key.items c.args.i c.index.result.now c.from.result (sym c.from.ensures)) in
    omega (arith, lt, c.self.inside.columns.ok)

pub returns : goal.returns
returns c =
    key_column_is c.args.self.now c.self.inside.columns.items c.self.inside.key.items c.args.i c.from.result c.index-2.result.now (sym c.self.view_is) c.self.invariant c.requires
    (c.from.ensures ∙ c.index.ensures ∙ same_default c.self.inside.key.items c.args.i c.index.result.now c.from.result (sym c.from.ensures)) c.index-2.ensures
