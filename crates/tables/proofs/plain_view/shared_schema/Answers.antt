-- The schema is that of the table of the name.
use Rattle.std.proofs.Common.{Some, option_map, ap, sym, ◌∙◌}
use Rattle.std.specs.Arc.{arc_value}
use Rattle.tables.specs.declared.plain_table.PlainTable.{PlainTable}
use Rattle.tables.specs.Tables.{Table}
use Rattle.tables.proofs.PlainTables.{table_nowhere, table_there}
use Rattle.tables.proofs.plain_view.shared_schema.Goals as goal

pub returns-in_ok-try_clone-in-Some : goal.returns-in_ok-try_clone-in-Some
returns-in_ok-try_clone-in-Some c =
    ap Some (c.in_ok-try_clone-in-Some.ensures ∙ ap (λ (t : PlainTable). arc_value t.schema) (sym c.index-tables-i.is))
    ∙ sym (ap (option_map (λ (t : Table). t.schema)) (table_there c.args.name.now c.args.tables.now c.in-Some.i c.index-tables-i.result (sym c.place_of.ensures.place ∙ c.in-Some.is) c.index-tables-i.is))

pub returns-in-None : goal.returns-in-None
returns-in-None c = sym (ap (option_map (λ (t : Table). t.schema)) (table_nowhere c.args.name.now c.args.tables.now (sym c.place_of.ensures.place ∙ c.in-None.is)))
