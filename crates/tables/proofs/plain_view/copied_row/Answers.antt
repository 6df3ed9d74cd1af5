-- The row is sought in the table of the name.
use Rattle.std.proofs.Common.{IfOk, Option, option_map, ap, subst, sym, ◌∙◌, ◌≡◌}
use Rattle.std.specs.Prelude.{bytes_eq}
use Rattle.std.specs.Option.{option_and_then}
use Rattle.std.specs.Map.{lookup}
use Rattle.tables.specs.Tables.{Table}
use Rattle.tables.proofs.PlainTables.{table_nowhere, table_there}
use Rattle.tables.proofs.plain_view.copied_row.Goals as goal

pub returns-in-Some : goal.returns-in-Some
returns-in-Some c =
    subst (λ (o : Option Table). IfOk c.get.result (λ row. option_map (λ bytes. bytes.items) row ≡ option_and_then (λ (t : Table). lookup (bytes_eq c.args.key.now) t.rows) o))
    (sym (table_there c.args.name.now c.args.tables.now c.in-Some.i c.index-tables-i.result (sym c.place_of.ensures.place ∙ c.in-Some.is) c.index-tables-i.is)) c.get.ensures

pub returns-in-None : goal.returns-in-None
returns-in-None c =
    sym (ap (option_and_then (λ (t : Table). lookup (bytes_eq c.args.key.now) t.rows)) (table_nowhere c.args.name.now c.args.tables.now (sym c.place_of.ensures.place ∙ c.in-None.is)))
