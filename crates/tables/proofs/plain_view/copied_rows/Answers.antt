-- The rows are those of the table of the name.
use Rattle.std.proofs.Common.{IfOk, [], Option, option_map, ap, subst, sym, ◌∙◌, ◌≡◌}
use Rattle.std.specs.Prelude.{unwrap_or}
use Rattle.std.specs.Map.{values_of}
use Rattle.tables.specs.Tables.{Table}
use Rattle.tables.proofs.PlainTables.{table_nowhere, table_there}
use Rattle.tables.proofs.plain_view.copied_rows.Goals as goal

pub returns-in-Some : goal.returns-in-Some
returns-in-Some c =
    subst (λ (o : Option Table). IfOk c.scan.result (λ rows. rows ≡ unwrap_or (option_map (λ (t : Table). values_of t.rows) o) []))
    (sym (table_there c.args.name.now c.args.tables.now c.in-Some.i c.index-tables-i.result (sym c.place_of.ensures.place ∙ c.in-Some.is) c.index-tables-i.is)) c.scan.ensures

pub returns-in-None : goal.returns-in-None
returns-in-None c =
    c.new.ensures ∙ sym (ap (λ (o : Option Table). unwrap_or (option_map (λ (t : Table). values_of t.rows) o) []) (table_nowhere c.args.name.now c.args.tables.now (sym c.place_of.ensures.place ∙ c.in-None.is)))
