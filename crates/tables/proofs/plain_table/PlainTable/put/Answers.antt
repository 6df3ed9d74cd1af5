-- The keys of a table are keys.
use Rattle.std.proofs.Common.{◌≡◌, subst, sym, true}
use Rattle.std.specs.List.{list_all}
use Rattle.std.specs.Arc.{arc_value}
use Rattle.row_values.specs.Schema.{Schema}
use Rattle.row_values.specs.Key.{is_key}
use Rattle.tables.specs.Plain.{table_in}
use Rattle.tables.proofs.Keeping.{parts}
use Rattle.tables.proofs.PlainTables.{keys_are}
use Rattle.tables.proofs.plain_table.PlainTable.put.Goals as goal

pub put_entry-requires-clause-keys : goal.put_entry-requires-clause-keys
put_entry-requires-clause-keys c =
    let good = parts (table_in c.args.self.now) c.requires in
    subst (λ (s : Schema). list_all (λ r. is_key s r.key.items) c.args.self.now.rows.items ≡ true) (sym c.deref-2.ensures) (keys_are (arc_value c.args.self.now.schema) c.args.self.now.rows.items good.0 good.1)
