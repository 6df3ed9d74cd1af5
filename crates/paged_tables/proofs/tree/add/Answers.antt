-- The name comes behind those of the tables that are created.
use Rattle.std.proofs.Common.{ap, ◌∙◌}
use Rattle.std.specs.BTreeMap.{insert_entry}
use Rattle.key_map.specs.Slots.{by_bytes}
use Rattle.paged_tables.specs.TablesByName.{Tables, created_of, tables_in}
use Rattle.paged_tables.proofs.NamedTables.{seen_insert}
use Rattle.paged_tables.proofs.Opened.{created_last, insert_last}
use Rattle.paged_tables.proofs.tree.add.Goals as goal

pub returns-clause-added : goal.returns-clause-added
returns-clause-added c =
    ap tables_in c.in_ok-insert.ensures.entries ∙ seen_insert c.keep_created.new.tables.entries c.args.name c.args.table
    ∙ ap (λ (s : Tables). insert_entry by_bytes s c.args.name.items c.args.table) c.keep_created.ensures.kept
    ∙ insert_last c.args.name.items c.args.table (created_of (tables_in c.args.tables.now.entries)) (created_last c.args.name.items (tables_in c.args.tables.now.entries) c.requires)
