-- The table of the name is one of those whose pages stand there.
use Rattle.std.proofs.Common.{◌≡◌, IfOk, Option, length, subst}
use Rattle.std.specs.Prelude.{bytes_eq}
use Rattle.std.specs.Map.{lookup}
use Rattle.std.specs.Option.{option_and_then}
use Rattle.key_map.specs.Slots.{by_key}
use Rattle.table_map.specs.Keyed.{copied}
use Rattle.tables.specs.Tables.{Table}
use Rattle.paged_tables.specs.Stored.{IsOnPages, LiesInside}
use Rattle.paged_tables.proofs.Pages.{all_found}
use Rattle.paged_tables.proofs.store.PagedTables.row.Goals as goal

pub get-requires : goal.get-requires
get-requires g c = all_found (LiesInside (length (g.D.Disk.life c.args.pager.now).seen)) (by_key c.args.table.now) c.args.self.now.tables c.in-Some.table.now c.in-Some.ensures.here c.requires

pub returns-in-Some-clause-found : goal.returns-in-Some-clause-found
returns-in-Some-clause-found g c = λ modelled are.
    subst (λ (o : Option Table). IfOk c.get.result (λ found. copied found.row ≡ option_and_then (λ (t : Table). lookup (bytes_eq c.args.key.now) t.rows) o)) c.in-Some.ensures.found
    (c.get.ensures.found modelled (all_found (IsOnPages (g.D.Disk.life c.args.pager.now).seen) (by_key c.args.table.now) c.args.self.now.tables c.in-Some.table.now c.in-Some.ensures.here are))

pub returns-in-Some-clause-whole : goal.returns-in-Some-clause-whole
returns-in-Some-clause-whole g c = λ modelled are.
    c.get.ensures.whole modelled (all_found (IsOnPages (g.D.Disk.life c.args.pager.now).seen) (by_key c.args.table.now) c.args.self.now.tables c.in-Some.table.now c.in-Some.ensures.here are)
