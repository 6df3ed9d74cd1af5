-- The table of the name is one of those whose pages stand there.
use Rattle.std.proofs.Common.{◌≡◌, [], IfOk, Option, length, option_map, subst}
use Rattle.std.specs.Prelude.{unwrap_or}
use Rattle.std.specs.Map.{values_of}
use Rattle.key_map.specs.Slots.{by_key}
use Rattle.tables.specs.Tables.{Table}
use Rattle.paged_tables.specs.Stored.{IsOnPages, LiesInside}
use Rattle.paged_tables.proofs.Pages.{all_found}
use Rattle.paged_tables.proofs.store.PagedTables.judged_rows.Goals as goal

pub scan-requires : goal.scan-requires
scan-requires g c = all_found (LiesInside (length (g.D.Disk.life c.args.pager.now).seen)) (by_key c.args.table.now) c.args.self.now.tables c.in-Some.table.now c.in-Some.ensures.here c.requires

pub returns-in-Some-clause-rows : goal.returns-in-Some-clause-rows
returns-in-Some-clause-rows g c = λ modelled are.
    subst (λ (o : Option Table). IfOk c.scan.result (λ judged. judged.rows ≡ unwrap_or (option_map (λ (t : Table). values_of t.rows) o) [])) c.in-Some.ensures.found
    (c.scan.ensures.rows modelled (all_found (IsOnPages (g.D.Disk.life c.args.pager.now).seen) (by_key c.args.table.now) c.args.self.now.tables c.in-Some.table.now c.in-Some.ensures.here are))

pub returns-in-Some-clause-whole : goal.returns-in-Some-clause-whole
returns-in-Some-clause-whole g c = λ modelled are.
    c.scan.ensures.whole modelled (all_found (IsOnPages (g.D.Disk.life c.args.pager.now).seen) (by_key c.args.table.now) c.args.self.now.tables c.in-Some.table.now c.in-Some.ensures.here are)
