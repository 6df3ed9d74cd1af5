-- Each table is laid behind those before it.
use Rattle.std.proofs.Common.{refl, length}
use Rattle.paged_tables.specs.Stored.{LiesInside}
use Rattle.paged_tables.specs.TablesByName.{created_of}
use Rattle.paged_tables_tests.proofs.Laying.{laid_none, laid_whole}
use Rattle.paged_tables_tests.proofs.held.lay_all.Goals as goal

pub loop-table-init : goal.loop-table-init
loop-table-init g c = record {
  size = refl;
  inside = c.requires.inside;
  lie = c.lend-left.ensures.pages.inside (length (g.D.Disk.life c.args.disk.now).seen) c.requires.lie;
  laid = laid_none (LiesInside (length (g.D.Disk.life c.args.disk.now).seen)) (created_of c.args.tables.now.tables) c.new-pages.result.items c.lend-left.result c.new-pages.ensures.items c.lend-left.ensures.tables;
}

pub returns-clause-laid : goal.returns-clause-laid
returns-clause-laid g c = laid_whole (LiesInside (length (g.D.Disk.life c.args.disk.now).seen)) (created_of c.args.tables.now.tables) c.loop-table.pages.items c.loop-table.left c.in_default.ensures c.loop-table.invariant.laid
