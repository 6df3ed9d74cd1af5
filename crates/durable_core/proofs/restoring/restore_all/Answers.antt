use Rattle.std.proofs.Common.{rules, ◌∙◌, refl}
use Rattle.paged_tables.proofs.Pages.{and_stay, pages_stay_themselves}
use Rattle.recovery.specs.Replay.{doubts_in}
use Rattle.rdb_core.specs.State.{pages_of, state_of}
use Rattle.durable_core.proofs.Doubted.{goes_on, is_idle, not_known, told_known}
use Rattle.durable_core.proofs.restoring.restore_all.Goals as goal

pub restore-requires : goal.restore-requires
restore-requires g c = record { idle = is_idle (state_of c.args.core.now).base.store (doubts_in c.args.units.items) c.requires.sound c.loop-unit.left.items c.pop.new.self.items (state_of c.loop-unit.core) c.in-Some.unit c.loop-unit.invariant.way c.in-Some.ensures.items }

pub loop-unit-init : goal.loop-unit-init
loop-unit-init g c = record { way = search rules; recorder = refl; pages = pages_stay_themselves (pages_of c.args.core.now) }

pub loop-unit-preserved : goal.loop-unit-preserved
loop-unit-preserved g c = record {
  way = goes_on (state_of c.args.core.now).base.store (doubts_in c.args.units.items) c.requires.sound c.loop-unit.left.items c.pop.new.self.items (state_of c.loop-unit.core) c.in-Some.unit c.loop-unit.invariant.way c.in-Some.ensures.items (state_of c.restore.new.self) c.in-Ok.ensures.ok;
  recorder = c.restore.ensures.recorder ∙ c.loop-unit.invariant.recorder;
  pages = and_stay (pages_of c.args.core.now) (pages_of c.loop-unit.core) (pages_of c.restore.new.self) c.loop-unit.invariant.pages c.restore.ensures.pages;
}

pub unreachable-requires : goal.unreachable-requires
unreachable-requires g c = not_known (state_of c.args.core.now).base.store (doubts_in c.args.units.items) c.requires.sound c.loop-unit.left.items c.pop.new.self.items (state_of c.loop-unit.core) c.in-Some.unit c.loop-unit.invariant.way c.in-Some.ensures.items
    (told_known c.restore.result c.in-Err-Known.field-0 (state_of c.loop-unit.core).branches c.in-Some.unit.xid c.in-Err-Known.is c.in-Err-Known.field-0-is c.restore.ensures.exact)

pub returns-in-Err-NoMemory-clause-pages : goal.returns-in-Err-NoMemory-clause-pages
returns-in-Err-NoMemory-clause-pages g c = and_stay (pages_of c.args.core.now) (pages_of c.loop-unit.core) (pages_of c.restore.new.self) c.loop-unit.invariant.pages c.restore.ensures.pages
