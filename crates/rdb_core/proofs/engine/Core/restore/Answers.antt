use Rattle.std.proofs.Common.{◌≡◌, List, [], ◌∙◌, ap}
use Rattle.unit_locks.specs.Claims.{all_added}
use Rattle.paged_tables.specs.PagedTables.{store_in}
use Rattle.core_model.specs.Events.{Base}
use Rattle.core_model.specs.Units.{Held, Owner, Work, global, without}
use Rattle.rdb_core.proofs.Back.{taken_back}
use Rattle.rdb_core.proofs.engine.Core.restore.Goals as goal

pub returns-in-Err-restore-clause-err : goal.returns-in-Err-restore-clause-err
returns-in-Err-restore-clause-err g c =
    let o : Owner = global c.args.xid in
    let old = c.args.self.now in
    let s = store_in old.base.tables in
    let u : Work = record { changes = c.args.changes; claims = all_added [] c.args.claims.items } in
    let units : c.end-changes.new.self ≡ old.base.units =
    c.end-changes.ensures.ended
    ∙ ap (λ (l : List Held). without o l) c.in-Ok.ensures.ok
    ∙ taken_back o u old.base.units c.are_listed.ensures c.requires.idle in
    let base = ap (λ (us : List Held). let b : Base = record { store = s; units = us } in b) units in
    λ j. record { base = base j; branches = c.in-Err-restore.ensures.err j }
