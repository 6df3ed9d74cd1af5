use Rattle.std.proofs.Common.{refl, rules}
use Rattle.told_stores.specs.Doubts.{listed_in}
use Rattle.told_stores.specs.Telling.{IsOfDoubts}
use Rattle.told_stores.proofs.Doubted.{are_doubts}
use Rattle.store_files.proofs.Found.{found}
use Rattle.told_stores.proofs.Told.{told}
use Rattle.told_stores.proofs.telling.list_doubts.Goals as goal

pub returns : goal.returns
returns g c =
    let there = found g.F.Disk.Disk.is_modelled g.F.Disk.Disk.life g.F.StoreFiles.calls c.args.files.now c.args.path.now c.in_ok-core.core c.open_file.new.files c.in_ok-core.ensures in
    let doubts = listed_in c.in_ok-core.core.state.branches in
    told g.F.Disk.Disk.is_modelled g.F.Disk.Disk.life g.F.StoreFiles.calls (IsOfDoubts g.F.Disk.Disk.is_modelled g.F.Disk.Disk.life) c.args.path.now c.args.files.now c.open_file.new.files there.0 there.1 c.deref.result.now _ _ c.tell.result
    (doubts, search rules, λ modelled. are_doubts (g.F.Disk.Disk.life there.0).seen c.in_ok-core.core doubts c.records_lead_to_sound_states.ensures c.checkpoints_are_known.ensures.stores c.openings_are_kept.ensures (there.2.stood modelled) refl)
    c.tell.ensures.told c.tell.ensures.cause
