use Rattle.std.proofs.Common.{inr}
use Rattle.store_files.proofs.Found.{found}
use Rattle.told_stores.specs.Doubts.{listed_in}
use Rattle.told_stores.specs.Dumps.{dumped}
use Rattle.told_stores.proofs.Dumped.{is_dump}
use Rattle.told_stores.proofs.dumps.dump.Goals as goal

pub returns : goal.returns
returns g c =
    let core = c.in_ok-core.core in
    let there = found g.F.Disk.Disk.is_modelled g.F.Disk.Disk.life g.F.StoreFiles.calls c.args.files.now c.args.path.now core c.open_file.new.files c.in_ok-core.ensures in
    inr (
      there.0,
      there.1,
      c.dump_core.ensures.cause,
      λ modelled.
          let stood = there.2.stood modelled in (
            dumped (listed_in core.state.branches) core.state.base.store,
            is_dump (g.F.Disk.Disk.life there.0).seen core c.records_lead_to_sound_states.ensures c.checkpoints_are_known.ensures.stores c.openings_are_kept.ensures stood,
            c.dump_core.ensures.told modelled stood.is.going,
          ),
    )
