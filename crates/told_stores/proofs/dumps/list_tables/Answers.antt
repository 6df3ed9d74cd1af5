use Rattle.std.proofs.Common.{inr}
use Rattle.store_dump.specs.Dump.{list_text}
use Rattle.store_files.proofs.Found.{found}
use Rattle.told_stores.proofs.Dumped.{is_table_list}
use Rattle.told_stores.proofs.dumps.list_tables.Goals as goal

pub returns : goal.returns
returns g c =
    let core = c.in_ok-core.core in
    let there = found g.F.Disk.Disk.is_modelled g.F.Disk.Disk.life g.F.StoreFiles.calls c.args.files.now c.args.path.now core c.open_file.new.files c.in_ok-core.ensures in
    inr (
      there.0,
      there.1,
      c.list_core.ensures.cause,
      λ modelled.
          let stood = there.2.stood modelled in (
            list_text core.state.base.store,
            is_table_list (g.F.Disk.Disk.life there.0).seen core stood,
            c.list_core.ensures.told modelled stood.is.going,
          ),
    )
