use Rattle.store_files.proofs.Found.{opens_still}
use Rattle.store_files.proofs.stores.open_file.Goals as goal

pub returns : goal.returns
returns g c = opens_still g.F.Disk.Disk.is_modelled g.F.Disk.Disk.life g.F.StoreFiles.calls g.F.Disk.Disk.syncs c.args.files.now c.args.path.now c.open_to_run.result c.open_to_run.new.files c.open_to_run.ensures
