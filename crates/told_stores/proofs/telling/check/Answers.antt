use Rattle.std.proofs.Common.{refl}
use Rattle.told_stores.specs.Telling.{IsOfCheck}
use Rattle.store_files.proofs.Found.{found}
use Rattle.told_stores.proofs.Told.{told}
use Rattle.told_stores.proofs.telling.check.Goals as goal

pub returns : goal.returns
returns g c =
    let there = found g.F.Disk.Disk.is_modelled g.F.Disk.Disk.life g.F.StoreFiles.calls c.args.files.now c.args.path.now c.in_ok-open_file.field-0 c.open_file.new.files c.in_ok-open_file.ensures in
    told g.F.Disk.Disk.is_modelled g.F.Disk.Disk.life g.F.StoreFiles.calls (IsOfCheck g.F.Disk.Disk.is_modelled g.F.Disk.Disk.life) c.args.path.now c.args.files.now c.open_file.new.files there.0 there.1 _ _ _ c.tell.result
    (refl, λ modelled. let stood = there.2.stood modelled in (c.in_ok-open_file.field-0.name, stood.durable, (c.in_ok-open_file.field-0.layout, stood.region, stood.entries, stood.stood)))
    c.tell.ensures.told c.tell.ensures.cause
