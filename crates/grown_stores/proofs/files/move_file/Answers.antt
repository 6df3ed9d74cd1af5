use Rattle.std.proofs.Common.{inl, rules}
use Rattle.store_files.proofs.Found.{found}
use Rattle.grown_stores.proofs.Filed.{is_grown_file, no_room, not_made, taken_away}
use Rattle.grown_stores.proofs.files.move_file.Goals as goal

pub returns-then-not-fits-clause-not : goal.returns-then-not-fits-clause-not
returns-then-not-fits-clause-not g c =
    let there = found g.F.Disk.Disk.is_modelled g.F.Disk.Disk.life g.F.StoreFiles.calls c.args.files.now c.args.path.now c.in_ok-core.core c.open_file.new.files c.in_ok-core.ensures in
    no_room g.F.Disk.Disk.is_modelled g.F.Disk.Disk.life g.F.StoreFiles.calls c.args.files.now c.args.path.now c.args.new.now c.args.size c.in_ok-core.core c.open_file.new.files there

pub returns-in_default-clause-not : goal.returns-in_default-clause-not
returns-in_default-clause-not g c =
    let there = found g.F.Disk.Disk.is_modelled g.F.Disk.Disk.life g.F.StoreFiles.calls c.args.files.now c.args.path.now c.in_ok-core.core c.open_file.new.files c.in_ok-core.ensures in
    not_made g.F.Disk.Disk.is_modelled g.F.Disk.Disk.life g.F.StoreFiles.calls c.args.files.now c.args.path.now c.args.new.now c.args.size c.in_ok-core.core c.open_file.new.files there _ c.create.new.self c.in_default.ensures.call

pub returns-in-Ok-grow-clause-grown : goal.returns-in-Ok-grow-clause-grown
returns-in-Ok-grow-clause-grown g c =
    let there = found g.F.Disk.Disk.is_modelled g.F.Disk.Disk.life g.F.StoreFiles.calls c.args.files.now c.args.path.now c.in_ok-core.core c.open_file.new.files c.in_ok-core.ensures in
    is_grown_file g.F.Disk.Disk.is_modelled g.F.Disk.Disk.life g.F.StoreFiles.calls c.args.files.now c.args.path.now c.args.new.now c.args.size c.in_ok-core.core c.open_file.new.files there
    c.grown_stores_open.ensures c.into_disk-old.result c.into_disk-old.ensures c.in-Ok.disk c.grow.new.new c.grow.new.old c.in-Ok.ensures.zeros c.in-Ok.ensures.durable c.grow.ensures.moments c.grow.ensures.stays
    c.create.new.self c.in-Ok.ensures.call c.in-Ok-grow.ensures.grown c.grow.ensures.size

pub returns-clause-not : goal.returns-clause-not
returns-clause-not g c =
    let there = found g.F.Disk.Disk.is_modelled g.F.Disk.Disk.life g.F.StoreFiles.calls c.args.files.now c.args.path.now c.in_ok-core.core c.open_file.new.files c.in_ok-core.ensures in
    taken_away g.F.Disk.Disk.is_modelled g.F.Disk.Disk.life g.F.StoreFiles.calls c.args.files.now c.args.path.now c.args.new.now c.args.size c.in_ok-core.core c.open_file.new.files there
    c.grown_stores_open.ensures c.into_disk-old.result c.into_disk-old.ensures c.in-Ok.disk c.grow.new.new c.grow.new.old c.in-Ok.ensures.zeros c.in-Ok.ensures.durable c.grow.ensures.moments c.grow.ensures.stays
    _ c.create.new.self c.discard.new.self c.in-Ok.ensures.call c.discard.ensures.call
