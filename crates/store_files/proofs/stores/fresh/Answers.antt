use Rattle.std.proofs.Common.{◌∙◌, [], refl, sym}
use Rattle.half_store.specs.declared.header.Layout.TheVariants.{Two}
use Rattle.store_files.proofs.StoreFaults.{begins, not_begun}
use Rattle.store_files.proofs.stores.fresh.Goals as goal

pub returns-in-Ok : goal.returns-in-Ok
returns-in-Ok c =
    let made = c.in-Ok.ensures.made refl in
    let there = c.fresh_stores_open.ensures _ _ made.1 in
    begins c.args.rdb.now c.make.new.disk c.open_disk.result c.in-Ok.ensures.named made.0 made.1 (Two, there.0, [], there.1) c.open_disk.ensures.opened c.open_disk.ensures.settled
    (c.open_disk.ensures.fresh c.args.rdb.now refl (Two, there.0, [], there.1))

pub returns-in-Err : goal.returns-in-Err
returns-in-Err c = not_begun c.args.rdb.now c.in-Err.fault (sym c.is_store.ensures ∙ c.if-not-is_store.false) c.in-Err.ensures.named

pub returns-then-not-is_store : goal.returns-then-not-is_store
returns-then-not-is_store c = sym c.is_store.ensures ∙ c.if-not-is_store.true
