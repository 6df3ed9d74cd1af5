use Rattle.store_files.proofs.Unmarked.{blocks_alone, made_behind}
use Rattle.store_files.proofs.stores.make_on.Goals as goal

pub returns-in_err-reserve_blocks-clause-moments :
    goal.returns-in_err-reserve_blocks-clause-moments
returns-in_err-reserve_blocks-clause-moments g c modelled =
    blocks_alone c.args.rdb.now (g.D.Disk.life c.args.disk.now) (g.D.Disk.life c.reserve_blocks.new.disk) c.reserve_blocks.ensures.moments

pub returns-in_err-make-clause-moments : goal.returns-in_err-make-clause-moments
returns-in_err-make-clause-moments g c modelled =
    made_behind c.args.rdb.now (g.D.Disk.life c.args.disk.now) (g.D.Disk.life c.reserve_blocks.new.disk) (g.D.Disk.life c.make.new.disk) c.reserve_blocks.ensures.moments (c.make.ensures.moments modelled)

pub returns-then-size-clause-moments : goal.returns-then-size-clause-moments
returns-then-size-clause-moments g c modelled =
    made_behind c.args.rdb.now (g.D.Disk.life c.args.disk.now) (g.D.Disk.life c.reserve_blocks.new.disk) (g.D.Disk.life c.make.new.disk) c.reserve_blocks.ensures.moments (c.make.ensures.moments modelled)

pub returns-clause-moments : goal.returns-clause-moments
returns-clause-moments g c modelled =
    made_behind c.args.rdb.now (g.D.Disk.life c.args.disk.now) (g.D.Disk.life c.reserve_blocks.new.disk) (g.D.Disk.life c.make.new.disk) c.reserve_blocks.ensures.moments (c.make.ensures.moments modelled)
