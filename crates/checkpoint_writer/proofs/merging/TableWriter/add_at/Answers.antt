use Rattle.checkpoint_writer.proofs.InMemory.{with_key_at, without_key_at}
use Rattle.table_map.specs.Table.{without_keys}
use Rattle.checkpoint_writer.proofs.Adding.{no_page}
use Rattle.checkpoint_writer.proofs.merging.TableWriter.add_at.Goals as goal

pub returns-then-row-gt-LONGEST_ROW_BYTES-clause-adds :
    goal.returns-then-row-gt-LONGEST_ROW_BYTES-clause-adds
returns-then-row-gt-LONGEST_ROW_BYTES-clause-adds g c = no_page g.D.Disk.is_modelled (g.D.Disk.life c.args.disk.now) c.args.image.now

pub returns-in_ok-push_key-clause-laid : goal.returns-in_ok-push_key-clause-laid
returns-in_ok-push_key-clause-laid g c start rows held =
    with_key_at g.D.Disk.is_modelled (g.D.Disk.life c.args.disk.now).seen (g.D.Disk.life c.add.new.disk).seen start c.args.image.now c.add.new.image c.args.self.now rows c.args.key.now c.args.row.now c.in_ok-add.field-0 c.add.new.self
    held (c.in_ok-add.ensures.laid start (without_keys rows) held.laying) c.in_ok-add.ensures.kind (λ key_of. c.in_ok-add.ensures.first start (without_keys rows) key_of held.laying)
    c.push_key.new.keys c.in_ok-from_slice.field-0 c.if-branch.true c.in_ok-push_key.ensures c.in_ok-from_slice.ensures.items

pub returns-else-branch-clause-laid : goal.returns-else-branch-clause-laid
returns-else-branch-clause-laid g c start rows held =
    without_key_at g.D.Disk.is_modelled (g.D.Disk.life c.args.disk.now).seen (g.D.Disk.life c.add.new.disk).seen start c.args.image.now c.add.new.image c.args.self.now rows c.args.key.now c.args.row.now c.in_ok-add.field-0 c.add.new.self
    held (c.in_ok-add.ensures.laid start (without_keys rows) held.laying) c.in_ok-add.ensures.kind (λ key_of. c.in_ok-add.ensures.first start (without_keys rows) key_of held.laying) c.if-branch.false
