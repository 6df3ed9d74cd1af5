use Rattle.std.proofs.Common.{◌∙◌}
use Rattle.checkpoint_writer.proofs.Adding.{no_page}
use Rattle.checkpoint_writer.proofs.Filling.{begins_some, first_there}
use Rattle.checkpoint_writer.proofs.Writing.{with_page}
use Rattle.checkpoint_writer.proofs.merging.TableWriter.add_page.Goals as goal

pub row-requires : goal.row-requires
row-requires g c = begins_some c.args.self.now.rows c.args.page.rows c.requires.begins

pub returns-in_err-key-clause-adds : goal.returns-in_err-key-clause-adds
returns-in_err-key-clause-adds g c = no_page g.D.Disk.is_modelled (g.D.Disk.life c.args.disk.now) c.args.image.now

pub returns-clause-laid : goal.returns-clause-laid
returns-clause-laid g c start rows held =
    let key_of = g.K.RowKeys.key_of c.args.keys.now in
    with_page g.D.Disk.is_modelled key_of (g.D.Disk.life c.args.disk.now).seen (g.D.Disk.life c.add_page.new.disk).seen start c.args.image.now c.add_page.new.image c.args.self.now rows c.args.page.rows c.add_page.new.self c.push_key.new.keys c.in_ok-key.key
    held (c.in_ok-add_page.ensures.laid start rows held.laying) c.in_ok-add_page.ensures.kind (c.in_ok-add_page.ensures.first start rows key_of held.laying) c.in_ok-push_key.ensures
    (c.in_ok-key.ensures ∙ first_there key_of c.args.page.rows c.row.result.now c.row.ensures)
