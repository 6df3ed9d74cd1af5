use Rattle.std.proofs.Common.{ap, sym, ◌∙◌, ◌<◌, length}
use Rattle.std.specs.List.{remove}
use Rattle.unit_locks.proofs.ListRows.{list_inside, list_is, list_set, list_set_other}
use Rattle.unit_locks.proofs.lists.remove.Goals as goal

pub returns-clause-items : goal.returns-clause-items
returns-clause-items g c =
    let lists = c.args.lists.now.items in
    let inside : c.args.at < length lists = list_inside lists c.args.at c.args.i c.requires in
    list_set lists c.args.at c.remove.new.self inside ∙ c.remove.ensures.items
    ∙ ap (λ l. remove l c.args.i) (ap (λ v. v.items) c.index_mut-list.ensures.value ∙ sym (list_is lists c.args.at c.index_mut-list.result.now inside))

pub returns-clause-others : goal.returns-clause-others
returns-clause-others g c k other = list_set_other c.args.lists.now.items k c.args.at c.remove.new.self other
