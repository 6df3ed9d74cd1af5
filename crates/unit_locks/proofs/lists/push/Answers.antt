use Rattle.std.proofs.Common.{ap, sym, ◌∙◌, ◌++◌, ◌∷◌, [], ◌<◌, arith, length}
use Rattle.unit_locks.proofs.ListRows.{list_is, list_set, list_set_other}
use Rattle.unit_locks.proofs.lists.push.Goals as goal

pub returns-in-Ok-push-clause-ok : goal.returns-in-Ok-push-clause-ok
returns-in-Ok-push-clause-ok g c =
    let lists = c.grow.new.lists.items in
    let inside : c.args.at < length lists = omega (arith, c.in-Ok.ensures.long, c.grow.new.lists.ok.0) in
    list_set lists c.args.at c.push.new.self inside ∙ c.in-Ok-push.ensures.items
    ∙ ap (λ l. l ++ c.args.item ∷ []) (ap (λ v. v.items) c.index_mut-list.ensures.value ∙ sym (list_is lists c.args.at c.index_mut-list.result.now inside) ∙ c.grow.ensures.same c.args.at)

pub returns-in-Ok-push-clause-others : goal.returns-in-Ok-push-clause-others
returns-in-Ok-push-clause-others g c k other = list_set_other c.grow.new.lists.items k c.args.at c.push.new.self other ∙ c.grow.ensures.same k

pub returns-in-Err-clause-err : goal.returns-in-Err-clause-err
returns-in-Err-clause-err g c =
    let lists = c.grow.new.lists.items in
    let inside : c.args.at < length lists = omega (arith, c.in-Ok.ensures.long, c.grow.new.lists.ok.0) in
    list_set lists c.args.at c.push.new.self inside ∙ c.in-Err.ensures.items
    ∙ ap (λ v. v.items) c.index_mut-list.ensures.value ∙ sym (list_is lists c.args.at c.index_mut-list.result.now inside) ∙ c.grow.ensures.same c.args.at

pub returns-in-Err-clause-others : goal.returns-in-Err-clause-others
returns-in-Err-clause-others g c k other = list_set_other c.grow.new.lists.items k c.args.at c.push.new.self other ∙ c.grow.ensures.same k
