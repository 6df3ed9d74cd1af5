use Rattle.std.proofs.Common.{ap, sym, ◌∙◌, ◌++◌, ◌∷◌, [], ◌<◌, ◌≤◌, arith, length}
use Rattle.std.specs.Option.{option_to_list}
use Rattle.unit_locks.proofs.ListRows.{list_is, list_past, list_set, list_set_other, no_items}
use Rattle.unit_locks.proofs.lists.pop.Goals as goal

pub returns-then-at-len-clause-empty : goal.returns-then-at-len-clause-empty
returns-then-at-len-clause-empty g c = list_past c.args.lists.now.items c.args.at (omega (arith, c.if-at-len.true, c.len.ensures, c.args.lists.now.ok.0))

pub returns-in-Some-clause-items : goal.returns-in-Some-clause-items
returns-in-Some-clause-items g c =
    let lists = c.args.lists.now.items in
    let inside : c.args.at < length lists = omega (arith, c.if-at-len.false, c.len.ensures, c.args.lists.now.ok.0) in
    list_is lists c.args.at c.index_mut-list.result.now inside ∙ ap (λ v. v.items) (sym c.index_mut-list.ensures.value) ∙ c.in-Some.ensures.items
    ∙ ap (λ l. l ++ c.in-Some.item ∷ []) (sym (list_set lists c.args.at c.pop.new.self inside))

pub returns-in-Some-clause-others : goal.returns-in-Some-clause-others
returns-in-Some-clause-others g c k other = list_set_other c.args.lists.now.items k c.args.at c.pop.new.self other

pub returns-in-None-clause-items : goal.returns-in-None-clause-items
returns-in-None-clause-items g c =
    let lists = c.args.lists.now.items in
    let inside : c.args.at < length lists = omega (arith, c.if-at-len.false, c.len.ensures, c.args.lists.now.ok.0) in
    list_is lists c.args.at c.index_mut-list.result.now inside ∙ ap (λ v. v.items) (sym c.index_mut-list.ensures.value) ∙ c.in-None.ensures.items
    ∙ ap (λ l. l ++ []) (sym (list_set lists c.args.at c.pop.new.self inside))

pub returns-in-None-clause-empty : goal.returns-in-None-clause-empty
returns-in-None-clause-empty g c =
    let lists = c.args.lists.now.items in
    let inside : c.args.at < length lists = omega (arith, c.if-at-len.false, c.len.ensures, c.args.lists.now.ok.0) in
    list_is lists c.args.at c.index_mut-list.result.now inside ∙ ap (λ v. v.items) (sym c.index_mut-list.ensures.value)
    ∙ no_items c.index_mut-list.result.now.items (omega (arith, c.in-None.ensures.cases.0, c.index_mut-list.result.now.ok.0))

pub returns-in-None-clause-others : goal.returns-in-None-clause-others
returns-in-None-clause-others g c k other = list_set_other c.args.lists.now.items k c.args.at c.pop.new.self other
