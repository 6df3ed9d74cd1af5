use Rattle.std.proofs.Common.{◌∙◌, List, map, ap, sym, arith}
use Rattle.std.proofs.lemmas.Bool.{eq-eqb, eqb-true}
use Rattle.std.proofs.lemmas.List.{map-append}
use Rattle.checkpoint_writer.specs.Catalogue.{entry_of}
use Rattle.checkpoint_writer.specs.declared.entry.StoredTable.{StoredTable}
use Rattle.store_check.proofs.Listed.{not_read, off_on, page_empty, page_fits, page_fits_not, unlisted}
use Rattle.store_check.specs.Listed.{are_listed}
use Rattle.store_check.proofs.listing.add_page.Goals as goal

pub returns-in-Err-clause-told : goal.returns-in-Err-clause-told
returns-in-Err-clause-told g c honest =
    not_read c.one_page.ensures (g.D.Disk.life c.args.pager.now).seen c.args.at c.args.last c.args.tables.now.items (Unit {0}) c.in-Err.error (c.in-Err.ensures.told honest) c.check_error.result c.check_error.ensures

pub returns-else-are_listed-clause-told : goal.returns-else-are_listed-clause-told
returns-else-are_listed-clause-told g c honest =
    let file = (g.D.Disk.life c.args.pager.now).seen in
    let old = c.args.tables.now.items in
    let new = c.push_all.new.tables.items in
    page_fits_not c.one_page.ensures file c.args.at c.args.last old (Unit {0}) c.in-Ok.found.items new (c.in-Ok.ensures.told honest)
    (ap (λ (l : List StoredTable). map entry_of l) c.in_ok-push_all.ensures.items ∙ map-append entry_of old c.in-Ok.found.items)
    (unlisted c.are_listed.result c.args.last new c.deref.result.now c.if-are_listed.false c.are_listed.ensures c.deref.ensures.value)

pub returns-then-is_empty-clause-told : goal.returns-then-is_empty-clause-told
returns-then-is_empty-clause-told g c honest =
    let file = (g.D.Disk.life c.args.pager.now).seen in
    let old = c.args.tables.now.items in
    page_empty c.one_page.ensures file c.args.at c.args.last old (Unit {0}) c.in-Ok.found.items old (c.in-Ok.ensures.told honest) (omega (arith, c.in-Ok.found.ok.0, eqb-true c.in-Ok.found.len 0 (sym c.is_empty.ensures ∙ c.if-is_empty.true)))

pub returns-then-are_listed-clause-told : goal.returns-then-are_listed-clause-told
returns-then-are_listed-clause-told g c honest =
    let old = c.args.tables.now.items in
    let found = c.in-Ok.found.items in
    let same = ap (λ (l : List StoredTable). map entry_of l) c.in_ok-push_all.ensures.items ∙ map-append entry_of old found in
    let seen = c.deref.result.now in
    page_fits c.one_page.ensures (g.D.Disk.life c.args.pager.now).seen c.args.at c.args.last old {T = Unit {0}} tt found c.push_all.new.tables.items (c.in-Ok.ensures.told honest)
    (λ none. off_on (sym c.if-is_empty.false ∙ c.is_empty.ensures ∙ eq-eqb c.in-Ok.found.len 0 (omega (arith, c.in-Ok.found.ok.0, none)))) same
    (ap (λ (l : List StoredTable). are_listed c.args.last (map entry_of l)) (sym c.deref.ensures.value) ∙ sym c.are_listed.ensures ∙ c.if-are_listed.true)
