-- A table without pages lies inside of any disk.
use Rattle.std.proofs.Common.{length, map, ap, subst, sym, ◌∙◌}
use Rattle.paged_tables.specs.TablesByName.{LieInside, Tables}
use Rattle.paged_tables_tests.proofs.Laying.{no_pages, no_rows}
use Rattle.paged_tables_tests.proofs.held.Held.opened.Goals as goal

pub add-requires-clause-rows : goal.add-requires-clause-rows
add-requires-clause-rows g c = no_rows c.args.schema c.none.result.listed.value c.none.ensures

pub invariant_of-result : goal.invariant_of-result
invariant_of-result g c =
    let size = length (g.D.Disk.life c.args.pager).seen in
    c.add.ensures.pages.inside size (subst (λ (s : Tables). LieInside size s) (sym c.new-tables.ensures.tables) tt)
    (no_pages size c.new-2.result (ap (λ p. p.at) c.new-2.ensures) (ap (λ p. p.keys) c.new-2.ensures ∙ ap (map (λ key. key.items)) c.new.ensures.items))
