-- A table that is not shown is added, where there is none of the name.
use Rattle.std.proofs.Common.{ap, ◌∙◌}
use Rattle.paged_tables.specs.Stored.{Stored, shown}
use Rattle.paged_tables.proofs.TreeSteps.{grows_added, schemas_added, still_known, store_added}
use Rattle.paged_tables.proofs.tree.hold_ready.Goals as goal

pub returns-then-contains_key-clause-schemas : goal.returns-then-contains_key-clause-schemas
returns-then-contains_key-clause-schemas c = still_known c.args.tables.now.entries c.args.name.now c.requires c.args.schema.now c.contains_key.result c.contains_key.ensures c.if-contains_key.true

pub returns-clause-store : goal.returns-clause-store
returns-clause-store c =
    store_added c.args.tables.now.entries c.args.name.now c.requires c.in_ok-copy.copy c.in_ok-copy.ensures.items c.new-2.result c.insert.new.self.entries c.in_ok-insert.ensures.entries c.contains_key.result c.contains_key.ensures c.if-contains_key.false
    (ap shown c.new-2.ensures)

pub returns-clause-grows : goal.returns-clause-grows
returns-clause-grows c =
    grows_added c.args.tables.now.entries c.args.name.now c.requires c.in_ok-copy.copy c.in_ok-copy.ensures.items c.new-2.result c.insert.new.self.entries c.in_ok-insert.ensures.entries c.contains_key.result c.contains_key.ensures c.if-contains_key.false
    (record { places = ap (λ (t : Stored). t.places) c.new-2.ensures; base = ap (λ (t : Stored). t.base) c.new-2.ensures })

pub returns-clause-schemas : goal.returns-clause-schemas
returns-clause-schemas c =
    schemas_added c.args.tables.now.entries c.args.name.now c.requires c.in_ok-copy.copy c.in_ok-copy.ensures.items c.new-2.result c.insert.new.self.entries c.in_ok-insert.ensures.entries c.contains_key.result c.contains_key.ensures c.if-contains_key.false
    c.args.schema.now (ap (λ (t : Stored). t.schema) c.new-2.ensures ∙ (c.in_ok-schema.ensures.ok ∙ c.in_ok-copy-2.ensures))
