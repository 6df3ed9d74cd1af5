-- A change keeps a store one.
use Rattle.std.proofs.Common.{ap, ◌∙◌}
use Rattle.tables.specs.Change.{action_of}
use Rattle.tables.specs.View.{is_store}
use Rattle.tables.proofs.Keeping.{apply_keeps}
use Rattle.paged_tables.specs.TablesByName.{store_of, tables_in}
use Rattle.paged_tables.proofs.TreeSteps.{sound_of}
use Rattle.paged_tables.proofs.tables_by_name.TablesByName.apply.Goals as goal

pub invariant_of-self : goal.invariant_of-self
invariant_of-self c = record {
  ordered = c.apply_in.ensures.ordered;
  good = ap is_store c.apply_in.ensures.store ∙ apply_keeps (action_of c.args.change.action) (store_of (tables_in c.self.inside.tables.entries)) (sound_of (action_of c.args.change.action) c.args.change.good) c.self.invariant.good;
}
