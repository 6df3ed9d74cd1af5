-- The tables with what was read are a store.
use Rattle.std.proofs.Common.{◌∙◌, ap}
use Rattle.tables.specs.Tables.{Store}
use Rattle.paged_tables.specs.PagedTables.{store_in}
use Rattle.ahead_view.specs.Given.{given_by}
use Rattle.ahead_view.proofs.Standing.{ahead_of}
use Rattle.ahead_view.proofs.view.AheadView.new.Goals as goal

pub invariant_of-result : goal.invariant_of-result
invariant_of-result c =
    ahead_of c.set.new.self.value (store_in c.args.tables.now) c.args.read (c.set.ensures ∙ ap (λ (s : Store). given_by s c.args.read) c.of-given.ensures) c.count-count.ensures.good c.requires
