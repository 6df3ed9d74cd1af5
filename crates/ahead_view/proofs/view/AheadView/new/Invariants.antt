use Rattle.paged_tables.specs.PagedTables.{store_in}
use Rattle.ahead_view.specs.Given.{given_by}
use Rattle.ahead_view.proofs.view.AheadView.new.Given as goal

abbrev pub ghost-of : goal.ghost-of
ghost-of a = store_in a.from.now

abbrev pub ghost-set : goal.ghost-set
ghost-set a = given_by a.self.now.value a.from.now
