-- Without a form it is no row.
use Rattle.paged_tables.proofs.Shown.{not_put}
use Rattle.paged_tables.proofs.stored_table.StoredTable.put.Goals as goal

pub returns-in_default-clause-shown : goal.returns-in_default-clause-shown
returns-in_default-clause-shown c = not_put c.args.self.now c.args.row.items c.args.form.now c.in_default.is c.requires.row
