-- The row that is found is the one of the key.
use Rattle.std.proofs.Common.{ap, ◌∙◌}
use Rattle.std.specs.Prelude.{option_copied}
use Rattle.tables.proofs.PlainTables.{row_found, row_not_found}
use Rattle.tables.proofs.plain_table.PlainTable.get.Goals as goal

pub returns-in_ok-from_slice-in-Some : goal.returns-in_ok-from_slice-in-Some
returns-in_ok-from_slice-in-Some c =
    row_found c.args.key.now c.as_slice.result.now c.args.self.now.rows.items (option_copied c.find_row.result) c.in-Some.found.now c.in_ok-from_slice-in-Some.field-0.items
    c.as_slice.ensures.value c.find_row.ensures (ap option_copied c.in-Some.is) (c.in_ok-from_slice-in-Some.ensures.items ∙ c.as_slice-in-Some.ensures.value)

pub returns-in-None : goal.returns-in-None
returns-in-None c =
    row_not_found c.args.key.now c.as_slice.result.now c.args.self.now.rows.items (option_copied c.find_row.result) c.as_slice.ensures.value c.find_row.ensures (ap option_copied c.in-None.is)
