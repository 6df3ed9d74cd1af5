use Rattle.tables.proofs.Found.{found_are_rows, rows_are_found, tables_are_tables}
use Rattle.tables.proofs.laws.stores_hold_tables.Goals as goal

pub returns : goal.returns
returns c = record { tables = tables_are_tables; rows = found_are_rows; lists = rows_are_found }
