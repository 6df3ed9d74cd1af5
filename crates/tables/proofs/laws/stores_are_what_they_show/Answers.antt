use Rattle.tables.proofs.Showing.{same_stores}
use Rattle.tables.proofs.Found.{names_same, rows_same}
use Rattle.tables.proofs.laws.stores_are_what_they_show.Goals as goal

pub returns : goal.returns
returns c = record { whole = same_stores; rows = rows_same; names = names_same }
