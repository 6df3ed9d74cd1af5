-- What a cursor is once a row that it lent is given back.
use Rattle.std.specs.Prelude.{[]}
use Rattle.std.specs.Borrow.{MutBor, Fml}
use Rattle.std.specs.Io.BufRead.{Rests}
use mir.Syntax.{named}
use Rattle.table_map.specs.contracts.cursor.RowCursor.{the_row}
use Rattle.table_map.specs.declared.cursor.RowCursor.{RowCursor}

-- when the borrow is over, what was lent satisfies P
abbrev pub EndsAs : MutBor RowCursor → (RowCursor → Type 0) → Fml
EndsAs s P = Rests (the_row (record { mir = named 0; lft = [] })) s P
