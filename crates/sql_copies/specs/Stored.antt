-- How the logic stores a statement. No clause reads these words.
use Rattle.std.specs.Prelude.{[]}
use Rattle.std.specs.Coded.{Coded}
use mir.Syntax.{static}
use Rattle.sql_text.specs.declared.tree.Predicate.{Predicate}
use Rattle.sql_text.specs.contracts.tree.Predicate.{the_row}

abbrev pub coded_predicate : Coded Predicate
coded_predicate = (the_row (record { mir = static; lft = [] })).coded
