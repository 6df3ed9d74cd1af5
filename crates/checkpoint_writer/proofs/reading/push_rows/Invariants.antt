use Rattle.std.proofs.Common.{◌≡◌, ◌++◌, map, option_map}
use Rattle.checkpoint_writer.specs.Catalogue.{entries_in, entry_of}
use Rattle.checkpoint_writer.proofs.reading.push_rows.Given as goal

abbrev pub invariant-loop-row : goal.invariant-loop-row
invariant-loop-row l = option_map (λ es. map entry_of l.tables.items ++ es) (entries_in l.rows) ≡ option_map (λ es. map entry_of l.fn.tables.items ++ es) (entries_in l.fn.page.rows)
