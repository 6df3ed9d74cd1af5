-- The rows of other keys are kept.
use Rattle.std.proofs.Common.{ap, not, List, ℕ, ◌∙◌}
use Rattle.std.specs.Prelude.{bytes_eq}
use Rattle.std.specs.Arc.{arc_value}
use Rattle.tables.specs.Plain.{entry_of, rows_in}
use Rattle.tables.proofs.Places.{map_kept}
use Rattle.tables.proofs.plain_table.PlainTable.remove.Goals as goal

pub returns-clause-removed : goal.returns-clause-removed
returns-clause-removed c =
    ap (λ rows. record { schema = arc_value c.args.self.now.schema; rows = rows })
    (ap rows_in c.remove_entry.ensures ∙ map_kept entry_of (λ (e : List ℕ × List ℕ). not (bytes_eq c.args.key.now e.0)) c.args.self.now.rows.items)
