use Rattle.std.proofs.Common.{◌≡◌, false, rules}
use Rattle.std.specs.Arc.{arc_value}
use Rattle.row_values.specs.Schema.{is_name}
use Rattle.small_sql.proofs.Named.{not_found}
use Rattle.small_sql.proofs.modification.update.Goals as goal

pub returns-then-not-is_name-clause-answer : goal.returns-then-not-is_name-clause-answer
returns-then-not-is_name-clause-answer g c = λ told params ts stand.
    let bad : is_name c.args.table.now ≡ false = search rules in
    absurd (not_found (g.V.TableView.store c.args.view.now) c.args.table.now (arc_value c.args.schema.now) (c.requires.good told) (c.requires.schema told) bad)
