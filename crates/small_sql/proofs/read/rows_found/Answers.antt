use Rattle.std.proofs.Common.{List, ℕ, ap, rules, sym, true, ◌≡◌, ◌∙◌}
use Rattle.std.specs.List.{list_all}
use Rattle.row_values.specs.Row.{is_row}
use Rattle.small_sql.specs.Reading.{rows_given}
use Rattle.small_sql.specs.Scope.{scope_of}
use Rattle.small_sql.specs.Task.{matching}
use Rattle.small_sql.proofs.Stored.{covered_are_rows, damage_is, never_damaged}
use Rattle.small_sql.proofs.read.rows_found.Goals as goal

pub returns-in-Ok-clause-rows : goal.returns-in-Ok-clause-rows
returns-in-Ok-clause-rows g c = λ told.
    c.in-Ok.ensures.found
    ∙ ap (λ (rows : List (List ℕ)). record c.args.list { rows = matching c.args.wanted.now c.args.list.schema rows }) (c.in_ok-given.ensures.rows told)

pub returns-in-Err-Damaged-clause-fault : goal.returns-in-Err-Damaged-clause-fault
returns-in-Err-Damaged-clause-fault g c = λ told.
    never_damaged c.stores_hold_tables.ensures.tables c.stores_hold_tables.ensures.rows (g.V.TableView.store c.args.view.now) c.args.table.now c.args.list.schema (scope_of c.args.scope.now) (rows_given c.in_ok-given.given) _
    (c.requires.good told) (c.requires.schema told) (c.in_ok-given.ensures.rows told) (damage_is c.args.list.schema (rows_given c.in_ok-given.given) c.in-Err-Damaged.field-0 (search rules) c.in-Err-Damaged.ensures.damaged)

pub counted-requires-clause-trusted : goal.counted-requires-clause-trusted
counted-requires-clause-trusted g c = λ trusted.
    let told : g.V.TableView.is_faithful ≡ true = sym c.is_trusted.ensures ∙ trusted in
    ap (list_all (is_row c.args.list.schema)) (c.in_ok-given.ensures.rows told)
    ∙ covered_are_rows c.stores_hold_tables.ensures.tables c.stores_hold_tables.ensures.rows (g.V.TableView.store c.args.view.now) c.args.table.now c.args.list.schema (scope_of c.args.scope.now)
    (c.requires.good told) (c.requires.schema told)
