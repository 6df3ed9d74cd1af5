use Rattle.std.proofs.Common.{sym, ◌∙◌}
use Rattle.table_map.proofs.Going.{both_steps, change_steps, row_steps}
use Rattle.table_map.proofs.cursor.RowCursor.step.Goals as goal

pub returns-in-Row-clause-steps : goal.returns-in-Row-clause-steps
returns-in-Row-clause-steps g c file left held =
    row_steps (g.K.RowKeys.key_of c.args.keys.now) file c.changes_and_rows_in_turn.ensures.row c.args.self.now left (sym c.smaller.ensures ∙ c.in-Row.is) held c.give.new.self c.give.ensures.rows c.give.ensures.at c.give.ensures.pages

pub returns-in-Change-clause-steps : goal.returns-in-Change-clause-steps
returns-in-Change-clause-steps g c file left held =
    change_steps (g.K.RowKeys.key_of c.args.keys.now) file c.changes_and_rows_in_turn.ensures.change c.args.self.now left c.requires (sym c.smaller.ensures ∙ c.in-Change.is) held _ _ c.take.ensures _ c.changed.ensures

pub returns-in-Both-clause-steps : goal.returns-in-Both-clause-steps
returns-in-Both-clause-steps g c file left held =
    both_steps (g.K.RowKeys.key_of c.args.keys.now) file c.changes_and_rows_in_turn.ensures.both c.args.self.now left (sym c.smaller.ensures ∙ c.in-Both.is) held c.give-in-Both.new.self c.give-in-Both.ensures.rows c.give-in-Both.ensures.at c.give-in-Both.ensures.pages _ _ c.take-in-Both.ensures _ c.changed-in-Both.ensures
