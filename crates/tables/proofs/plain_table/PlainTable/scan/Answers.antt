use Rattle.std.proofs.Common.{List, ℕ, ap, map, subst, ◌∙◌, ◌≡◌, IfOk}
use Rattle.tables.specs.declared.plain_table.PlainRow.{PlainRow}
use Rattle.tables.proofs.PlainTables.{values_in_rows}
use Rattle.tables.proofs.plain_table.PlainTable.scan.Goals as goal

pub returns : goal.returns
returns c =
    subst (λ (rows : List (List ℕ)). IfOk c.copied_rows.result (λ copies. copies ≡ rows))
    (ap (map (λ (r : PlainRow). r.row.items)) c.as_slice.ensures.value ∙ values_in_rows c.args.self.now.rows.items) c.copied_rows.ensures
