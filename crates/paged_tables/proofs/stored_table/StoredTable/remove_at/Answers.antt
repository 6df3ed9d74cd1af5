-- The row of a key stands at its form.
use Rattle.std.proofs.Common.{option_map, ap, subst, sym, ◌∙◌, true≢false}
use Rattle.std.specs.Arc.{arc_value}
use Rattle.key_map.specs.RowForm.{row_form}
use Rattle.key_map.specs.Slots.{by_key}
use Rattle.tables.specs.Tables.{remove_row}
use Rattle.paged_tables.specs.Stored.{HaveForms, IsFormOf, Stored, shown}
use Rattle.paged_tables.proofs.Changing.{rising, taken_there, with_changes}
use Rattle.paged_tables.proofs.FormLaws.{forms_left}
use Rattle.paged_tables.proofs.Shown.{removed_shown}
use Rattle.paged_tables.proofs.stored_table.StoredTable.remove_at.Goals as goal

pub invariant_of-self : goal.invariant_of-self
invariant_of-self c =
    let schema = arc_value c.self.inside.schema in
    let base = c.self.inside.base.listed.value in
    record {
      order = c.self.invariant.order;
      forms = subst (HaveForms schema) (sym (taken_there (row_form schema) base c.self.invariant.order c.self.inside.rows c.remove_reserved.new.self c.args.form.now c.remove_reserved.ensures.rows))
          (forms_left schema (by_key c.args.form.now) (with_changes (row_form schema) base c.self.inside.rows) c.self.invariant.forms);
      empty = λ none. absurd (true≢false (sym c.if-self.true ∙ none));
    }

pub returns-then-self-clause-shown : goal.returns-then-self-clause-shown
returns-then-self-clause-shown c = λ key one.
    let schema = arc_value c.self.inside.schema in
    let base = c.self.inside.base.listed.value in
    removed_shown schema c.self.inside.is_created (with_changes (row_form schema) base c.self.inside.rows) (with_changes (row_form schema) base c.remove_reserved.new.self) key c.args.form.now
    (subst (λ (t : Stored). IsFormOf t.schema key c.args.form.now) (sym c.self.view_is) one) c.self.invariant.forms (rising (row_form schema) base c.self.invariant.order c.self.inside.rows)
    (taken_there (row_form schema) base c.self.invariant.order c.self.inside.rows c.remove_reserved.new.self c.args.form.now c.remove_reserved.ensures.rows)
    ∙ ap (λ (t : Stored). option_map (remove_row key) (shown t)) c.self.view_is
