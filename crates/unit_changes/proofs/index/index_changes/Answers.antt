-- The index goes on, with a table that it has or with a new one.
use Rattle.std.proofs.Common.{◌≡◌, ℕ, List, ap, sym, subst, ◌∙◌, map, rules, Some, None, true}
use Rattle.std.specs.Prelude.{position}
use Rattle.std.specs.Arc.{arc_value}
use Rattle.tables.specs.ChangeView.{change_of}
use Rattle.tables.proofs.PlainTables.{on_err, on_ok}
use Rattle.unit_changes.specs.UnitTable.{UnitTable}
use Rattle.unit_changes.specs.TableChanges.{Records, table_of}
use Rattle.unit_changes.specs.Index.{is_named}
use Rattle.unit_changes.proofs.Forms.{Laws}
use Rattle.unit_changes.proofs.Indexing.{index_more, index_new}
use Rattle.unit_changes.proofs.Listing.{first_of, pushed, tables_kept}
use Rattle.unit_changes.proofs.index.index_changes.Goals as goal

pub returns-in-Some-clause-recorded : goal.returns-in-Some-clause-recorded
returns-in-Some-clause-recorded c =
    let laws : Laws = record {
      local = record { created = c.changes_are_local.ensures.created; put = c.changes_are_local.ensures.put; removed = c.changes_are_local.ensures.removed; kept = c.changes_are_local.ensures.kept };
      tabled = record { created = c.changes_make_tables.ensures.created; put = c.changes_make_tables.ensures.put; removed = c.changes_make_tables.ensures.removed };
      at = c.changes_win.ensures.at;
      order = c.changes_win.ensures.order;
      forms = c.forms_keep_order.ensures.keys;
      keys = c.keys_are_ordered.ensures.total;
    } in
    let is : position (is_named c.table_name-name.result.now) c.args.tables.now.items ≡ Some c.in-Some.i = ap (position (is_named c.table_name-name.result.now)) (sym c.as_slice.ensures.value) ∙ sym c.place_of.ensures.place ∙ c.in-Some.is in
    let all : c.are_of.result ≡ true = search rules in
    on_ok c.record.result (λ r before good h.
    index_more laws before (map change_of c.args.changes.now) c.table_name-name.result.now c.args.tables.now.items c.in-Some.i c.index_mut.result.now c.record.new.self is c.index_mut.ensures.value
    (c.are_of.ensures.named all) r h) c.record.ensures.recorded

pub returns-in-Some-clause-kept : goal.returns-in-Some-clause-kept
returns-in-Some-clause-kept c =
    let is : position (is_named c.table_name-name.result.now) c.args.tables.now.items ≡ Some c.in-Some.i = ap (position (is_named c.table_name-name.result.now)) (sym c.as_slice.ensures.value) ∙ sym c.place_of.ensures.place ∙ c.in-Some.is in
    on_err c.record.result (λ same. tables_kept c.table_name-name.result.now c.args.tables.now.items c.in-Some.i c.index_mut.result.now c.record.new.self is c.index_mut.ensures.value same) c.record.ensures.kept

pub returns-in_ok-push-in-None-clause-recorded : goal.returns-in_ok-push-in-None-clause-recorded
returns-in_ok-push-in-None-clause-recorded c = λ before good h.
    let laws : Laws = record {
      local = record { created = c.changes_are_local.ensures.created; put = c.changes_are_local.ensures.put; removed = c.changes_are_local.ensures.removed; kept = c.changes_are_local.ensures.kept };
      tabled = record { created = c.changes_make_tables.ensures.created; put = c.changes_make_tables.ensures.put; removed = c.changes_make_tables.ensures.removed };
      at = c.changes_win.ensures.at;
      order = c.changes_win.ensures.order;
      forms = c.forms_keep_order.ensures.keys;
      keys = c.keys_are_ordered.ensures.total;
    } in
    let name : List ℕ = c.table_name-name.result.now in
    let is : position (is_named name) c.args.tables.now.items ≡ None = ap (position (is_named name)) (sym c.as_slice.ensures.value) ∙ sym c.place_of.ensures.place ∙ c.in-None.is in
    let all : c.are_of.result ≡ true = search rules in
    let list = first_of c.args.changes.now c.first-item.result c.first-item.is c.in-len1-up.len_at_least in
    index_new laws before (map change_of c.args.changes.now) list.0 (change_of c.first-item.result) (arc_value c.args.schema.now) name c.args.tables.now.items c.push.new.self.items c.record-in-None.new.self is
    c.table_name-name.ensures list.1 (pushed c.args.tables.now.items c.push.new.self.items c.record-in-None.new.self c.in_ok-push-in-None.ensures.items) c.first-item.result.good (c.are_of.ensures.named all)
    (subst (λ (t : UnitTable). Records (map change_of c.args.changes.now) t (table_of c.record-in-None.new.self)) c.in_ok-table-in-None.ensures c.in_ok-record-in-None.ensures.recorded) h
