use Rattle.std.proofs.Common.{◌≡◌, ◌∙◌, ◌++◌, ℕ, true, List, Ok, map, sym, ap, subst, arith}
use Rattle.std.specs.List.{AllByRecursion}
use Rattle.drda_disk.proofs.Moments.{Stays-trans}
use Rattle.checkpoint_writer.specs.Catalogue.{Entry, entry_of}
use Rattle.checkpoint_writer.specs.declared.entry.StoredTable.{StoredTable}
use Rattle.store_check.specs.Listed.{lie_from}
use Rattle.store_check.specs.Whole.{ChecksTable, IsWhole}
use Rattle.store_check.specs.Half.{LiesBehind, LiesBelow, NotesTable, entry_in, page_at}
use Rattle.store_check.specs.declared.half.CheckedTable.{CheckedTable}
use Rattle.store_check.proofs.Standing.{all_more}
use Rattle.store_check.proofs.Tables.{AreChecked, entries_done, next_first, next_more, next_within, one_checked}
use Rattle.store_check.proofs.half.check_rows.Goals as goal

pub loop-table-preserved : goal.loop-table-preserved
loop-table-preserved g c =
    let inv = c.loop-table.invariant in
    let key_of = g.K.KeysBySchema.key_of c.args.keys.now in
    let file = (g.D.Disk.life c.args.pager.now).seen in
    let all = map entry_of c.args.tables.items in
    let t = c.in-Some.table in
    let more = map entry_of c.next.new.self.rest.items in
    let next = c.loop-table.next in
    let end = page_at c.args.at c.args.first in
    let old = c.loop-table.checked.items in
    let left_is = ap (λ (l : List StoredTable). map entry_of l) c.in-Some.ensures.steps.0 in
    let lie = subst (λ (es : List Entry). lie_from next c.args.first es ≡ true) left_is inv.lie in
    let within = next_within next c.args.first (entry_of t) more lie in
    let low = next_first next c.args.first (entry_of t) more lie in
    record {
      stays = Stays-trans _ _ _ inv.stays c.check_stored.ensures.stays;
      faults = c.in_ok-pages.ensures.cause ∙ inv.faults;
      low = within;
      lie = next_more next c.args.first (entry_of t) more lie;
      inside =
          subst (λ (l : List CheckedTable). AllByRecursion (LiesBelow end) l) (sym c.in_ok-push_table.ensures.items)
          (all_more (LiesBelow end) old (record { table = t; pages = c.in_ok-pages.pages }) inv.inside (omega (arith, within, low, c.in_ok-pages.ensures.at, c.in_ok-pages.ensures.count)));
      behind =
          subst (λ (l : List CheckedTable). AllByRecursion (LiesBehind c.args.at) l) (sym c.in_ok-push_table.ensures.items)
          (all_more (LiesBehind c.args.at) old (record { table = t; pages = c.in_ok-pages.pages }) inv.behind (omega (arith, c.in_ok-pages.ensures.at)));
      good =
          subst (λ (l : List CheckedTable). AllByRecursion (NotesTable key_of) l) (sym c.in_ok-push_table.ensures.items)
          (all_more (NotesTable key_of) old (record { table = t; pages = c.in_ok-pages.pages }) inv.good c.in_ok-pages.ensures.good);
      same =
          entries_done old c.push_table.new.list.items (record { table = t; pages = c.in_ok-pages.pages }) more all
          (subst (λ (es : List Entry). map entry_in old ++ es ≡ all) left_is inv.same) c.in_ok-push_table.ensures.items;
      checked = λ honest.
          let told = subst (λ (f : List ℕ). ChecksTable t.schema (key_of t.schema) f (page_at c.args.at t.first_page) t.pages (Ok c.in_ok-pages.pages.pages)) inv.stays.same (c.in_ok-pages.ensures.told honest) in
          one_checked key_of file c.args.at c.args.first all t c.in_ok-pages.pages more next old c.push_table.new.list.items
          (subst (λ (es : List Entry). AreChecked key_of file c.args.at all es next old) left_is (inv.checked honest))
          told (c.in_ok-pages.ensures.rows told.0 honest (subst (λ (f : List ℕ). IsWhole t.schema (key_of t.schema) f (page_at c.args.at t.first_page) t.pages told.0) (sym inv.stays.same) told.1))
          c.in_ok-push_table.ensures.items;
    }
