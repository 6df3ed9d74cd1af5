use Rattle.std.proofs.Common.{arith, ◌≡◌, ℕ, List, [], ap, sym, ◌∙◌, subst}
use Rattle.row_pages.specs.Laying.{counted}
use Rattle.drda_disk.proofs.Moments.{Stays-refl, Stays-trans}
use Rattle.key_map.specs.RowForm.{row_form}
use Rattle.table_map.specs.Cursor.{IsLeft, GoesOn}
use Rattle.table_map.specs.Table.{rows_of_table}
use Rattle.store_dump.proofs.Counting.{all_counted, one_counted}
use Rattle.store_dump.proofs.rows.count_rows.Goals as goal

pub loop-cursor-init : goal.loop-cursor-init
loop-cursor-init g c = record {
  stays = Stays-refl _;
  end = c.rows-cursor.ensures.end;
  small = omega arith;
  rows = λ pages honest is. record {
    left = rows_of_table (row_form c.args.table.now.schema.now) c.args.table.now.rows.now pages;
    is = c.rows-cursor.ensures.left (row_form c.args.table.now.schema.now) pages (g.D.Disk.life c.args.disk.now).seen is;
    same = ap counted (omega arith);
  };
}

pub loop-cursor-preserved : goal.loop-cursor-preserved
loop-cursor-preserved g c =
    let inv = c.loop-cursor.invariant in
    let schema = c.args.table.now.schema.now in
    let file = (g.D.Disk.life c.args.disk.now).seen in
    record {
      stays = Stays-trans _ _ _ inv.stays c.next.ensures.stays;
      end = c.next.follows.holds-at-none.end ∙ inv.end;
      small = c.saturating_add-count.type_inv;
      rows = λ pages honest is.
          let held = inv.rows pages honest is in
          let there = subst (λ (f : List ℕ). IsLeft (row_form schema) f c.loop-cursor.cursor held.left) (sym inv.stays.same) held.is in
          let goes = subst (λ (f : List ℕ). GoesOn (row_form schema) f held.left c.in-Some.field-0.now c.next.follows.lender-at-none) inv.stays.same (rw (c.in_ok-next.was, c.in-Some.is) at (c.next.follows.holds-at-none.gives held.left honest there)) in
          one_counted (row_form schema) file _ c.loop-cursor.cursor c.next.follows.lender-at-none c.loop-cursor.count c.saturating_add-count.result c.in-Some.field-0.now held goes c.saturating_add-count.ensures;
    }

pub returns-clause-count : goal.returns-clause-count
returns-clause-count g c pages honest is =
    let inv = c.loop-cursor.invariant in
    let schema = c.args.table.now.schema.now in
    let file = (g.D.Disk.life c.args.disk.now).seen in
    let held = inv.rows pages honest is in
    let there = subst (λ (f : List ℕ). IsLeft (row_form schema) f c.loop-cursor.cursor held.left) (sym inv.stays.same) held.is in
    let none : held.left ≡ [] = rw (c.in_ok-next.was, c.in_default.is) at (c.next.follows.holds-at-none.gives held.left honest there) in
    all_counted (row_form schema) file _ c.loop-cursor.cursor c.loop-cursor.count held inv.small none
