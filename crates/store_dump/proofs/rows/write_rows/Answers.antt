use Rattle.std.proofs.Common.{arith, ◌≡◌, ℕ, List, [], refl, sym, ◌∙◌, subst}
use Rattle.drda_disk.proofs.Moments.{Stays-refl, Stays-trans}
use Rattle.key_map.specs.RowForm.{row_form}
use Rattle.table_map.specs.Cursor.{IsLeft, GoesOn}
use Rattle.table_map.specs.Table.{rows_of_table}
use Rattle.store_dump.proofs.Going.{all_written, failed, front_told, front_with_last, front_with_line, nothing_appended, one_written}
use Rattle.store_dump.proofs.rows.write_rows.Goals as goal

pub loop-cursor-init : goal.loop-cursor-init
loop-cursor-init g c = record {
  stays = Stays-refl _;
  end = c.rows-cursor.ensures.end;
  few = omega arith;
  rows = λ pages honest is. record {
    left = rows_of_table (row_form c.args.table.now.schema.now) c.args.table.now.rows.now pages;
    is = c.rows-cursor.ensures.left (row_form c.args.table.now.schema.now) pages (g.D.Disk.life c.args.disk.now).seen is;
    written = [];
    so_far = nothing_appended (g.W.Write.contents c.args.out.now);
    same = refl;
  };
}

pub loop-cursor-preserved : goal.loop-cursor-preserved
loop-cursor-preserved g c =
    let inv = c.loop-cursor.invariant in
    let schema = c.args.table.now.schema.now in
    let file = (g.D.Disk.life c.args.disk.now).seen in
    let contents = g.W.Write.contents in
    record {
      stays = Stays-trans _ _ _ inv.stays c.next.ensures.stays;
      end = c.next.follows.holds-at-none.end ∙ inv.end;
      few = c.in_ok-since.ensures.few;
      rows = λ pages honest is.
          let held = inv.rows pages honest is in
          let there = subst (λ (f : List ℕ). IsLeft (row_form schema) f c.loop-cursor.cursor held.left) (sym inv.stays.same) held.is in
          let goes = subst (λ (f : List ℕ). GoesOn (row_form schema) f held.left c.in-Some.row.now c.next.follows.lender-at-none) inv.stays.same (rw (c.in_ok-row.was, c.in-Some.is) at (c.next.follows.holds-at-none.gives held.left honest there)) in
          one_written (row_form schema) file c.args.table.now.name.now schema (contents c.args.out.now) _ c.loop-cursor.cursor c.next.follows.lender-at-none c.loop-cursor.since c.in_ok-since.since (contents c.loop-cursor.out) (contents c.write_row.new.out) c.in-Some.row.now held goes c.in_ok-since.ensures.line c.in_ok-since.ensures.next;
    }

pub returns-in_err-row-clause-told : goal.returns-in_err-row-clause-told
returns-in_err-row-clause-told g c pages honest is =
    let inv = c.loop-cursor.invariant in
    let schema = c.args.table.now.schema.now in
    let contents = g.W.Write.contents in
    failed _ c.from_residual.result _ _ c.from_residual.ensures.0
    (front_told (row_form schema) (g.D.Disk.life c.args.disk.now).seen c.args.table.now.name.now schema (contents c.args.out.now) _ c.loop-cursor.cursor c.loop-cursor.since (contents c.loop-cursor.out) (inv.rows pages honest is))

pub returns-in_err-since-clause-told : goal.returns-in_err-since-clause-told
returns-in_err-since-clause-told g c pages honest is =
    let inv = c.loop-cursor.invariant in
    let schema = c.args.table.now.schema.now in
    let file = (g.D.Disk.life c.args.disk.now).seen in
    let contents = g.W.Write.contents in
    let held = inv.rows pages honest is in
    let there = subst (λ (f : List ℕ). IsLeft (row_form schema) f c.loop-cursor.cursor held.left) (sym inv.stays.same) held.is in
    let goes = subst (λ (f : List ℕ). GoesOn (row_form schema) f held.left c.in-Some.row.now c.next.follows.lender-at-none) inv.stays.same (rw (c.in_ok-row.was, c.in-Some.is) at (c.next.follows.holds-at-none.gives held.left honest there)) in
    failed _ c.from_residual-in_err-since.result _ _ c.from_residual-in_err-since.ensures.0
    (front_with_line (row_form schema) file c.args.table.now.name.now schema (contents c.args.out.now) _ c.loop-cursor.cursor c.next.follows.lender-at-none c.loop-cursor.since (contents c.loop-cursor.out) (contents c.write_row.new.out) c.in-Some.row.now held goes c.in_err-since.ensures.line)

pub returns-in_err-write_last_commit-clause-told : goal.returns-in_err-write_last_commit-clause-told
returns-in_err-write_last_commit-clause-told g c pages honest is =
    let inv = c.loop-cursor.invariant in
    let schema = c.args.table.now.schema.now in
    let file = (g.D.Disk.life c.args.disk.now).seen in
    let contents = g.W.Write.contents in
    let held = inv.rows pages honest is in
    let there = subst (λ (f : List ℕ). IsLeft (row_form schema) f c.loop-cursor.cursor held.left) (sym inv.stays.same) held.is in
    let none : held.left ≡ [] = rw (c.in_ok-row.was, c.in_default.is) at (c.next.follows.holds-at-none.gives held.left honest there) in
    failed _ c.from_residual-in_err-write_last_commit.result _ _ c.from_residual-in_err-write_last_commit.ensures.0
    (front_with_last (row_form schema) file c.args.table.now.name.now schema (contents c.args.out.now) _ c.loop-cursor.cursor c.loop-cursor.since (contents c.loop-cursor.out) (contents c.write_last_commit.new.out) held none c.in_err-write_last_commit.ensures)

pub returns : goal.returns
returns g c =
    let inv = c.loop-cursor.invariant in
    let schema = c.args.table.now.schema.now in
    let file = (g.D.Disk.life c.args.disk.now).seen in
    let contents = g.W.Write.contents in
    record {
      told = λ pages honest is.
          let held = inv.rows pages honest is in
          let there = subst (λ (f : List ℕ). IsLeft (row_form schema) f c.loop-cursor.cursor held.left) (sym inv.stays.same) held.is in
          let none : held.left ≡ [] = rw (c.in_ok-row.was, c.in_default.is) at (c.next.follows.holds-at-none.gives held.left honest there) in
          all_written (row_form schema) file c.args.table.now.name.now schema (contents c.args.out.now) _ c.loop-cursor.cursor c.loop-cursor.since (contents c.loop-cursor.out) (contents c.write_last_commit.new.out) held none c.in_ok-write_last_commit.ensures;
      stays = Stays-trans _ _ _ inv.stays c.next.ensures.stays;
    }
