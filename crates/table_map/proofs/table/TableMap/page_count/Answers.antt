use Rattle.std.proofs.Common.{rules, arith, ◌≡◌, ℕ, List, [], length, refl, sym, ◌∙◌, subst}
use Rattle.drda_disk.proofs.Moments.{Stays-refl, Stays-trans}
use Rattle.table_map.specs.Cursor.{IsLeft, GoesOn}
use Rattle.table_map.specs.Damage.{HasNoRows, SomePage}
use Rattle.table_map.specs.Table.{rows_of_table}
use Rattle.table_map.proofs.Damaged.{handed_on, of_left, stored_is_whole}
use Rattle.table_map.proofs.Given.{one_counted, one_short, all_counted}
use Rattle.table_map.proofs.table.TableMap.page_count.Goals as goal

pub loop-cursor-init : goal.loop-cursor-init
loop-cursor-init g c =
    let key_of = g.K.RowKeys.key_of c.args.keys.now in
    let file = (g.D.Disk.life c.args.disk.now).seen in
    record {
      stays = Stays-refl _;
      faults = refl;
      end = c.rows-cursor.ensures.end;
      forward = omega (arith, c.rows-cursor.ensures.begins);
      rows = λ pages honest is.
          record {
            left = rows_of_table key_of c.args.self.now pages;
            is = c.rows-cursor.ensures.left key_of pages file is;
            same = c.new-count.ensures _;
            short = λ short. short;
          };
    }

pub loop-cursor-preserved : goal.loop-cursor-preserved
loop-cursor-preserved g c =
    let inv = c.loop-cursor.invariant in
    let key_of = g.K.RowKeys.key_of c.args.keys.now in
    let file = (g.D.Disk.life c.args.disk.now).seen in
    record {
      stays = Stays-trans _ _ _ inv.stays c.next.ensures.stays;
      faults = c.in_ok-row.ensures.cause ∙ inv.faults;
      end = c.next.follows.holds-at-none.end ∙ inv.end;
      forward = omega (arith, inv.forward, c.next.follows.holds-at-none.forward);
      rows = λ pages honest is.
          let held = inv.rows pages honest is in
          let there = subst (λ (f : List ℕ). IsLeft key_of f c.loop-cursor.cursor held.left) (sym inv.stays.same) held.is in
          let goes = subst (λ (f : List ℕ). GoesOn key_of f held.left c.in-Some.row.now c.next.follows.lender-at-none) inv.stays.same (rw (c.in_ok-row.was, c.in-Some.is) at (c.next.follows.holds-at-none.gives held.left honest there)) in
          one_counted key_of file c.loop-cursor.cursor c.next.follows.lender-at-none c.loop-cursor.count c.count_row.new.count _ c.in-Some.row.now held goes c.in_ok-count_row.ensures.counts;
    }

pub returns-clause-count : goal.returns-clause-count
returns-clause-count g c pages honest is =
    let inv = c.loop-cursor.invariant in
    let key_of = g.K.RowKeys.key_of c.args.keys.now in
    let file = (g.D.Disk.life c.args.disk.now).seen in
    let held = inv.rows pages honest is in
    let there = subst (λ (f : List ℕ). IsLeft key_of f c.loop-cursor.cursor held.left) (sym inv.stays.same) held.is in
    let none : held.left ≡ [] = rw (c.in_ok-row.was, c.in_default.is) at (c.next.follows.holds-at-none.gives held.left honest there) in
    c.pages.ensures ∙ all_counted key_of file c.loop-cursor.cursor c.loop-cursor.count _ held none

pub returns-in_err-row-clause-damaged : goal.returns-in_err-row-clause-damaged
returns-in_err-row-clause-damaged g c pages honest is =
    let inv = c.loop-cursor.invariant in
    let key_of = g.K.RowKeys.key_of c.args.keys.now in
    let places = c.args.self.now.places in
    let file = (g.D.Disk.life c.args.disk.now).seen in
    let base = c.loop-cursor.cursor.base in
    handed_on _ _ c.in_err-row.field-0.0 c.next.result c.from_residual.result (search rules) (search rules)
    (λ some short. stored_is_whole key_of places pages file is (subst (λ (f : List ℕ). SomePage HasNoRows f places.at (length places.keys)) inv.stays.same (of_left HasNoRows _ places.at (length places.keys) base.at base.pages inv.end inv.forward some)))
    (c.next.ensures.damaged honest)

pub returns-in_err-count_row-clause-damaged : goal.returns-in_err-count_row-clause-damaged
returns-in_err-count_row-clause-damaged g c pages honest is =
    let inv = c.loop-cursor.invariant in
    let key_of = g.K.RowKeys.key_of c.args.keys.now in
    let file = (g.D.Disk.life c.args.disk.now).seen in
    let held = inv.rows pages honest is in
    let there = subst (λ (f : List ℕ). IsLeft key_of f c.loop-cursor.cursor held.left) (sym inv.stays.same) held.is in
    let goes = subst (λ (f : List ℕ). GoesOn key_of f held.left c.in-Some.row.now c.next.follows.lender-at-none) inv.stays.same (rw (c.in_ok-row.was, c.in-Some.is) at (c.next.follows.holds-at-none.gives held.left honest there)) in
    handed_on _ _ c.in_err-count_row.field-0.0 c.count_row.result c.from_residual-in_err-count_row.result (search rules) (search rules)
    (λ long short. long (one_short key_of file c.loop-cursor.cursor c.next.follows.lender-at-none c.loop-cursor.count _ c.in-Some.row.now held goes short))
    c.count_row.ensures.damaged
