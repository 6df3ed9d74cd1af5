use Rattle.std.proofs.Common.{rules, Bool, ◌≡◌, inl, inr, ⊎_elim, ◌+◌, ◌-◌, [], ◌∙◌, length, map, sym, ap, ap₂, subst, arith, refl}
use Rattle.std.proofs.lemmas.List.{length-map}
use Rattle.row_pages.specs.Laying.{laid}
use Rattle.half_store.specs.Writing.{next_of}
use Rattle.table_map.specs.Damage.{HasNoRows}
use Rattle.table_map.specs.Stored.{Places}
use Rattle.table_map.specs.Table.{rows_of_table}
use Rattle.table_map.proofs.Damaged.{of_left, stored_is_whole}
use Rattle.checkpoint_writer.specs.Adding.{end_of_half}
use Rattle.checkpoint_writer.specs.Steps.{Ends, GoesOn}
use Rattle.checkpoint_writer.specs.Stored.{IsImageOf}
use Rattle.checkpoint_writer.proofs.Adding.{and_more, no_page, same_from}
use Rattle.checkpoint_writer.proofs.MergedRows.{all_given, begins, end_small, full_last, left_short, many_keys, more_given, no_room_for, stored}
use Rattle.checkpoint_writer.proofs.Told.{handed_on, page_stays}
use Rattle.checkpoint_writer.proofs.merging.merge_into.Goals as goal

pub returns-in_err-new-clause-adds : goal.returns-in_err-new-clause-adds
returns-in_err-new-clause-adds g c = no_page g.D.Disk.is_modelled (g.D.Disk.life c.args.disk.now) c.args.image.now

pub loop-merging-init : goal.loop-merging-init
loop-merging-init g c =
    let key_of = g.K.RowKeys.key_of c.args.keys.now in
    let file = (g.D.Disk.life c.args.disk.now).seen in
    record {
      adds = no_page g.D.Disk.is_modelled (g.D.Disk.life c.args.disk.now) c.args.image.now;
      faults = refl;
      end = c.rows.ensures.end;
      forward = omega (arith, c.rows.ensures.begins);
      at = c.finish_pages-at.ensures.begins;
      merges = record {
        held = record {
          rows = [];
          laid = begins g.D.Disk.is_modelled key_of file c.args.image.now c.in_ok-new.field-0 c.in_ok-new.ensures.rows c.in_ok-new.ensures.empty c.in_ok-new.ensures.keys;
          given = λ pages honest is apart. record { left = rows_of_table key_of c.args.table.now pages; is = c.rows.ensures.left key_of pages file is; same = refl };
        };
        same = c.none.ensures;
      };
    }

pub returns-in_err-step-clause-adds : goal.returns-in_err-step-clause-adds
returns-in_err-step-clause-adds g c =
    let life = g.D.Disk.life in
    and_more g.D.Disk.is_modelled (life c.args.disk.now) (life c.loop-merging.disk) (life c.step.new.disk) c.args.image.now c.loop-merging.image c.step.new.image c.loop-merging.invariant.adds c.step.ensures.adds

pub returns-in_err-step-clause-full : goal.returns-in_err-step-clause-full
returns-in_err-step-clause-full g c pages honest is apart =
    let inv = c.loop-merging.invariant in
    let key_of = g.K.RowKeys.key_of c.args.keys.now in
    let first = (g.D.Disk.life c.args.disk.now).seen in
    let file = (g.D.Disk.life c.loop-merging.disk).seen in
    no_room_for g.D.Disk.is_modelled key_of c.args.table.now first c.args.image.now file c.loop-merging.image c.loop-merging.merging.writer c.loop-merging.merging.cursor inv.merges.held
    Bool c.in_err-step.field-0.0 (same_from c.args.image.now c.loop-merging.image inv.adds.half inv.adds.half_bytes) inv.adds.half_bytes
    (λ left honest is. c.in_err-step.ensures.full left (next_of c.args.image.now) inv.merges.held.rows honest is inv.merges.held.laid) c.from_residual-in_err-step.result (search rules) pages honest is apart

pub returns-in_err-step-clause-damaged : goal.returns-in_err-step-clause-damaged
returns-in_err-step-clause-damaged g c pages honest is apart =
    let inv = c.loop-merging.invariant in
    let key_of = g.K.RowKeys.key_of c.args.keys.now in
    let places = c.args.table.now.places in
    let first = (g.D.Disk.life c.args.disk.now).seen in
    let file = (g.D.Disk.life c.loop-merging.disk).seen in
    let base = c.loop-merging.merging.cursor.base in
    let w = c.args.image.now in
    let held = inv.merges.held in
    let so = held.given pages honest is apart in
    handed_on _ _ c.in_err-step.field-0.0 c.step.result c.from_residual-in_err-step.result (search rules) (search rules)
    (⊎_elim
    (λ some short. stored_is_whole key_of places pages first is
    (page_stays first file (next_of w) (end_of_half w - next_of w) places.at (length places.keys) inv.adds.others (⊎_elim (λ low. inl (omega (arith, low))) (λ high. inr (omega (arith, high, w.fits))) apart)
    (of_left HasNoRows file places.at (length places.keys) base.at base.pages inv.end inv.forward some)))
    (λ long short. long (left_short g.D.Disk.is_modelled key_of c.args.table.now first w file c.loop-merging.image c.loop-merging.merging.writer c.loop-merging.merging.cursor held pages honest is apart short)))
    (c.step.ensures.damaged so.left honest so.is)

pub loop-merging-preserved : goal.loop-merging-preserved
loop-merging-preserved g c =
    let inv = c.loop-merging.invariant in
    let modelled = g.D.Disk.is_modelled in
    let life = g.D.Disk.life in
    let key_of = g.K.RowKeys.key_of c.args.keys.now in
    let first = (life c.args.disk.now).seen in
    let file = (life c.loop-merging.disk).seen in
    let old = c.loop-merging.merging in
    let new = c.step.new.self in
    let goes : GoesOn modelled key_of file (life c.step.new.disk).seen c.loop-merging.image c.step.new.image old new = rw (c.if-branch.true) at c.in_ok-step.ensures.steps in
    record {
      adds = and_more modelled (life c.args.disk.now) (life c.loop-merging.disk) (life c.step.new.disk) c.args.image.now c.loop-merging.image c.step.new.image inv.adds c.step.ensures.adds;
      faults = c.in_ok-step.ensures.cause ∙ inv.faults;
      end = goes.end ∙ inv.end;
      forward = omega (arith, inv.forward, goes.forward);
      at = inv.at;
      merges = more_given modelled key_of c.args.table.now first c.args.image.now file c.loop-merging.image old.writer old.cursor inv.merges.held
          (life c.step.new.disk).seen c.step.new.image new.writer new.cursor goes.rows old.noted.listed.value new.noted.listed.value
          (goes.laid (next_of c.args.image.now) inv.merges.held.rows inv.merges.held.laid) c.step.ensures.adds.others (same_from c.args.image.now c.loop-merging.image inv.adds.half inv.adds.half_bytes) inv.adds.half_bytes
          (goes.end ∙ inv.end) (omega (arith, inv.forward, goes.forward)) goes.left inv.merges.same goes.noted;
    }

pub returns-in_err-finish-clause-adds : goal.returns-in_err-finish-clause-adds
returns-in_err-finish-clause-adds g c =
    let modelled = g.D.Disk.is_modelled in
    let life = g.D.Disk.life in
    and_more modelled (life c.args.disk.now) (life c.loop-merging.disk) (life c.finish.new.disk) c.args.image.now c.loop-merging.image c.finish.new.image c.loop-merging.invariant.adds
    (and_more modelled (life c.loop-merging.disk) (life c.step.new.disk) (life c.finish.new.disk) c.loop-merging.image c.step.new.image c.finish.new.image c.step.ensures.adds c.finish.ensures.adds)

pub returns-in_err-finish-clause-full : goal.returns-in_err-finish-clause-full
returns-in_err-finish-clause-full g c pages honest is apart =
    let inv = c.loop-merging.invariant in
    let key_of = g.K.RowKeys.key_of c.args.keys.now in
    let first = (g.D.Disk.life c.args.disk.now).seen in
    let file = (g.D.Disk.life c.loop-merging.disk).seen in
    let ends : Ends g.D.Disk.is_modelled key_of (g.D.Disk.life c.loop-merging.disk).seen (g.D.Disk.life c.step.new.disk).seen c.loop-merging.image c.step.new.image c.loop-merging.merging c.step.new.self = rw (c.if-branch.false) at c.in_ok-step.ensures.steps in
    let adds = and_more g.D.Disk.is_modelled (g.D.Disk.life c.args.disk.now) (g.D.Disk.life c.loop-merging.disk) (g.D.Disk.life c.step.new.disk) c.args.image.now c.loop-merging.image c.step.new.image inv.adds c.step.ensures.adds in
    full_last g.D.Disk.is_modelled key_of c.args.table.now first c.args.image.now file c.loop-merging.image c.loop-merging.merging.writer c.loop-merging.merging.cursor inv.merges.held
    (Unit {0}) c.in_err-finish.field-0.0 (end_of_half c.step.new.image) (ap₂ (λ a b. a + b) (same_from c.args.image.now c.step.new.image adds.half adds.half_bytes) adds.half_bytes)
    ends.left (c.in_err-finish.ensures.full (next_of c.args.image.now) inv.merges.held.rows (ends.laid (next_of c.args.image.now) inv.merges.held.rows inv.merges.held.laid).laying)
    c.from_residual-in_err-finish.result (search rules) pages honest is apart

pub new-requires-2 : goal.new-requires-2
new-requires-2 g c =
    let inv = c.loop-merging.invariant in
    let key_of = g.K.RowKeys.key_of c.args.keys.now in
    let ends : Ends g.D.Disk.is_modelled key_of (g.D.Disk.life c.loop-merging.disk).seen (g.D.Disk.life c.step.new.disk).seen c.loop-merging.image c.step.new.image c.loop-merging.merging c.step.new.self = rw (c.if-branch.false) at c.in_ok-step.ensures.steps in
    let rows = inv.merges.held.rows in
    let there = ends.laid (next_of c.args.image.now) rows inv.merges.held.laid in
    let writer = c.step.new.self.writer in
    let count : length writer.first_keys.items ≡ length (laid rows) = sym (length-map writer.first_keys.items (λ key. key.items)) ∙ ap length there.keys ∙ many_keys key_of (laid rows) in
    omega (arith, inv.at, count, c.in_ok-finish.ensures.pages (next_of c.args.image.now) rows there.laying, c.finish.new.image.fits, end_small c.finish.new.image)

pub returns-clause-adds : goal.returns-clause-adds
returns-clause-adds g c =
    let modelled = g.D.Disk.is_modelled in
    let life = g.D.Disk.life in
    and_more modelled (life c.args.disk.now) (life c.loop-merging.disk) (life c.finish.new.disk) c.args.image.now c.loop-merging.image c.finish.new.image c.loop-merging.invariant.adds
    (and_more modelled (life c.loop-merging.disk) (life c.step.new.disk) (life c.finish.new.disk) c.loop-merging.image c.step.new.image c.finish.new.image c.step.ensures.adds c.finish.ensures.adds)

pub returns-clause-last : goal.returns-clause-last
returns-clause-last g c =
    let inv = c.loop-merging.invariant in
    let key_of = g.K.RowKeys.key_of c.args.keys.now in
    let ends : Ends g.D.Disk.is_modelled key_of (g.D.Disk.life c.loop-merging.disk).seen (g.D.Disk.life c.step.new.disk).seen c.loop-merging.image c.step.new.image c.loop-merging.merging c.step.new.self = rw (c.if-branch.false) at c.in_ok-step.ensures.steps in
    let rows = inv.merges.held.rows in
    let there = ends.laid (next_of c.args.image.now) rows inv.merges.held.laid in
    let count : length c.new-2.result.keys ≡ length (laid rows) = ap (λ (p : Places). length p.keys) c.new-2.ensures ∙ ap length there.keys ∙ many_keys key_of (laid rows) in
    let at : c.new-2.result.at ≡ next_of c.args.image.now = ap (λ (p : Places). p.at) c.new-2.ensures ∙ inv.at in
    record { at = at; next = omega (arith, at, count, c.in_ok-finish.ensures.pages (next_of c.args.image.now) rows there.laying) }

pub returns-clause-rows : goal.returns-clause-rows
returns-clause-rows g c pages honest is apart own =
    let inv = c.loop-merging.invariant in
    let modelled = g.D.Disk.is_modelled in
    let key_of = g.K.RowKeys.key_of c.args.keys.now in
    let first = (g.D.Disk.life c.args.disk.now).seen in
    let file = (g.D.Disk.life c.loop-merging.disk).seen in
    let new = (g.D.Disk.life c.finish.new.disk).seen in
    let ends : Ends g.D.Disk.is_modelled key_of (g.D.Disk.life c.loop-merging.disk).seen (g.D.Disk.life c.step.new.disk).seen c.loop-merging.image c.step.new.image c.loop-merging.merging c.step.new.self = rw (c.if-branch.false) at c.in_ok-step.ensures.steps in
    let rows = inv.merges.held.rows in
    let there = ends.laid (next_of c.args.image.now) rows inv.merges.held.laid in
    let writer = c.step.new.self.writer in
    let all = all_given modelled key_of c.args.table.now first c.args.image.now file c.loop-merging.image c.loop-merging.merging.writer c.loop-merging.merging.cursor inv.merges.held
    ends.left pages honest is apart in
    subst (λ (p : Places). IsImageOf key_of (rows_of_table key_of c.args.table.now pages) p new) (sym (c.new-2.ensures ∙ ap (λ n. record { at = n; keys = map (λ key. key.items) writer.first_keys.items }) inv.at))
    (stored c.one_laying.ensures.laid c.changes_win.ensures.order key_of c.args.table.now pages first new (next_of c.args.image.now) writer.rows.page.kind (map (λ key. key.items) writer.first_keys.items) rows
    is own all there.kind (c.in_ok-finish.ensures.stand (next_of c.args.image.now) rows there.laying honest) there.keys there.laying.short)

pub returns-clause-noted : goal.returns-clause-noted
returns-clause-noted g c pages honest is apart =
    let inv = c.loop-merging.invariant in
    let key_of = g.K.RowKeys.key_of c.args.keys.now in
    let first = (g.D.Disk.life c.args.disk.now).seen in
    let file = (g.D.Disk.life c.loop-merging.disk).seen in
    let ends : Ends g.D.Disk.is_modelled key_of (g.D.Disk.life c.loop-merging.disk).seen (g.D.Disk.life c.step.new.disk).seen c.loop-merging.image c.step.new.image c.loop-merging.merging c.step.new.self = rw (c.if-branch.false) at c.in_ok-step.ensures.steps in
    ends.noted
    ∙ inv.merges.same
    ∙ all_given g.D.Disk.is_modelled key_of c.args.table.now first c.args.image.now file c.loop-merging.image c.loop-merging.merging.writer c.loop-merging.merging.cursor inv.merges.held
    ends.left pages honest is apart
