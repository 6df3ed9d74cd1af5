use Rattle.std.proofs.Common.{rules, ◌≡◌, ◌∙◌, length, map, ap, refl, subst, sym, arith}
use Rattle.row_pages.specs.Laying.{laid}
use Rattle.key_map.specs.Walk.{rows_left}
use Rattle.half_store.specs.Writing.{next_of}
use Rattle.table_map.specs.Stored.{Places}
use Rattle.table_map.specs.Table.{without_keys}
use Rattle.checkpoint_writer.specs.Stored.{IsImageOf}
use Rattle.checkpoint_writer.proofs.Adding.{and_more, no_page, same_from}
use Rattle.checkpoint_writer.proofs.InMemory.{all_part, full_end, full_part, many_end, none_laid, one_part, short_part, stored_part}
use Rattle.checkpoint_writer.proofs.MergedRows.{end_small}
use Rattle.checkpoint_writer.proofs.Told.{handed_on}
use Rattle.checkpoint_writer.proofs.memory_rows.write_rows.Goals as goal

pub returns-in_err-writer-clause-adds : goal.returns-in_err-writer-clause-adds
returns-in_err-writer-clause-adds g c = no_page g.D.Disk.is_modelled (g.D.Disk.life c.args.disk.now) c.args.image.now

pub loop-key-init : goal.loop-key-init
loop-key-init g c = record {
  adds = no_page g.D.Disk.is_modelled (g.D.Disk.life c.args.disk.now) c.args.image.now;
  faults = refl;
  at = c.finish_pages-at.ensures.begins;
  part = none_laid g.D.Disk.is_modelled (g.D.Disk.life c.args.disk.now).seen c.args.image.now c.in_ok-writer.writer (rows_left c.args.rows) c.in_ok-writer.ensures.rows c.in_ok-writer.ensures.empty c.in_ok-writer.ensures.keys;
}

pub loop-key-preserved : goal.loop-key-preserved
loop-key-preserved g c =
    let inv = c.loop-key.invariant in
    let life = g.D.Disk.life in
    record {
      adds = and_more g.D.Disk.is_modelled (life c.args.disk.now) (life c.loop-key.disk) (life c.add_at.new.disk) c.args.image.now c.loop-key.image c.add_at.new.image inv.adds c.add_at.ensures.adds;
      faults = c.in_ok-add_at.ensures.cause ∙ inv.faults;
      at = inv.at;
      part = one_part g.D.Disk.is_modelled (life c.loop-key.disk).seen (next_of c.args.image.now) c.loop-key.image c.loop-key.writer (rows_left c.loop-key.left) (rows_left c.args.rows) inv.part
          (life c.add_at.new.disk).seen c.add_at.new.image c.add_at.new.self c.in-Some.key.now c.in-Some.row.now (rows_left c.next.new.self) c.in-Some.ensures.steps
          (c.in_ok-add_at.ensures.laid (next_of c.args.image.now) inv.part.rows inv.part.laid);
    }

pub returns-in_err-add_at-clause-adds : goal.returns-in_err-add_at-clause-adds
returns-in_err-add_at-clause-adds g c =
    let life = g.D.Disk.life in
    and_more g.D.Disk.is_modelled (life c.args.disk.now) (life c.loop-key.disk) (life c.add_at.new.disk) c.args.image.now c.loop-key.image c.add_at.new.image c.loop-key.invariant.adds c.add_at.ensures.adds

pub returns-in_err-add_at-clause-full : goal.returns-in_err-add_at-clause-full
returns-in_err-add_at-clause-full g c =
    let inv = c.loop-key.invariant in
    full_part g.D.Disk.is_modelled (g.D.Disk.life c.loop-key.disk).seen (next_of c.args.image.now) c.loop-key.image c.loop-key.writer (rows_left c.loop-key.left) (rows_left c.args.rows) inv.part
    (Unit {0}) c.args.image.now c.in_err-add_at.field-0.0 c.from_residual-in_err-add_at.result c.in-Some.key.now c.in-Some.row.now (rows_left c.next.new.self) (search rules)
    (same_from c.args.image.now c.loop-key.image inv.adds.half inv.adds.half_bytes) inv.adds.half_bytes c.in-Some.ensures.steps
    (c.in_err-add_at.ensures.full (next_of c.args.image.now) inv.part.rows (without_keys (rows_left c.next.new.self)) inv.part.laid)

pub returns-in_err-add_at-clause-damaged : goal.returns-in_err-add_at-clause-damaged
returns-in_err-add_at-clause-damaged g c =
    let inv = c.loop-key.invariant in
    handed_on _ _ c.in_err-add_at.field-0.0 c.add_at.result c.from_residual-in_err-add_at.result (search rules) (search rules)
    (λ long short. long
    (short_part g.D.Disk.is_modelled (g.D.Disk.life c.loop-key.disk).seen (next_of c.args.image.now) c.loop-key.image c.loop-key.writer (rows_left c.loop-key.left) (rows_left c.args.rows) inv.part
    c.in-Some.key.now c.in-Some.row.now (rows_left c.next.new.self) c.in-Some.ensures.steps short))
    c.add_at.ensures.damaged

pub returns-in_err-finish-clause-adds : goal.returns-in_err-finish-clause-adds
returns-in_err-finish-clause-adds g c =
    let life = g.D.Disk.life in
    and_more g.D.Disk.is_modelled (life c.args.disk.now) (life c.loop-key.disk) (life c.finish.new.disk) c.args.image.now c.loop-key.image c.finish.new.image c.loop-key.invariant.adds c.finish.ensures.adds

pub returns-in_err-finish-clause-full : goal.returns-in_err-finish-clause-full
returns-in_err-finish-clause-full g c =
    let inv = c.loop-key.invariant in
    full_end g.D.Disk.is_modelled (g.D.Disk.life c.loop-key.disk).seen (next_of c.args.image.now) c.loop-key.image c.loop-key.writer (rows_left c.loop-key.left) (rows_left c.args.rows) inv.part
    (Unit {0}) c.args.image.now c.in_err-finish.field-0.0 c.from_residual-in_err-finish.result (search rules)
    (same_from c.args.image.now c.loop-key.image inv.adds.half inv.adds.half_bytes) inv.adds.half_bytes c.in_default.ensures.steps.0
    (c.in_err-finish.ensures.full (next_of c.args.image.now) (without_keys inv.part.rows) inv.part.laid.laying)

pub new-requires-2 : goal.new-requires-2
new-requires-2 g c =
    let inv = c.loop-key.invariant in
    let there = inv.part.laid.laying in
    let done = c.in_ok-finish.ensures.pages (next_of c.args.image.now) (without_keys inv.part.rows) there in
    omega (arith, inv.at, inv.part.laid.many, done, c.finish.ensures.adds.more, c.finish.new.image.fits, end_small c.finish.new.image)

pub returns-clause-adds : goal.returns-clause-adds
returns-clause-adds g c =
    let life = g.D.Disk.life in
    and_more g.D.Disk.is_modelled (life c.args.disk.now) (life c.loop-key.disk) (life c.finish.new.disk) c.args.image.now c.loop-key.image c.finish.new.image c.loop-key.invariant.adds c.finish.ensures.adds

pub returns-clause-count : goal.returns-clause-count
returns-clause-count g c =
    let inv = c.loop-key.invariant in
    ap (λ (p : Places). length p.keys) c.new-2.ensures
    ∙ many_end g.D.Disk.is_modelled (g.D.Disk.life c.loop-key.disk).seen (next_of c.args.image.now) c.loop-key.image c.loop-key.writer (rows_left c.loop-key.left) (rows_left c.args.rows) inv.part c.in_default.ensures.steps.0

pub returns-clause-pages : goal.returns-clause-pages
returns-clause-pages g c =
    let inv = c.loop-key.invariant in
    let none = c.in_default.ensures.steps.0 in
    let count : length c.new-2.result.keys ≡ length (laid (without_keys inv.part.rows)) =
    ap (λ (p : Places). length p.keys) c.new-2.ensures
    ∙ many_end g.D.Disk.is_modelled (g.D.Disk.life c.loop-key.disk).seen (next_of c.args.image.now) c.loop-key.image c.loop-key.writer (rows_left c.loop-key.left) (rows_left c.args.rows) inv.part none
    ∙ ap (λ l. length (laid (without_keys l))) (sym (all_part g.D.Disk.is_modelled (g.D.Disk.life c.loop-key.disk).seen (next_of c.args.image.now) c.loop-key.image c.loop-key.writer (rows_left c.loop-key.left) (rows_left c.args.rows) inv.part none)) in
    let at : c.new-2.result.at ≡ next_of c.args.image.now = ap (λ (p : Places). p.at) c.new-2.ensures ∙ inv.at in
    omega (arith, at, count, c.in_ok-finish.ensures.pages (next_of c.args.image.now) (without_keys inv.part.rows) inv.part.laid.laying)

pub returns-clause-rows : goal.returns-clause-rows
returns-clause-rows g c key_of honest order own =
    let inv = c.loop-key.invariant in
    subst (λ (p : Places). IsImageOf key_of (rows_left c.args.rows) p (g.D.Disk.life c.finish.new.disk).seen) (sym (c.new-2.ensures ∙ ap (λ n. record { at = n; keys = map (λ key. key.items) c.loop-key.writer.first_keys.items }) inv.at))
    (stored_part g.D.Disk.is_modelled (g.D.Disk.life c.loop-key.disk).seen (next_of c.args.image.now) c.loop-key.image c.loop-key.writer (rows_left c.loop-key.left) (rows_left c.args.rows) inv.part
    c.one_laying.ensures.laid key_of (g.D.Disk.life c.finish.new.disk).seen c.in_default.ensures.steps.0 order own
    (c.in_ok-finish.ensures.stand (next_of c.args.image.now) (without_keys inv.part.rows) inv.part.laid.laying honest))
