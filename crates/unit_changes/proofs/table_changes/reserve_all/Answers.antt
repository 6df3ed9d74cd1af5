-- The next step gets room, and the earlier ones keep theirs.
use Rattle.std.proofs.Common.{ℕ, List, subst, ap, sym, ◌∙◌, arith}
use Rattle.key_map.specs.Slots.{HasRoom}
use Rattle.unit_changes.specs.declared.key_change.KeyChange.{KeyChange}
use Rattle.unit_changes.proofs.Steps.{room_end, room_next}
use Rattle.unit_changes.proofs.table_changes.reserve_all.Goals as goal

pub loop-i-preserved : goal.loop-i-preserved
loop-i-preserved c = record {
  same = c.reserve.ensures.changes ∙ c.loop-i.invariant.same;
  room = λ slots more rest. c.loop-i.invariant.room slots (λ q h. more q (c.reserve.ensures.others q h))
      (room_next slots c.args.steps.now c.loop-i.i c.index-steps-i.result c.index-steps-i.is (omega arith)
      (more c.index-steps-i.result.form.items (subst (λ (q : List ℕ). HasRoom q c.reserve.new.self) (c.as_slice.ensures.value ∙ ap (λ (k : KeyChange). k.form.items) (sym c.index-steps-i.is)) c.in_ok-reserve.ensures.room)) rest);
}

pub returns-clause-room : goal.returns-clause-room
returns-clause-room c = c.loop-i.invariant.room c.loop-i.rows (λ q h. h) (room_end c.loop-i.rows c.args.steps.now c.loop-i.i (omega arith))
