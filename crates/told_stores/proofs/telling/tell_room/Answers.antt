use Rattle.std.proofs.Common.{◌≡◌, ◌∙◌, refl, ap, sym, rules, ℕ, List, length, string_bytes}
use Rattle.xa_manager.specs.Branch.{in_doubt_xids}
use Rattle.told_stores.specs.Telling.{IsOfRoom}
use Rattle.told_stores.specs.Rooms.{room_text}
use Rattle.told_stores.specs.Doubts.{listed_in}
use Rattle.told_stores.proofs.Doubted.{are_doubts, as_many}
use Rattle.store_files.proofs.Found.{found}
use Rattle.told_stores.proofs.Told.{told}
use Rattle.told_stores.proofs.telling.tell_room.Goals as goal

pub returns : goal.returns
returns g c =
    let there = found g.F.Disk.Disk.is_modelled g.F.Disk.Disk.life g.F.StoreFiles.calls c.args.files.now c.args.path.now c.in_ok-core.core c.open_file.new.files c.in_ok-core.ensures in
    let core = c.in_ok-core.core in
    let doubts = listed_in core.state.branches in
    let bytes : c.deref.result.now ≡ string_bytes c.in_ok-text.text = search rules in
    let text = bytes ∙ (c.in_ok-text.ensures ∙ ap (λ (seen : List ℕ). room_text core.name (length seen) c.gauge-gauge.result (length (in_doubt_xids core.state.branches))) there.2.stays.same) ∙ ap (room_text core.name (length (g.F.Disk.Disk.life there.0).seen) c.gauge-gauge.result) (sym (as_many core.state.branches (in_doubt_xids core.state.branches))) in
    told g.F.Disk.Disk.is_modelled g.F.Disk.Disk.life g.F.StoreFiles.calls (IsOfRoom g.F.Disk.Disk.is_modelled g.F.Disk.Disk.life) c.args.path.now c.args.files.now c.open_file.new.files there.0 there.1 c.deref.result.now _ _ c.tell.result
    (core, there.2, doubts, c.gauge-gauge.result, text, c.gauge-gauge.ensures.room, λ modelled. c.gauge-gauge.ensures.gauge modelled (there.2.stood modelled).is.going, λ modelled. are_doubts (g.F.Disk.Disk.life there.0).seen core doubts c.records_lead_to_sound_states.ensures c.checkpoints_are_known.ensures.stores c.openings_are_kept.ensures (there.2.stood modelled) refl)
    c.tell.ensures.told c.tell.ensures.cause
