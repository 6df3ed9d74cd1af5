use Rattle.std.proofs.Common.{ℕ, ◌+◌, ◌≤◌, subst, sym}
use Rattle.cursor_commands.specs.Room.{HasRoom, opening_text}
use Rattle.cursor_commands.specs.Sizes.{opening_length}
use Rattle.command_kit.specs.Sizes.{written_lengths}
use Rattle.cursor_commands.proofs.Opened.{is_open, opened, opened_size}
use Rattle.cursor_commands.proofs.opening.open_cursor.Goals as goal

pub unreachable-requires : goal.unreachable-requires
unreachable-requires c =
    is_open c.args.name.now c.args.statements.now.sections c.open_reserved-instance.new.self c.args.rows c.args.size c.requires.free c.open_reserved-instance.ensures.after c.in_default.ensures.next

pub add_opened-requires-clause-room : goal.add_opened-requires-clause-room
add_opened-requires-clause-room c =
    subst (λ (size : ℕ). HasRoom 5 (opening_text size) c.args.replies.now)
    (sym (opened_size c.args.name.now c.args.statements.now.sections c.open_reserved-instance.new.self c.args.rows c.args.size c.in-Ok.block c.requires.free c.open_reserved-instance.ensures.after c.in-Ok.ensures.next))
    c.requires.room

pub returns-clause-done : goal.returns-clause-done
returns-clause-done c =
    opened c.args.statements.now c.args.name.now c.open_reserved-instance.new.self c.args.rows c.args.size c.in-Ok.block c.requires.free c.open_reserved-instance.ensures.after c.in-Ok.ensures.next
    c.advance.new.self c.advance.ensures c.open_reserved-instance.result c.open_reserved-instance.ensures.number c.args.replies.now.list c.add_opened.new.replies.list c.add_opened.ensures.list

pub returns-clause-size : goal.returns-clause-size
returns-clause-size c =
    subst (λ (size : ℕ). written_lengths c.add_opened.new.replies.list ≤ written_lengths c.args.replies.now.list + opening_length size)
    (opened_size c.args.name.now c.args.statements.now.sections c.open_reserved-instance.new.self c.args.rows c.args.size c.in-Ok.block c.requires.free c.open_reserved-instance.ensures.after c.in-Ok.ensures.next)
    c.add_opened.ensures.size
