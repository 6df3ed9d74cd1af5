-- A book may go to another thread where its disk may.
use denote.RattleType.{RattleType}
use denote.Param.Send.{IsSend, sendable, view_send}
use denote.Param.SendFields.{declared_send}
use Rattle.std.proofs.Crossing.{Vec-send, crosses}
use Rattle.drda_disk.specs.declared.disk.Disk.{Ghosts}
use Rattle.durable_core.specs.contracts.durable.DurableCore as core
use Rattle.durable_core.proofs.durable.DurableCore.TheSendSync as core_sends
use Rattle.core_history.specs.contracts.book.Book as book
use Rattle.core_history.specs.contracts.book.Book.TheInside as inside
use Rattle.core_history.proofs.calls.CallList.TheSendSync as calls_sends
use Rattle.std.specs.contracts.option.Option as option
use Rattle.std.proofs.option.Option.TheSendSync as option_sends
use Rattle.core_history.specs.contracts.count.Count as count
use Rattle.core_history.proofs.count.Count.TheSendSync as count_sends
use Rattle.core_history.specs.contracts.left.Left as left
use Rattle.core_history.proofs.left.Left.TheSendSync as left_sends
use Rattle.core_history.proofs.chosen.Chosen.TheSendSync as chosen_sends
use Rattle.core_history.proofs.renewals.Renewals.TheSendSync as renewals_sends

core_send : (T : RattleType) (g : Ghosts T.Denot) → IsSend T → IsSend (core.the_row T g)
core_send T g s = core_sends.the_send T g s

place_send : IsSend (option.the_row count.the_row)
place_send = search (option_sends.the_send, count_sends.the_send)

answer_send : IsSend (option.the_row left.the_row)
answer_send = search (option_sends.the_send, left_sends.the_send)

inside_send : (T : RattleType) (g : Ghosts T.Denot) → IsSend T → IsSend (inside.the_row T g)
inside_send T g s =
    let c = core_send T g s in
    declared_send (inside.the_type T g) (
      c,
      (
        search (sendable, crosses),
        (
          calls_sends.the_send,
          (
            Vec-send (option.the_row count.the_row) place_send,
            (Vec-send (option.the_row left.the_row) answer_send, (search sendable, (renewals_sends.the_send, (chosen_sends.the_send, tt)))),
          ),
        ),
      ),
    )

pub book_send : (T : RattleType) (g : Ghosts T.Denot) → IsSend T → IsSend (book.the_row T g)
book_send T g s = view_send (inside.the_row T g) _ _ _ _ (inside_send T g s)
