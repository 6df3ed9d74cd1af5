-- Threads may share a book under a lock where its disk may go to another thread.
use denote.RattleType.{RattleType}
use denote.Param.Send.{IsSend, IsSync, sendable, view_send}
use denote.Param.SendFields.{declared_send, declared_sync}
use Rattle.std.proofs.Crossing.{Vec-send, crosses}
use Rattle.drda_disk.specs.declared.disk.Disk.{Ghosts}
use Rattle.core_history.proofs.Sending.{book_send}
use Rattle.core_history.specs.contracts.wish.Wish as wish
use Rattle.core_history.proofs.wish.Wish.TheSendSync as wish_sends
use Rattle.shared_node.specs.declared.origin.Origin as origin
use Rattle.shared_node.specs.contracts.shared.Shared as shared
use Rattle.shared_node.specs.contracts.held.Held as held
use Rattle.shared_node.specs.contracts.held.Held.TheInside as inside
use Rattle.shared_node.proofs.keeping.Keeping.TheSendSync as keeping_sends
use Rattle.shared_node.proofs.waiting.Waiting.TheSendSync as waiting_sends

inside_send : (T B : RattleType) (g : Ghosts T.Denot) (o : origin.Ghosts B.Denot T.Denot) → IsSend T → IsSend (inside.the_row T B g o)
inside_send T B g o s =
    declared_send (inside.the_type T B g o)
    (book_send T g s, (Vec-send wish.the_row wish_sends.the_send, (Vec-send wish.the_row wish_sends.the_send, (search (sendable, crosses) depth 12, tt))))

held_send : (T B : RattleType) (g : Ghosts T.Denot) (o : origin.Ghosts B.Denot T.Denot) → IsSend T → IsSend (held.the_row T B g o)
held_send T B g o s = view_send (inside.the_row T B g o) _ _ _ _ (inside_send T B g o s)

pub shared_sync : (T B : RattleType) (g : Ghosts T.Denot) (o : origin.Ghosts B.Denot T.Denot) → IsSend T → IsSync (shared.the_row T B g o)
shared_sync T B g o s =
    let h = held_send T B g o s in
    declared_sync (shared.the_type T B g o) (search (sendable, crosses, h) depth 12, (search (sendable, waiting_sends.the_sync) depth 12, (search (sendable, keeping_sends.the_sync) depth 12, tt)))
