-- What a thread takes along may go there: a reference to the hall, a pass, a peer, a reader and a writer.
use mathlib.Core.List.{List, [], ◌∷◌}
use Prim.Native.Nat.{ℕ}
use denote.RattleType.{RattleType}
use denote.Ref.{NamedLft}
use denote.Struct.Field.{row_field}
use denote.Struct.Tuple.{TupleAt, type_at}
use denote.Param.Send.{IsSend, IsSync, sendable}
use denote.Param.SendFields.{as_row_send, declared_send, declared_sync}
use Rattle.std.proofs.Crossing.{Vec-send, crosses}
use Rattle.std.specs.contracts.option.Option as option
use Rattle.std.proofs.option.Option.TheSendSync as option_sends
use Rattle.std.specs.contracts.net.socket_addr.SocketAddr as address
use Rattle.std.proofs.net.socket_addr.SocketAddr.TheSendSync as address_sends
use Rattle.drda_disk.specs.declared.disk.Disk.{Ghosts}
use Rattle.session_commands.proofs.settings.Settings.TheSendSync as settings_sends
use Rattle.shared_node.proofs.Sending.{shared_sync}
use Rattle.shared_node.specs.declared.origin.Origin as origin
use Rattle.drda_guests.proofs.longest.Longest.TheSendSync as longest_sends
use Rattle.drda_guests.proofs.Sending.{doors_sync}
use Rattle.drda_server.specs.contracts.attending.Hall as hall
use Rattle.drda_guests.proofs.fullness.Fullness.TheSendSync as fullness_sends
use Rattle.drda_guests.proofs.failure.Failure.TheSendSync as failure_sends

pub hall_sync : (l : NamedLft) (D B R G L K : RattleType) (d : Ghosts D.Denot) (o : origin.Ghosts B.Denot D.Denot) → IsSend D → IsSync R → IsSync G → IsSync L → IsSend K → IsSync (hall.the_row l D B R G L K d o)
hall_sync l D B R G L K d o sends runtime gate log handles =
    let shared = shared_sync D B d o sends in
    let kept = doors_sync K handles in
    declared_sync (hall.the_type l D B R G L K d o) (search (sendable, runtime), (search (sendable, crosses) depth 20, (search (sendable, shared), (search (sendable, settings_sends.the_sync) depth 12, (search (sendable, gate), (search (sendable, log), (search (sendable, longest_sends.the_sync) depth 12, (search (sendable, longest_sends.the_sync) depth 12, (search (sendable, fullness_sends.the_sync) depth 12, (search (sendable, failure_sends.the_sync) depth 12, (search (sendable, kept), (search (sendable, crosses) depth 12, tt))))))))))))

pub peer_send : IsSend (option.the_row address.the_row)
peer_send = search (option_sends.the_send, address_sends.the_send)

-- what a closure takes along, under the name of its type
pub five_send : (name : List ℕ) (A B C D E : RattleType) → IsSend A → IsSend B → IsSend C → IsSend D → IsSend E → IsSend (TupleAt name (A ∷ B ∷ C ∷ D ∷ E ∷ []))
five_send name A B C D E a b c d e =
    declared_send (type_at name (A ∷ B ∷ C ∷ D ∷ E ∷ [])) (as_row_send (row_field A) a, (as_row_send (row_field B) b, (as_row_send (row_field C) c, (as_row_send (row_field D) d, (as_row_send (row_field E) e, tt)))))
