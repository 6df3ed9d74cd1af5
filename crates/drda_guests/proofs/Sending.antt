-- What is shared between threads may be: doors, where a stream's handle may go to another thread.
use denote.RattleType.{RattleType}
use denote.Param.Send.{IsSend, IsSync, sendable}
use denote.Param.SendFields.{declared_send, declared_sync}
use Rattle.std.proofs.Crossing.{Vec-send, crosses}
use Rattle.std.specs.contracts.option.Option as option
use Rattle.std.proofs.option.Option.TheSendSync as option_sends
use Rattle.std.proofs.time.Instant.TheSendSync as instant_sends
use Rattle.drda_guests.specs.contracts.doors.Door as door
use Rattle.drda_guests.specs.contracts.doors.House as house
use Rattle.drda_guests.specs.contracts.doors.Doors as doors

-- a stream's handle may go to another thread, so what can be ended from there may be shared
door_send : (K : RattleType) → IsSend K → IsSend (door.the_row K)
door_send K s =
    declared_send (door.the_type K) (search (option_sends.the_send, s), (search sendable, (search (option_sends.the_send, instant_sends.the_send), (search sendable, (search sendable, tt)))))

house_send : (K : RattleType) → IsSend K → IsSend (house.the_row K)
house_send K s =
    let d = door_send K s in
    declared_send (house.the_type K) (Vec-send (option.the_row (door.the_row K)) (search (option_sends.the_send, d)), (search sendable, (search (sendable, option_sends.the_send), tt)))

pub doors_sync : (K : RattleType) → IsSend K → IsSync (doors.the_row K)
doors_sync K s =
    let h = house_send K s in
    declared_sync (doors.the_type K) (search (sendable, crosses, h) depth 12, tt)
