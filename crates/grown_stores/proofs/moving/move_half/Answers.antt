use Rattle.std.proofs.Common.{◌∙◌, ◌<◌, ◌≤◌, length, arith}
use Rattle.drda_disk.proofs.Moments.{and_then}
use Rattle.grown_stores.proofs.Laid.{between, gate_there, head_there}
use Rattle.grown_stores.proofs.moving.move_half.Goals as goal

pub copy-requires-clause-room : goal.copy-requires-clause-room
copy-requires-clause-room g c = omega (arith, c.requires.room.count_fits, c.requires.room.second_inside, c.reserve_blocks.ensures.size)

pub lay-requires-clause-front : goal.lay-requires-clause-front
lay-requires-clause-front g c = c.requires.room.head_fits

pub lay-requires-clause-behind : goal.lay-requires-clause-behind
lay-requires-clause-behind g c = omega (arith, c.requires.room.count_fits)

pub lay-requires-clause-inside : goal.lay-requires-clause-inside
lay-requires-clause-inside g c = omega (arith, c.requires.room.second_inside, c.copy.ensures.size, c.reserve_blocks.ensures.size)

pub returns-in_err-copy-clause-moments : goal.returns-in_err-copy-clause-moments
returns-in_err-copy-clause-moments g c bare =
    let first = c.reserve_blocks.ensures.moments bare in
    and_then _ _ _ _ _ _ first (c.copy.ensures.moments first.now) (λ i is. is) (λ i is. is)

pub returns-in-Ok-clause-moved : goal.returns-in-Ok-clause-moved
returns-in-Ok-clause-moved g c =
    let mid = (g.E.Disk.life c.copy.new.new).seen in
    let now = (g.E.Disk.life c.lay.new.disk).seen in
    let head = c.args.head.now in
    let at = c.args.second_at in
    let room = c.requires.room in
    let behind : 8192 ≤ at = omega (arith, room.count_fits) in
    let inside : at < length mid = omega (arith, room.second_inside, c.copy.ensures.size, c.reserve_blocks.ensures.size) in
    record {
      copied = λ one other. between mid now head at room.head_fits behind inside (c.in-Ok.ensures.written other) 8192 c.args.count (omega arith) room.count_fits ∙ c.in_ok-copy.ensures.copied one other;
      head_there = λ other. head_there mid now head at room.head_fits behind inside (c.in-Ok.ensures.written other);
      gate_shut = λ other. gate_there mid now head at room.head_fits behind inside (c.in-Ok.ensures.written other);
    }
