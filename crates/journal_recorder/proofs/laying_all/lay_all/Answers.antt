use Rattle.std.proofs.Common.{rules, ◌≡◌, ◌+◌, map, ◌++◌, ◌∷◌, [], arith}
use Rattle.unit_journal.specs.LaidRecord.{entry_in}
use Rattle.unit_records.specs.RecordContents.{said_by}
use Rattle.unit_records.specs.Room.{held, released}
use Rattle.journal_recorder.specs.Laying.{IsLaid}
use Rattle.journal_recorder.proofs.Together.{all_left, next_laid}
use Rattle.journal_recorder.proofs.laying_all.lay_all.Goals as goal

pub loop-left-init : goal.loop-left-init
loop-left-init c =
    let laid : IsLaid c.args.layout (said_by c.first-item.result) c.args.room (entry_in c.in_ok-ok.field-0) = search rules in
    let holds : c.held_by-hold.result ≡ 0 + held c.args.layout (said_by c.first-item.result) = omega (arith, c.held_by-hold.ensures) in
    let releases : c.released_by-release.result ≡ 0 + released c.args.layout (said_by c.first-item.result) = omega (arith, c.released_by-release.ensures) in
    next_laid c.args.layout (map said_by c.args.sayings.now) c.args.sayings.now c.first-item.result [] c.of-group.result 0 c.held_by-hold.result 0 c.released_by-release.result c.args.room
    (entry_in c.in_ok-ok.field-0) c.in-len1-up.len_at_least c.first-item.is (all_left c.args.layout (map said_by c.args.sayings.now)) laid c.of-group.ensures holds releases

pub loop-left-preserved : goal.loop-left-preserved
loop-left-preserved c =
    let laid : IsLaid c.args.layout (said_by c.next-item.result) c.args.room (entry_in c.in_ok-ok-2.field-0) = search rules in
    let pushed : c.push.new.self ≡ c.loop-left.group ++ entry_in c.in_ok-ok-2.field-0 ∷ [] = search rules in
    let holds : c.in_ok-hold.hold ≡ c.loop-left.hold + held c.args.layout (said_by c.next-item.result) = omega (arith, c.in_ok-hold.ensures.1, c.held_by.ensures) in
    let releases : c.in_ok-release.release ≡ c.loop-left.release + released c.args.layout (said_by c.next-item.result) = omega (arith, c.in_ok-release.ensures.1, c.released_by.ensures) in
    next_laid c.args.layout (map said_by c.args.sayings.now) c.loop-left.left.now c.next-item.result c.loop-left.group c.push.new.self c.loop-left.hold c.in_ok-hold.hold c.loop-left.release c.in_ok-release.release c.args.room
    (entry_in c.in_ok-ok-2.field-0) c.in-len1-up-left.len_at_least c.next-item.is c.loop-left.invariant laid pushed holds releases
