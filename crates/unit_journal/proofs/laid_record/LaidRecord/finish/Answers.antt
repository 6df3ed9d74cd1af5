use Rattle.std.proofs.Common.{◌≡◌, ◌^◌, ◌<◌, ◌++◌, ◌∷◌, [], ◌∙◌, length, drop, length-drop, arith}
use Rattle.unit_journal.specs.Record.{Entry, behind}
use Rattle.unit_journal.proofs.LaidRecords.{closed, found_is, spelled_is, short_is}
use Rattle.unit_journal.proofs.laid_record.LaidRecord.finish.Goals as goal

pub invariant_of-result : goal.invariant_of-result
invariant_of-result c =
    let e : Entry = record { kind = c.args.kind; body = drop 5 c.args.bytes.items } in
    let is : c.push.new.self.items ≡ behind e ++ 0 ∷ [] = closed c.args.kind _ _ _ _ _ _ c.deref_mut.ensures.value c.set_front.ensures.bytes (c.set_front.ensures.len ∙ c.deref_mut.ensures.len) c.in_ok-push.ensures.items in
    let short : length e.body < 2 ^ 32 = omega (arith, length-drop 5 c.args.bytes.items, c.requires.short) in
    record { spelled = spelled_is e _ is; short = short_is e _ is short }

pub returns-clause-entry : goal.returns-clause-entry
returns-clause-entry c =
    found_is _ _ (closed c.args.kind _ _ _ _ _ _ c.deref_mut.ensures.value c.set_front.ensures.bytes (c.set_front.ensures.len ∙ c.deref_mut.ensures.len) c.in_ok-push.ensures.items)
