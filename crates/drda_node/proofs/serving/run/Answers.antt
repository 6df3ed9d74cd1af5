use Rattle.std.proofs.Common.{rules, ◌≡◌, ◌+◌, ℕ, List, length, drop, ap, subst, ◌∙◌, arith, refl, sym, inl, inr}
use Rattle.counted_streams.specs.Counts.{counts, read_faults_of, reads_of, sink_of, source_of, write_faults_of}
use Rattle.drda_node.specs.Register.{core_in, machine}
use Rattle.drda_node.proofs.Journal.{more, none}
use Rattle.drda_node.specs.declared.serving.RunEnd.TheVariants.{Ended, BadEvent, NoMemory, ReadFault}
use Rattle.drda_node.specs.Gathering.{Ends, PassesOn, WritesFront}
use Rattle.drda_node.specs.Reading.{event_of}
use Rattle.drda_node.specs.Happening.{BreaksOff, Happens}
use Rattle.drda_node.specs.Serving.{GoesOn}
use Rattle.drda_node.proofs.Refusing.{broken_keep}
use Rattle.conversation.proofs.Written.{take_front}
use Rattle.drda_node.specs.Stations.{TellsCheckpoint, first_station}
use Rattle.drda_node.proofs.Histories.{begun, happens as happens_so, some_both, unasked}
use Rattle.drda_node.proofs.Stations.{Along, begins_along, ends_along, fault_along, not_along, one_more_along}
use Rattle.drda_node.proofs.Runs.{SoFar, ends, is_bad, no_memory, not_begun, one_more, read_fault, starts, write_fault}
use Rattle.drda_node.proofs.Causes.{ended}
use Rattle.drda_node.proofs.serving.run.Goals as goal

pub returns-in_default-clause-runs : goal.returns-in_default-clause-runs
returns-in_default-clause-runs g c = not_begun (g.R.Read.remaining (source_of c.args.reader.now)) (g.W.Write.contents (sink_of c.args.writer.now)) (machine c.args.node.now)

pub answer-requires : goal.answer-requires
answer-requires g c =
    let buffer = c.read_event.new.buffer in
    let behind = drop (length c.read_event.new.buffer) c.events.buffer.items in
    let lent : length c.deref_mut.result.now ≡ 65536 = ap length c.deref_mut.ensures.value ∙ c.events.invariant.room in
    let full : length c.read_event.new.buffer ≡ 65536 = omega (arith, lent) in
    let count : length c.read_event.new.buffer ≡ c.events.buffer.len = omega (arith, lent, full) in
    let back = take_front c.events.buffer.len buffer behind count in
    let all : length c.deref.result.now ≡ length buffer = ap length (c.deref.ensures.value ∙ back) in
    omega (arith, all, full, c.in-Event.ensures.within)

pub returns-in_default-answer-clause-runs : goal.returns-in_default-answer-clause-runs
returns-in_default-answer-clause-runs g c =
    let buffer = c.read_event.new.buffer in
    let behind = drop (length c.read_event.new.buffer) c.events.buffer.items in
    let lent : length c.deref_mut.result.now ≡ 65536 = ap length c.deref_mut.ensures.value ∙ c.events.invariant.room in
    let full : length c.read_event.new.buffer ≡ 65536 = omega (arith, lent) in
    let count : length c.read_event.new.buffer ≡ c.events.buffer.len = omega (arith, lent, full) in
    let back = take_front c.events.buffer.len buffer behind count in
    let same : c.deref.result.now ≡ buffer = c.deref.ensures.value ∙ back in
    let between = machine c.events.node in
    let last = machine c.answer.new.node in
    let event = event_of c.in-Event.head buffer in
    let breaks = subst (λ (z : List ℕ). BreaksOff between (event_of c.in-Event.head z) last) same c.in_default-answer.ensures.breaks_off in
    let journaled = c.answer.ensures.journaled in
    let goes_on : GoesOn between last = record {
      settings = broken_keep between last event breaks;
      more = journaled.more;
      done = journaled.done;
      failed = λ failed. (journaled.failed failed).failed;
    } in
    no_memory (g.R.Read.remaining (source_of c.args.reader.now)) (g.R.Read.remaining (source_of c.events.reader)) (g.R.Read.remaining (source_of c.read_event.new.reader)) (g.W.Write.contents (sink_of c.args.writer.now)) (g.W.Write.contents (sink_of c.events.writer))
    (g.W.Write.contents (sink_of c.finish.new.writer)) (machine c.args.node.now) between last event c.events.gathered.items c.finish.result c.events.invariant.so_far c.in-Event.ensures.reads breaks goes_on
    (subst (λ (z : List ℕ). Ends (g.W.Write.contents (sink_of c.events.writer)) z NoMemory c.finish.result (g.W.Write.contents (sink_of c.finish.new.writer))) c.deref-in_default-answer.ensures.value c.finish.ensures.ends)

pub returns-in_default-pass_on-clause-runs : goal.returns-in_default-pass_on-clause-runs
returns-in_default-pass_on-clause-runs g c =
    let buffer = c.read_event.new.buffer in
    let behind = drop (length c.read_event.new.buffer) c.events.buffer.items in
    let lent : length c.deref_mut.result.now ≡ 65536 = ap length c.deref_mut.ensures.value ∙ c.events.invariant.room in
    let full : length c.read_event.new.buffer ≡ 65536 = omega (arith, lent) in
    let count : length c.read_event.new.buffer ≡ c.events.buffer.len = omega (arith, lent, full) in
    let back = take_front c.events.buffer.len buffer behind count in
    let same : c.deref.result.now ≡ buffer = c.deref.ensures.value ∙ back in
    let r = g.R.Read.remaining (source_of c.args.reader.now) in
    let r1 = g.R.Read.remaining (source_of c.events.reader) in
    let r2 = g.R.Read.remaining (source_of c.read_event.new.reader) in
    let w = g.W.Write.contents (sink_of c.args.writer.now) in
    let w1 = g.W.Write.contents (sink_of c.events.writer) in
    let w2 = g.W.Write.contents (sink_of c.pass_on.new.writer) in
    let first = machine c.args.node.now in
    let between = machine c.events.node in
    let last = machine c.answer.new.node in
    let text = c.answer.new.text.items in
    let event = event_of c.in-Event.head buffer in
    let happens = subst (λ (z : List ℕ). Happens between (event_of c.in-Event.head z) text last) same c.in-Ok-answer.ensures.happens in
    let gathered = c.events.gathered.items in
    let wrote = subst (λ (z : List ℕ). WritesFront w1 w2 gathered z) c.deref-in-Event.ensures.value c.in_default-pass_on.ensures.err in
    write_fault r r1 r2 w w1 w2 first between last event text gathered c.events.invariant.so_far c.in-Event.ensures.reads happens wrote

pub returns-in-Ended-clause-runs : goal.returns-in-Ended-clause-runs
returns-in-Ended-clause-runs g c =
    ends (g.R.Read.remaining (source_of c.args.reader.now)) (g.R.Read.remaining (source_of c.events.reader)) (g.W.Write.contents (sink_of c.args.writer.now)) (g.W.Write.contents (sink_of c.events.writer)) (g.W.Write.contents (sink_of c.finish-in-Ended.new.writer)) (machine c.args.node.now) (machine c.events.node)
    c.events.gathered.items c.finish-in-Ended.result c.events.invariant.so_far c.in-Ended.ensures.reads
    (subst (λ (z : List ℕ). Ends (g.W.Write.contents (sink_of c.events.writer)) z Ended c.finish-in-Ended.result (g.W.Write.contents (sink_of c.finish-in-Ended.new.writer))) c.deref-in-Ended.ensures.value c.finish-in-Ended.ensures.ends)

pub returns-in-Bad-clause-runs : goal.returns-in-Bad-clause-runs
returns-in-Bad-clause-runs g c =
    is_bad (g.R.Read.remaining (source_of c.args.reader.now)) (g.R.Read.remaining (source_of c.events.reader)) (g.W.Write.contents (sink_of c.args.writer.now)) (g.W.Write.contents (sink_of c.events.writer)) (g.W.Write.contents (sink_of c.finish-in-Bad.new.writer)) (machine c.args.node.now) (machine c.events.node)
    c.events.gathered.items c.finish-in-Bad.result c.events.invariant.so_far c.in-Bad.ensures.reads
    (subst (λ (z : List ℕ). Ends (g.W.Write.contents (sink_of c.events.writer)) z BadEvent c.finish-in-Bad.result (g.W.Write.contents (sink_of c.finish-in-Bad.new.writer))) c.deref-in-Bad.ensures.value c.finish-in-Bad.ensures.ends)

pub returns-in-Fault-clause-runs : goal.returns-in-Fault-clause-runs
returns-in-Fault-clause-runs g c =
    read_fault (g.R.Read.remaining (source_of c.args.reader.now)) (g.R.Read.remaining (source_of c.events.reader)) (g.W.Write.contents (sink_of c.args.writer.now)) (g.W.Write.contents (sink_of c.events.writer)) (g.W.Write.contents (sink_of c.finish-in-Fault.new.writer)) (machine c.args.node.now) (machine c.events.node)
    c.events.gathered.items c.finish-in-Fault.result c.events.invariant.so_far
    (subst (λ (z : List ℕ). Ends (g.W.Write.contents (sink_of c.events.writer)) z ReadFault c.finish-in-Fault.result (g.W.Write.contents (sink_of c.finish-in-Fault.new.writer))) c.deref-in-Fault.ensures.value c.finish-in-Fault.ensures.ends)

pub events-preserved : goal.events-preserved
events-preserved g c =
    let buffer = c.read_event.new.buffer in
    let behind = drop (length c.read_event.new.buffer) c.events.buffer.items in
    let lent : length c.deref_mut.result.now ≡ 65536 = ap length c.deref_mut.ensures.value ∙ c.events.invariant.room in
    let full : length c.read_event.new.buffer ≡ 65536 = omega (arith, lent) in
    let count : length c.read_event.new.buffer ≡ c.events.buffer.len = omega (arith, lent, full) in
    let back = take_front c.events.buffer.len buffer behind count in
    let same : c.deref.result.now ≡ buffer = c.deref.ensures.value ∙ back in
    let r = g.R.Read.remaining (source_of c.args.reader.now) in
    let r1 = g.R.Read.remaining (source_of c.events.reader) in
    let r2 = g.R.Read.remaining (source_of c.read_event.new.reader) in
    let w = g.W.Write.contents (sink_of c.args.writer.now) in
    let w1 = g.W.Write.contents (sink_of c.events.writer) in
    let w2 = g.W.Write.contents (sink_of c.pass_on.new.writer) in
    let first = machine c.args.node.now in
    let between = machine c.events.node in
    let last = machine c.answer.new.node in
    let text = c.answer.new.text.items in
    let event = event_of c.in-Event.head buffer in
    let happens = subst (λ (z : List ℕ). Happens between (event_of c.in-Event.head z) text last) same c.in-Ok-answer.ensures.happens in
    let gathered = c.events.gathered.items in
    let passed = subst (λ (z : List ℕ). PassesOn w1 gathered z w2 c.pass_on.new.gathered.items) c.deref-in-Event.ensures.value c.in-Ok-pass_on.ensures.ok in
    record {
      room = ap length back ∙ full;
      journaled = more g.D.Disk.is_modelled g.D.Disk.life c.calls_go_on.ensures (core_in c.args.node.now) (core_in c.events.node) (core_in c.answer.new.node) c.events.invariant.journaled c.answer.ensures.journaled;
      history = some_both first.core between.core last.core c.events.invariant.history (happens_so between last event text happens);
      so_far = one_more r r1 r2 w w1 w2 first between last event text gathered c.pass_on.new.gathered.items c.events.invariant.so_far c.in-Event.ensures.reads happens passed;
      along = one_more_along g.D.Disk.is_modelled g.D.Disk.life (first_station first (core_in c.args.node.now)) r r1 r2 w w1 w2 between last (core_in c.events.node) (core_in c.answer.new.node) event text gathered c.pass_on.new.gathered.items
          c.events.invariant.along c.in-Event.ensures.reads happens c.answer.ensures.journaled refl
          (subst (λ (z : List ℕ). TellsCheckpoint g.D.Disk.is_modelled g.D.Disk.life (core_in c.events.node) (event_of c.in-Event.head z) text (core_in c.answer.new.node)) same c.in-Ok-answer.ensures.checkpoint) passed;
      made = omega (arith, c.in-Event.ensures.made, c.events.invariant.made);
      read_faults = c.in-Event.ensures.faults ∙ c.events.invariant.read_faults;
      write_faults = c.in-Ok-pass_on.ensures.faults ∙ c.events.invariant.write_faults;
    }

pub returns-clause-runs : goal.returns-clause-runs
returns-clause-runs g c =
    read_fault (g.R.Read.remaining (source_of c.args.reader.now)) (g.R.Read.remaining (source_of c.events.reader)) (g.W.Write.contents (sink_of c.args.writer.now)) (g.W.Write.contents (sink_of c.events.writer)) (g.W.Write.contents (sink_of c.finish-2.new.writer)) (machine c.args.node.now) (machine c.events.node)
    c.events.gathered.items c.finish-2.result c.events.invariant.so_far
    (subst (λ (z : List ℕ). Ends (g.W.Write.contents (sink_of c.events.writer)) z ReadFault c.finish-2.result (g.W.Write.contents (sink_of c.finish-2.new.writer))) c.deref-2.ensures.value c.finish-2.ensures.ends)

pub returns-in_default-clause-journaled : goal.returns-in_default-clause-journaled
returns-in_default-clause-journaled g c = none g.D.Disk.is_modelled g.D.Disk.life c.calls_go_on.ensures (core_in c.args.node.now) c.is_durable.ensures

pub returns-in_default-answer-clause-journaled : goal.returns-in_default-answer-clause-journaled
returns-in_default-answer-clause-journaled g c = more g.D.Disk.is_modelled g.D.Disk.life c.calls_go_on.ensures (core_in c.args.node.now) (core_in c.events.node) (core_in c.answer.new.node) c.events.invariant.journaled c.answer.ensures.journaled

pub returns-in_default-pass_on-clause-journaled : goal.returns-in_default-pass_on-clause-journaled
returns-in_default-pass_on-clause-journaled g c = more g.D.Disk.is_modelled g.D.Disk.life c.calls_go_on.ensures (core_in c.args.node.now) (core_in c.events.node) (core_in c.answer.new.node) c.events.invariant.journaled c.answer.ensures.journaled

pub returns-in_default-clause-history : goal.returns-in_default-clause-history
returns-in_default-clause-history g c = unasked (machine c.args.node.now) (machine c.args.node.now) refl

pub returns-in_default-answer-clause-history : goal.returns-in_default-answer-clause-history
returns-in_default-answer-clause-history g c =
    let between = machine c.events.node in
    let last = machine c.answer.new.node in
    some_both (machine c.args.node.now).core between.core last.core c.events.invariant.history (begun between last (event_of c.in-Event.head c.deref.result.now) c.in_default-answer.ensures.breaks_off)

pub returns-in_default-pass_on-clause-history : goal.returns-in_default-pass_on-clause-history
returns-in_default-pass_on-clause-history g c =
    let between = machine c.events.node in
    let last = machine c.answer.new.node in
    some_both (machine c.args.node.now).core between.core last.core c.events.invariant.history
    (happens_so between last (event_of c.in-Event.head c.deref.result.now) c.answer.new.text.items c.in-Ok-answer.ensures.happens)

pub events-init : goal.events-init
events-init g c = record {
  room = c.in-Ok.ensures;
  history = unasked (machine c.args.node.now) (machine c.args.node.now) refl;
  journaled = none g.D.Disk.is_modelled g.D.Disk.life c.calls_go_on.ensures (core_in c.args.node.now) c.is_durable.ensures;
  so_far = subst (λ (z : List ℕ). SoFar (machine c.args.node.now) (g.R.Read.remaining (source_of c.args.reader.now)) (g.R.Read.remaining (source_of c.args.reader.now)) (g.W.Write.contents (sink_of c.args.writer.now)) (g.W.Write.contents (sink_of c.args.writer.now)) z (machine c.args.node.now)) (sym c.new-gathered.ensures.items)
      (starts (g.R.Read.remaining (source_of c.args.reader.now)) (g.W.Write.contents (sink_of c.args.writer.now)) (machine c.args.node.now));
  along = subst (λ (z : List ℕ). Along g.D.Disk.is_modelled g.D.Disk.life (first_station (machine c.args.node.now) (core_in c.args.node.now)) (g.R.Read.remaining (source_of c.args.reader.now)) (g.R.Read.remaining (source_of c.args.reader.now)) (g.W.Write.contents (sink_of c.args.writer.now))
      (g.W.Write.contents (sink_of c.args.writer.now)) z (machine c.args.node.now) (core_in c.args.node.now)) (sym c.new-gathered.ensures.items)
      (begins_along g.D.Disk.is_modelled g.D.Disk.life (g.R.Read.remaining (source_of c.args.reader.now)) (g.W.Write.contents (sink_of c.args.writer.now)) (machine c.args.node.now) (core_in c.args.node.now));
  made = search rules;
  read_faults = refl;
  write_faults = refl;
}

pub returns-in_default-clause-stations : goal.returns-in_default-clause-stations
returns-in_default-clause-stations g c = not_along g.D.Disk.is_modelled g.D.Disk.life (g.R.Read.remaining (source_of c.args.reader.now)) (g.W.Write.contents (sink_of c.args.writer.now)) (machine c.args.node.now) (core_in c.args.node.now)

pub returns-in_default-answer-clause-stations : goal.returns-in_default-answer-clause-stations
returns-in_default-answer-clause-stations g c =
    ends_along g.D.Disk.is_modelled g.D.Disk.life (first_station (machine c.args.node.now) (core_in c.args.node.now)) (g.R.Read.remaining (source_of c.args.reader.now)) (g.R.Read.remaining (source_of c.events.reader)) (g.W.Write.contents (sink_of c.args.writer.now))
    (g.W.Write.contents (sink_of c.events.writer)) (g.W.Write.contents (sink_of c.finish.new.writer)) (machine c.events.node) (core_in c.events.node) (core_in c.answer.new.node) c.events.gathered.items NoMemory c.finish.result c.events.invariant.along
    (subst (λ (z : List ℕ). Ends (g.W.Write.contents (sink_of c.events.writer)) z NoMemory c.finish.result (g.W.Write.contents (sink_of c.finish.new.writer))) c.deref-in_default-answer.ensures.value c.finish.ensures.ends) (inr c.answer.ensures.journaled)

pub returns-in_default-pass_on-clause-stations : goal.returns-in_default-pass_on-clause-stations
returns-in_default-pass_on-clause-stations g c =
    let w1 = g.W.Write.contents (sink_of c.events.writer) in
    let w2 = g.W.Write.contents (sink_of c.pass_on.new.writer) in
    let gathered = c.events.gathered.items in
    let wrote = subst (λ (z : List ℕ). WritesFront w1 w2 gathered z) c.deref-in-Event.ensures.value c.in_default-pass_on.ensures.err in
    fault_along g.D.Disk.is_modelled g.D.Disk.life (first_station (machine c.args.node.now) (core_in c.args.node.now)) (g.R.Read.remaining (source_of c.args.reader.now)) (g.R.Read.remaining (source_of c.events.reader)) (g.W.Write.contents (sink_of c.args.writer.now)) w1 w2
    (machine c.events.node) (core_in c.events.node) (core_in c.answer.new.node) gathered c.answer.new.text.items c.events.invariant.along wrote (inr c.answer.ensures.journaled)

pub returns-in-Ended-clause-stations : goal.returns-in-Ended-clause-stations
returns-in-Ended-clause-stations g c =
    ends_along g.D.Disk.is_modelled g.D.Disk.life (first_station (machine c.args.node.now) (core_in c.args.node.now)) (g.R.Read.remaining (source_of c.args.reader.now)) (g.R.Read.remaining (source_of c.events.reader)) (g.W.Write.contents (sink_of c.args.writer.now))
    (g.W.Write.contents (sink_of c.events.writer)) (g.W.Write.contents (sink_of c.finish-in-Ended.new.writer)) (machine c.events.node) (core_in c.events.node) (core_in c.events.node) c.events.gathered.items Ended c.finish-in-Ended.result c.events.invariant.along
    (subst (λ (z : List ℕ). Ends (g.W.Write.contents (sink_of c.events.writer)) z Ended c.finish-in-Ended.result (g.W.Write.contents (sink_of c.finish-in-Ended.new.writer))) c.deref-in-Ended.ensures.value c.finish-in-Ended.ensures.ends) (inl refl)

pub returns-in-Bad-clause-stations : goal.returns-in-Bad-clause-stations
returns-in-Bad-clause-stations g c =
    ends_along g.D.Disk.is_modelled g.D.Disk.life (first_station (machine c.args.node.now) (core_in c.args.node.now)) (g.R.Read.remaining (source_of c.args.reader.now)) (g.R.Read.remaining (source_of c.events.reader)) (g.W.Write.contents (sink_of c.args.writer.now))
    (g.W.Write.contents (sink_of c.events.writer)) (g.W.Write.contents (sink_of c.finish-in-Bad.new.writer)) (machine c.events.node) (core_in c.events.node) (core_in c.events.node) c.events.gathered.items BadEvent c.finish-in-Bad.result c.events.invariant.along
    (subst (λ (z : List ℕ). Ends (g.W.Write.contents (sink_of c.events.writer)) z BadEvent c.finish-in-Bad.result (g.W.Write.contents (sink_of c.finish-in-Bad.new.writer))) c.deref-in-Bad.ensures.value c.finish-in-Bad.ensures.ends) (inl refl)

pub returns-in-Fault-clause-stations : goal.returns-in-Fault-clause-stations
returns-in-Fault-clause-stations g c =
    ends_along g.D.Disk.is_modelled g.D.Disk.life (first_station (machine c.args.node.now) (core_in c.args.node.now)) (g.R.Read.remaining (source_of c.args.reader.now)) (g.R.Read.remaining (source_of c.events.reader)) (g.W.Write.contents (sink_of c.args.writer.now))
    (g.W.Write.contents (sink_of c.events.writer)) (g.W.Write.contents (sink_of c.finish-in-Fault.new.writer)) (machine c.events.node) (core_in c.events.node) (core_in c.events.node) c.events.gathered.items ReadFault c.finish-in-Fault.result c.events.invariant.along
    (subst (λ (z : List ℕ). Ends (g.W.Write.contents (sink_of c.events.writer)) z ReadFault c.finish-in-Fault.result (g.W.Write.contents (sink_of c.finish-in-Fault.new.writer))) c.deref-in-Fault.ensures.value c.finish-in-Fault.ensures.ends) (inl refl)

pub returns-clause-stations : goal.returns-clause-stations
returns-clause-stations g c =
    ends_along g.D.Disk.is_modelled g.D.Disk.life (first_station (machine c.args.node.now) (core_in c.args.node.now)) (g.R.Read.remaining (source_of c.args.reader.now)) (g.R.Read.remaining (source_of c.events.reader)) (g.W.Write.contents (sink_of c.args.writer.now))
    (g.W.Write.contents (sink_of c.events.writer)) (g.W.Write.contents (sink_of c.finish-2.new.writer)) (machine c.events.node) (core_in c.events.node) (core_in c.events.node) c.events.gathered.items ReadFault c.finish-2.result c.events.invariant.along
    (subst (λ (z : List ℕ). Ends (g.W.Write.contents (sink_of c.events.writer)) z ReadFault c.finish-2.result (g.W.Write.contents (sink_of c.finish-2.new.writer))) c.deref-2.ensures.value c.finish-2.ensures.ends) (inl refl)

-- ---- what has failed

pub returns-in_default-clause-cause : goal.returns-in_default-clause-cause
returns-in_default-clause-cause g c = record { reading = refl; writing = refl }

pub returns-in_default-answer-clause-cause : goal.returns-in_default-answer-clause-cause
returns-in_default-answer-clause-cause g c =
    ended NoMemory c.finish.result (counts c.args.reader.now c.args.writer.now) (reads_of c.read_event.new.reader) (read_faults_of c.read_event.new.reader) (write_faults_of c.events.writer) (write_faults_of c.finish.new.writer)
    (record { reading = c.in-Event.ensures.faults ∙ c.events.invariant.read_faults; writing = c.events.invariant.write_faults }) (inl (c.in-Event.ensures.faults ∙ c.events.invariant.read_faults)) c.events.invariant.write_faults c.finish.ensures.faults

pub returns-in_default-pass_on-clause-cause : goal.returns-in_default-pass_on-clause-cause
returns-in_default-pass_on-clause-cause g c = record {
  reading = inl (c.in-Event.ensures.faults ∙ c.events.invariant.read_faults);
  writing = c.in_default-pass_on.ensures.faults ∙ ap (λ (n : ℕ). n + 1) c.events.invariant.write_faults;
}

pub returns-in-Ended-clause-cause : goal.returns-in-Ended-clause-cause
returns-in-Ended-clause-cause g c =
    ended Ended c.finish-in-Ended.result (counts c.args.reader.now c.args.writer.now) (reads_of c.read_event.new.reader) (read_faults_of c.read_event.new.reader) (write_faults_of c.events.writer) (write_faults_of c.finish-in-Ended.new.writer)
    (record { reading = c.in-Ended.ensures.faults ∙ c.events.invariant.read_faults; writing = c.events.invariant.write_faults }) (inl (c.in-Ended.ensures.faults ∙ c.events.invariant.read_faults)) c.events.invariant.write_faults c.finish-in-Ended.ensures.faults

pub returns-in-Bad-clause-cause : goal.returns-in-Bad-clause-cause
returns-in-Bad-clause-cause g c =
    ended BadEvent c.finish-in-Bad.result (counts c.args.reader.now c.args.writer.now) (reads_of c.read_event.new.reader) (read_faults_of c.read_event.new.reader) (write_faults_of c.events.writer) (write_faults_of c.finish-in-Bad.new.writer)
    (record { reading = c.in-Bad.ensures.faults ∙ c.events.invariant.read_faults; writing = c.events.invariant.write_faults }) (inl (c.in-Bad.ensures.faults ∙ c.events.invariant.read_faults)) c.events.invariant.write_faults c.finish-in-Bad.ensures.faults

pub returns-in-Fault-clause-cause : goal.returns-in-Fault-clause-cause
returns-in-Fault-clause-cause g c =
    ended ReadFault c.finish-in-Fault.result (counts c.args.reader.now c.args.writer.now) (reads_of c.read_event.new.reader) (read_faults_of c.read_event.new.reader) (write_faults_of c.events.writer) (write_faults_of c.finish-in-Fault.new.writer)
    (record { reading = inl (c.in-Fault.ensures.faults ∙ ap (λ (n : ℕ). n + 1) c.events.invariant.read_faults); writing = c.events.invariant.write_faults }) (inr (c.in-Fault.ensures.faults ∙ ap (λ (n : ℕ). n + 1) c.events.invariant.read_faults)) c.events.invariant.write_faults c.finish-in-Fault.ensures.faults

pub returns-clause-cause : goal.returns-clause-cause
returns-clause-cause g c =
    ended ReadFault c.finish-2.result (counts c.args.reader.now c.args.writer.now) (reads_of c.events.reader) (read_faults_of c.events.reader) (write_faults_of c.events.writer) (write_faults_of c.finish-2.new.writer)
    (record { reading = inr (c.events.invariant.read_faults, search rules); writing = c.events.invariant.write_faults }) (inl c.events.invariant.read_faults) c.events.invariant.write_faults c.finish-2.ensures.faults
