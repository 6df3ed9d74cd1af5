use Rattle.std.proofs.Common.{◌≡◌, ◌≤◌, ◌+◌, ◌++◌, ℕ, [], length, take, drop, min, slice_index, Some, subst, ap, arith, rules, length-append}
use Rattle.std.proofs.lemmas.List.{length-take}
use Rattle.std.proofs.KnownBytes.{Consumes-nil}
use Rattle.counted_streams.specs.Counts.{source_of}
use Rattle.drda_node.specs.declared.event.Head.{Head}
use Rattle.drda_node.specs.declared.event.Head.TheVariants.{Sends}
use Rattle.drda_node.specs.Reading.{IsHead}
use Rattle.conversation.proofs.Written.{take_front}
use Rattle.drda_node.proofs.Recording.{bad_tail, front_read, received, no_bytes, head_size, head_small, short_front}
use Rattle.drda_node.proofs.reading.await_event.Goals as goal

pub returns-in-Ended-fill-clause-reads : goal.returns-in-Ended-fill-clause-reads
returns-in-Ended-fill-clause-reads g c =
    let front = c.fill.new.buffer in
    let r0 = g.R.Read.remaining (source_of c.args.reader.now) in
    let r1 = g.R.Read.remaining (source_of c.fill.new.reader) in
    let r2 = g.R.Read.remaining (source_of c.fill-in-Sends.new.reader) in
    let is : IsHead (slice_index front 0) (slice_index front 1) c.number_in.result (Some (Sends c.in-Sends.field-0 c.in-Sends.size)) =
    subst (λ (h : Head). IsHead (slice_index front 0) (slice_index front 1) c.number_in.result (Some h)) c.in-Sends.is c.in-Some.ensures in
    let size = head_size (Sends c.in-Sends.field-0 c.in-Sends.size) (slice_index front 0) (slice_index front 1) c.number_in.result is in
    let bytes = c.fill-in-Sends.new.buffer in
    let room : length bytes ≤ c.in-Sends.size = search rules in
    let here : length (take c.in-Ended-fill.field-0 bytes) ≡ min c.in-Ended-fill.field-0 (length bytes) = length-take c.in-Ended-fill.field-0 bytes in
    bad_tail r0 r1 r2 (slice_index front 0) (slice_index front 1) (slice_index front 2) (slice_index front 3) (slice_index front 4) (slice_index front 5) c.number_in.result c.in-Ended-fill.field-0 bytes
    (front_read r0 r1 front (search rules) c.in-Whole.ensures.fills) c.number_in.ensures.value c.in-Ended-fill.ensures.fills.0 c.in-Ended-fill.ensures.fills.1 (omega (arith, here, room, size, c.in-Ended-fill.ensures.fills.2))

pub returns-in-Whole-fill : goal.returns-in-Whole-fill
returns-in-Whole-fill g c =
    let front = c.fill.new.buffer in
    let r0 = g.R.Read.remaining (source_of c.args.reader.now) in
    let r1 = g.R.Read.remaining (source_of c.fill.new.reader) in
    let r2 = g.R.Read.remaining (source_of c.fill-in-Sends.new.reader) in
    let head = Sends c.in-Sends.field-0 c.in-Sends.size in
    let is : IsHead (slice_index front 0) (slice_index front 1) c.number_in.result (Some (Sends c.in-Sends.field-0 c.in-Sends.size)) =
    subst (λ (h : Head). IsHead (slice_index front 0) (slice_index front 1) c.number_in.result (Some h)) c.in-Sends.is c.in-Some.ensures in
    let part = c.fill-in-Sends.new.buffer in
    let behind = drop c.in-Sends.size c.args.buffer.now in
    let count : length part ≡ c.in-Sends.size = search rules in
    let all : length (part ++ behind) ≡ length part + length behind = length-append part behind in
    record {
      reads = received r0 r1 r2 (Sends c.in-Sends.field-0 c.in-Sends.size) (slice_index front 0) (slice_index front 1) (slice_index front 2) (slice_index front 3) (slice_index front 4) (slice_index front 5) c.number_in.result (part ++ behind) part
          (front_read r0 r1 front (search rules) c.in-Whole.ensures.fills) c.in-Whole-fill.ensures.fills is c.number_in.ensures.spells (omega (arith, count, all)) (take_front c.in-Sends.size part behind count);
      within = head_small (Sends c.in-Sends.field-0 c.in-Sends.size) (slice_index front 0) (slice_index front 1) c.number_in.result is;
      made = search rules;
      faults = search rules;
    }

pub returns-in_default-head : goal.returns-in_default-head
returns-in_default-head g c =
    let front = c.fill.new.buffer in
    let r0 = g.R.Read.remaining (source_of c.args.reader.now) in
    let r1 = g.R.Read.remaining (source_of c.fill.new.reader) in
    let none = no_bytes c.in-Some.head c.in_default-head.not-Sends in
    record {
      reads = received r0 r1 r1 c.in-Some.head (slice_index front 0) (slice_index front 1) (slice_index front 2) (slice_index front 3) (slice_index front 4) (slice_index front 5) c.number_in.result c.args.buffer.now []
          (front_read r0 r1 front (search rules) c.in-Whole.ensures.fills) (Consumes-nil r1) c.in-Some.ensures c.number_in.ensures.spells (omega (arith, none)) (ap (λ (n : ℕ). take n c.args.buffer.now) none);
      within = omega (arith, none);
      made = search rules;
      faults = search rules;
    }

pub returns-in-Ended-clause-reads : goal.returns-in-Ended-clause-reads
returns-in-Ended-clause-reads g c =
    short_front (g.R.Read.remaining (source_of c.args.reader.now)) (g.R.Read.remaining (source_of c.fill.new.reader)) c.fill.new.buffer c.in-Ended.field-0 (search rules) c.in-Ended.ensures.fills.0 c.in-Ended.ensures.fills.1 c.in-Ended.ensures.fills.2 c.in-Ended.field-0-test.1
