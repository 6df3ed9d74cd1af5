use Rattle.std.proofs.Common.{sym, arith}
use Rattle.fdoca.specs.Reading.{fields_at}
use Rattle.fdoca.proofs.Steps.{closed, field_none, field_step, head_step}
use Rattle.fdoca.proofs.descriptor.Descriptor.read_fields.Goals as goal

pub returns-in_default : goal.returns-in_default
returns-in_default c = field_none c.reading.left c.reading.fields.items c.reading.rest.now (fields_at c.args.count c.args.bytes.now) c.if-left-gt0.true c.in_default.ensures.parts c.reading.invariant.read

pub returns-then-not-starts_with : goal.returns-then-not-starts_with
returns-then-not-starts_with c = (closed c.reading.left c.reading.fields.items c.reading.rest.now (fields_at c.args.count c.args.bytes.now) c.if-left-gt0.false c.in_default-split_continued.ensures.parts c.reading.invariant.read).1 (sym c.if-not-starts_with.ensures.value)

pub reading-preserved-then-left-gt0 : goal.reading-preserved-then-left-gt0
reading-preserved-then-left-gt0 c = record {
  read = field_step c.reading.left c.reading.fields.items c.push.new.self.items c.in-Some.field c.reading.rest.now c.in-Some.behind.now (fields_at c.args.count c.args.bytes.now) c.if-left-gt0.true c.in-Some.ensures.parts c.in_ok-push.ensures.ok c.reading.invariant.read;
  few = omega (arith, c.reading.invariant.few, c.in_ok-push.ensures.len, c.if-len-eq-MOST_FIELDS.false, c.len.ensures.value);
  room = omega (arith, c.reading.invariant.room, c.push.ensures.capacity);
}

pub reading-preserved : goal.reading-preserved
reading-preserved c = record {
  read = head_step c.reading.left c.in-Some-split_continued.count c.reading.fields.items c.reading.rest.now c.in-Some-split_continued.behind.now (fields_at c.args.count c.args.bytes.now) c.if-left-gt0.false c.in-Some-split_continued.ensures.parts c.reading.invariant.read;
  few = c.reading.invariant.few;
  room = c.reading.invariant.room;
}
