use Rattle.std.proofs.Common.{rules, ◌≡◌, ℕ, List, [], ◌++◌, length, take, drop, Option, ap, refl, subst, ◌∙◌, arith}
use Rattle.std.specs.Io.KnownBytes.{Consumes}
use Rattle.counted_streams.specs.Counts.{sink_of, source_of}
use Rattle.session_commands.specs.Settings.{Settings}
use Rattle.conversation.specs.Attended.{attended_by}
use Rattle.stream_service.specs.Serving.{AnswersPiece}
use Rattle.stream_service.specs.declared.serving.Served.{Served}
use Rattle.stream_service.proofs.Streams.{ends, ends_in, goes_on, none_done, read_fault, starts}
use Rattle.conversation.proofs.Written.{take_front}
use Rattle.stream_service.proofs.serving.converse.Goals as goal

pub returns-in_default-clause-converses : goal.returns-in_default-clause-converses
returns-in_default-clause-converses g c =
    none_done g.A.Ask.asks c.args.front.now c.args.asker.now (g.R.Read.remaining (source_of c.args.reader.now)) (g.W.Write.contents (sink_of c.args.writer.now)) c.requires

pub talking-init : goal.talking-init
talking-init g c =
    record {
      room = c.in-Ok.ensures;
      empty = c.new-replies.ensures.items;
      settled = c.requires;
      settings = refl;
      so_far = starts g.A.Ask.asks c.args.front.now c.args.asker.now (g.R.Read.remaining (source_of c.args.reader.now)) (g.W.Write.contents (sink_of c.args.writer.now)) c.requires;
      reads = search rules;
      read_faults = refl;
      write_faults = refl;
    }

pub returns-in-Ok-eq0-clause-converses : goal.returns-in-Ok-eq0-clause-converses
returns-in-Ok-eq0-clause-converses g c =
    let r = g.R.Read.remaining (source_of c.talking.reader) in
    let r' = g.R.Read.remaining (source_of c.read.new.self) in
    let lent : length c.deref_mut.result.now ≡ 65536 = ap length c.deref_mut.ensures.value ∙ c.talking.invariant.room in
    let zero_bytes : c.in-Ok-eq0.field-0 ≡ 0 = omega (arith, c.in-Ok-eq0.field-0-is) in
    let took : Consumes r r' [] = subst (λ (n : ℕ). Consumes r r' (take n c.read.new.buf)) zero_bytes c.in-Ok-eq0.ensures.bytes.0 in
    ends g.A.Ask.asks c.args.front.now.settings (attended_by c.args.front.now c.args.asker.now) (attended_by c.talking.front c.talking.asker)
    (g.R.Read.remaining (source_of c.args.reader.now)) r r' (g.W.Write.contents (sink_of c.args.writer.now)) (g.W.Write.contents (sink_of c.talking.writer)) c.talking.invariant.so_far took
    (c.in-Ok-eq0.ensures.bytes.1 zero_bytes (omega (arith, lent)))

pub returns-in-Err-clause-converses : goal.returns-in-Err-clause-converses
returns-in-Err-clause-converses g c =
    read_fault g.A.Ask.asks c.args.front.now.settings (attended_by c.args.front.now c.args.asker.now) (attended_by c.talking.front c.talking.asker)
    (g.R.Read.remaining (source_of c.args.reader.now)) (g.R.Read.remaining (source_of c.talking.reader)) (g.W.Write.contents (sink_of c.args.writer.now)) (g.W.Write.contents (sink_of c.talking.writer)) c.talking.invariant.so_far

pub returns-in-Some-clause-converses : goal.returns-in-Some-clause-converses
returns-in-Some-clause-converses g c =
    let buffer = c.read.new.buf in
    let behind = drop (length c.read.new.buf) c.talking.buffer.items in
    let lent : length c.deref_mut.result.now ≡ 65536 = ap length c.deref_mut.ensures.value ∙ c.talking.invariant.room in
    let full : length c.read.new.buf ≡ 65536 = omega (arith, lent) in
    let size : length c.read.new.buf ≡ c.talking.buffer.len = omega (arith, lent, full) in
    let back = take_front c.talking.buffer.len buffer behind size in
    let same : c.deref.result.now ≡ buffer = c.deref.ensures.value ∙ back in
    let n = c.in-Ok-read.count in
    let asks = g.A.Ask.asks in
    let settings = c.args.front.now.settings in
    let first = attended_by c.args.front.now c.args.asker.now in
    let mid = attended_by c.talking.front c.talking.asker in
    let last = attended_by c.answer_piece-ended.new.front c.answer_piece-ended.new.asker in
    let ended = c.answer_piece-ended.result in
    let r0 = g.R.Read.remaining (source_of c.args.reader.now) in
    let r = g.R.Read.remaining (source_of c.talking.reader) in
    let r' = g.R.Read.remaining (source_of c.read.new.self) in
    let w0 = g.W.Write.contents (sink_of c.args.writer.now) in
    let w = g.W.Write.contents (sink_of c.talking.writer) in
    let w' = g.W.Write.contents (sink_of c.answer_piece-ended.new.writer) in
    let more_fault = c.stays_read.ensures.fault in
    let took : Consumes r r' (take n buffer) = c.in-Ok-read.ensures.bytes.0 in
    let here : AnswersPiece asks settings mid (take n buffer) w ended w' last =
    subst (λ (v : Settings). AnswersPiece asks v mid (take n buffer) w ended w' last) c.talking.invariant.settings
    (subst (λ (z : List ℕ). AnswersPiece asks c.talking.front.settings mid (take n z) w ended w' last) same c.answer_piece-ended.ensures.answers) in
    let at_end = subst (λ (s : Option Served). AnswersPiece asks settings mid (take n buffer) w s w' last) c.in-Some.is here in
    ends_in asks settings more_fault c.in-Some.served first mid last (take n buffer) r0 r r' w0 w w' c.talking.invariant.so_far took at_end

pub talking-preserved : goal.talking-preserved
talking-preserved g c =
    let buffer = c.read.new.buf in
    let behind = drop (length c.read.new.buf) c.talking.buffer.items in
    let lent : length c.deref_mut.result.now ≡ 65536 = ap length c.deref_mut.ensures.value ∙ c.talking.invariant.room in
    let full : length c.read.new.buf ≡ 65536 = omega (arith, lent) in
    let size : length c.read.new.buf ≡ c.talking.buffer.len = omega (arith, lent, full) in
    let back = take_front c.talking.buffer.len buffer behind size in
    let same : c.deref.result.now ≡ buffer = c.deref.ensures.value ∙ back in
    let n = c.in-Ok-read.count in
    let asks = g.A.Ask.asks in
    let settings = c.args.front.now.settings in
    let first = attended_by c.args.front.now c.args.asker.now in
    let mid = attended_by c.talking.front c.talking.asker in
    let last = attended_by c.answer_piece-ended.new.front c.answer_piece-ended.new.asker in
    let ended = c.answer_piece-ended.result in
    let r0 = g.R.Read.remaining (source_of c.args.reader.now) in
    let r = g.R.Read.remaining (source_of c.talking.reader) in
    let r' = g.R.Read.remaining (source_of c.read.new.self) in
    let w0 = g.W.Write.contents (sink_of c.args.writer.now) in
    let w = g.W.Write.contents (sink_of c.talking.writer) in
    let w' = g.W.Write.contents (sink_of c.answer_piece-ended.new.writer) in
    let more_fault = c.stays_read.ensures.fault in
    let took : Consumes r r' (take n buffer) = c.in-Ok-read.ensures.bytes.0 in
    let here : AnswersPiece asks settings mid (take n buffer) w ended w' last =
    subst (λ (v : Settings). AnswersPiece asks v mid (take n buffer) w ended w' last) c.talking.invariant.settings
    (subst (λ (z : List ℕ). AnswersPiece asks c.talking.front.settings mid (take n z) w ended w' last) same c.answer_piece-ended.ensures.answers) in
    let still_on = subst (λ (s : Option Served). AnswersPiece asks settings mid (take n buffer) w s w' last) c.in-None.is here in
    let kept : length c.overwrite.new.bytes ≡ 65536 = omega (arith, lent, full, size) in
    let still = take_front c.talking.buffer.len c.overwrite.new.bytes (drop (length c.overwrite.new.bytes) (take c.talking.buffer.len (buffer ++ behind))) (omega (arith, kept, full, size)) in
    record {
      room = ap length still ∙ kept;
      empty = c.answer_piece-ended.ensures.empty c.in-None.is;
      settled = c.answer_piece-ended.ensures.settled;
      settings = c.answer_piece-ended.ensures.settings ∙ c.talking.invariant.settings;
      so_far = goes_on asks settings more_fault first mid last (take n buffer) r0 r r' w0 w w' c.talking.invariant.so_far took still_on;
      reads = search rules;
      read_faults = c.in-Ok-read.ensures.faults ∙ c.talking.invariant.read_faults;
      write_faults = search rules;
    }

pub returns-clause-converses : goal.returns-clause-converses
returns-clause-converses g c =
    read_fault g.A.Ask.asks c.args.front.now.settings (attended_by c.args.front.now c.args.asker.now) (attended_by c.talking.front c.talking.asker)
    (g.R.Read.remaining (source_of c.args.reader.now)) (g.R.Read.remaining (source_of c.talking.reader)) (g.W.Write.contents (sink_of c.args.writer.now)) (g.W.Write.contents (sink_of c.talking.writer)) c.talking.invariant.so_far
