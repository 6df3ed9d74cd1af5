use Rattle.std.proofs.Common.{◌≡◌, ◌+◌, ℕ, List, [], ◌++◌, length, take, drop, sym, ap, subst, ◌∙◌, refl, take-append-drop, arith}
use Rattle.std.proofs.lemmas.List.{drop-drop, length-drop, nil_from_length, take_rest}
use Rattle.std.specs.Io.KnownBytes.{Appends}
use Rattle.counted_streams.specs.Counts.{sink_of}
use Rattle.core_calls.specs.Answer.{Answer}
use Rattle.core_calls.specs.Call.{Call}
use Rattle.session_commands.specs.Settings.{Settings}
use Rattle.conversation.specs.declared.fed.Heard.{Heard}
use Rattle.conversation.specs.Attended.{Attended, attended_by}
use Rattle.conversation.specs.Pieces.{HearsPiece}
use Rattle.conversation.proofs.Stepping.{within_piece}
use Rattle.stream_service.proofs.Streams.{begins, front_more, in_part, last_more, said_all, said_front, said_last, said_short, short_more, talked_all, talked_more}
use Rattle.stream_service.proofs.serving.answer_piece.Goals as goal

cut : (taken count : ℕ) (piece : List ℕ) → drop taken piece ≡ take count (drop taken piece) ++ drop (taken + count) piece
cut taken count piece = sym (take-append-drop count (drop taken piece)) ∙ ap (λ (z : List ℕ). take count (drop taken piece) ++ z) (drop-drop count taken piece)

-- with the settings that it began with, and nothing gathered before
heard_from : {A : Type 0} (asks : A → Call → Answer → A → Type 0) (settings' settings : Settings) (mid last : Attended A) (here out out' : List ℕ) (state : Heard) → settings' ≡ settings → out ≡ []
    → HearsPiece asks settings' mid here out state last out' → HearsPiece asks settings mid here [] state last out'
heard_from asks settings' settings mid last here out out' state same empty h =
    subst (λ (v : Settings). HearsPiece asks v mid here [] state last out') same (subst (λ (z : List ℕ). HearsPiece asks settings' mid here z state last out') empty h)

none_left : (count : ℕ) (piece : List ℕ) → count ≡ length piece → drop count piece ≡ []
none_left count piece all = let left = length-drop count piece in nil_from_length (drop count piece) (omega (arith, left, all))

pub hearing-init : goal.hearing-init
hearing-init g c = record {
  within = omega arith;
  empty = c.requires.empty;
  settled = c.requires.settled;
  settings = refl;
  talked = begins g.A.Ask.asks c.args.front.now c.args.asker.now c.args.piece.now (g.W.Write.contents (sink_of c.args.writer.now)) c.requires.settled;
  faults = refl;
}

pub returns-in_default-clause-answers : goal.returns-in_default-clause-answers
returns-in_default-clause-answers g c =
    let asks = g.A.Ask.asks in
    let settings = c.args.front.now.settings in
    let first = attended_by c.args.front.now c.args.asker.now in
    let mid = attended_by c.hearing.front c.hearing.asker in
    let last = attended_by c.feed_some-part.new.front c.feed_some-part.new.asker in
    let piece = c.args.piece.now in
    let taken = c.hearing.taken in
    let part = c.feed_some-part.result in
    let here = take part.taken (drop taken piece) in
    let left = drop taken piece in
    let left' = drop (taken + part.taken) piece in
    let out' = c.feed_some-part.new.out.items in
    let w0 = g.W.Write.contents (sink_of c.args.writer.now) in
    let w = g.W.Write.contents (sink_of c.hearing.writer) in
    let w' = g.W.Write.contents (sink_of c.write_whole.new.self) in
    let more_fault = c.stays_read.ensures.fault in
    let split : left ≡ here ++ left' = cut taken part.taken piece in
    let hears : HearsPiece asks settings mid here [] part.heard last out' =
    heard_from asks c.hearing.front.settings settings mid last here c.hearing.replies.items out' part.heard c.hearing.invariant.settings c.hearing.invariant.empty (rw take_rest at c.feed_some-part.ensures.hears) in
    let wrote = subst (λ (z : List ℕ). (count : ℕ) × Appends w w' (take count z)) c.deref.ensures.value c.in_default.ensures.err in
    front_more asks settings more_fault first mid last piece left here left' w0 w w' c.hearing.invariant.talked split
    (said_front asks settings mid last here out' w w' (in_part asks part.heard settings mid last here [] out' hears) wrote)

pub returns-then-taken-piece-clause-answers : goal.returns-then-taken-piece-clause-answers
returns-then-taken-piece-clause-answers g c =
    let asks = g.A.Ask.asks in
    let settings = c.args.front.now.settings in
    let first = attended_by c.args.front.now c.args.asker.now in
    let mid = attended_by c.hearing.front c.hearing.asker in
    let last = attended_by c.feed_some-part.new.front c.feed_some-part.new.asker in
    let piece = c.args.piece.now in
    let taken = c.hearing.taken in
    let part = c.feed_some-part.result in
    let here = take part.taken (drop taken piece) in
    let left = drop taken piece in
    let left' = drop (taken + part.taken) piece in
    let out' = c.feed_some-part.new.out.items in
    let w0 = g.W.Write.contents (sink_of c.args.writer.now) in
    let w = g.W.Write.contents (sink_of c.hearing.writer) in
    let w' = g.W.Write.contents (sink_of c.write_whole.new.self) in
    let more_fault = c.stays_read.ensures.fault in
    let split : left ≡ here ++ left' = cut taken part.taken piece in
    let hears : HearsPiece asks settings mid here [] part.heard last out' =
    heard_from asks c.hearing.front.settings settings mid last here c.hearing.replies.items out' part.heard c.hearing.invariant.settings c.hearing.invariant.empty (rw take_rest at c.feed_some-part.ensures.hears) in
    let wrote : Appends w w' out' = subst (λ (z : List ℕ). Appends w w' z) c.deref.ensures.value c.in-Ok.ensures.ok in
    let opened = subst (λ (s : Heard). HearsPiece asks settings mid here [] s last out') c.in-Open.is hears in
    talked_all asks settings first last piece left' w0 w'
    (talked_more asks settings more_fault first mid last piece left here left' w0 w w' c.hearing.invariant.talked split (said_all asks settings mid last here out' w w' opened wrote))
    (none_left (taken + part.taken) piece c.if-taken-piece.true)

pub hearing-preserved : goal.hearing-preserved
hearing-preserved g c =
    let asks = g.A.Ask.asks in
    let settings = c.args.front.now.settings in
    let first = attended_by c.args.front.now c.args.asker.now in
    let mid = attended_by c.hearing.front c.hearing.asker in
    let last = attended_by c.feed_some-part.new.front c.feed_some-part.new.asker in
    let piece = c.args.piece.now in
    let taken = c.hearing.taken in
    let part = c.feed_some-part.result in
    let here = take part.taken (drop taken piece) in
    let left = drop taken piece in
    let left' = drop (taken + part.taken) piece in
    let out' = c.feed_some-part.new.out.items in
    let w0 = g.W.Write.contents (sink_of c.args.writer.now) in
    let w = g.W.Write.contents (sink_of c.hearing.writer) in
    let w' = g.W.Write.contents (sink_of c.write_whole.new.self) in
    let more_fault = c.stays_read.ensures.fault in
    let split : left ≡ here ++ left' = cut taken part.taken piece in
    let hears : HearsPiece asks settings mid here [] part.heard last out' =
    heard_from asks c.hearing.front.settings settings mid last here c.hearing.replies.items out' part.heard c.hearing.invariant.settings c.hearing.invariant.empty (rw take_rest at c.feed_some-part.ensures.hears) in
    let wrote : Appends w w' out' = subst (λ (z : List ℕ). Appends w w' z) c.deref.ensures.value c.in-Ok.ensures.ok in
    let opened = subst (λ (s : Heard). HearsPiece asks settings mid here [] s last out') c.in-Open.is hears in
    record {
      within = within_piece piece taken _ part.taken c.hearing.invariant.within c.feed_some-part.ensures.within;
      empty = c.empty.ensures;
      settled = c.feed_some-part.ensures.settled;
      settings = c.feed_some-part.ensures.settings ∙ c.hearing.invariant.settings;
      talked = talked_more asks settings more_fault first mid last piece left here left' w0 w w' c.hearing.invariant.talked split (said_all asks settings mid last here out' w w' opened wrote);
      faults = c.in-Ok.ensures.faults ∙ c.hearing.invariant.faults;
    }

pub returns-in-Closed-clause-answers : goal.returns-in-Closed-clause-answers
returns-in-Closed-clause-answers g c =
    let asks = g.A.Ask.asks in
    let settings = c.args.front.now.settings in
    let first = attended_by c.args.front.now c.args.asker.now in
    let mid = attended_by c.hearing.front c.hearing.asker in
    let last = attended_by c.feed_some-part.new.front c.feed_some-part.new.asker in
    let piece = c.args.piece.now in
    let taken = c.hearing.taken in
    let part = c.feed_some-part.result in
    let here = take part.taken (drop taken piece) in
    let left = drop taken piece in
    let left' = drop (taken + part.taken) piece in
    let out' = c.feed_some-part.new.out.items in
    let w0 = g.W.Write.contents (sink_of c.args.writer.now) in
    let w = g.W.Write.contents (sink_of c.hearing.writer) in
    let w' = g.W.Write.contents (sink_of c.write_whole.new.self) in
    let more_fault = c.stays_read.ensures.fault in
    let split : left ≡ here ++ left' = cut taken part.taken piece in
    let hears : HearsPiece asks settings mid here [] part.heard last out' =
    heard_from asks c.hearing.front.settings settings mid last here c.hearing.replies.items out' part.heard c.hearing.invariant.settings c.hearing.invariant.empty (rw take_rest at c.feed_some-part.ensures.hears) in
    let wrote : Appends w w' out' = subst (λ (z : List ℕ). Appends w w' z) c.deref.ensures.value c.in-Ok.ensures.ok in
    let closed = subst (λ (s : Heard). HearsPiece asks settings mid here [] s last out') c.in-Closed.is hears in
    last_more asks settings more_fault first mid last piece left here left' w0 w w' c.hearing.invariant.talked split (said_last asks settings mid last here out' w w' closed wrote)

pub returns-in-NoMemory-clause-answers : goal.returns-in-NoMemory-clause-answers
returns-in-NoMemory-clause-answers g c =
    let asks = g.A.Ask.asks in
    let settings = c.args.front.now.settings in
    let first = attended_by c.args.front.now c.args.asker.now in
    let mid = attended_by c.hearing.front c.hearing.asker in
    let last = attended_by c.feed_some-part.new.front c.feed_some-part.new.asker in
    let piece = c.args.piece.now in
    let taken = c.hearing.taken in
    let part = c.feed_some-part.result in
    let here = take part.taken (drop taken piece) in
    let left = drop taken piece in
    let left' = drop (taken + part.taken) piece in
    let out' = c.feed_some-part.new.out.items in
    let w0 = g.W.Write.contents (sink_of c.args.writer.now) in
    let w = g.W.Write.contents (sink_of c.hearing.writer) in
    let w' = g.W.Write.contents (sink_of c.write_whole.new.self) in
    let more_fault = c.stays_read.ensures.fault in
    let split : left ≡ here ++ left' = cut taken part.taken piece in
    let hears : HearsPiece asks settings mid here [] part.heard last out' =
    heard_from asks c.hearing.front.settings settings mid last here c.hearing.replies.items out' part.heard c.hearing.invariant.settings c.hearing.invariant.empty (rw take_rest at c.feed_some-part.ensures.hears) in
    let wrote : Appends w w' out' = subst (λ (z : List ℕ). Appends w w' z) c.deref.ensures.value c.in-Ok.ensures.ok in
    let short = subst (λ (s : Heard). HearsPiece asks settings mid here [] s last out') c.in-NoMemory.is hears in
    short_more asks settings more_fault first mid last piece left here left' w0 w w' c.hearing.invariant.talked split (said_short asks settings mid last here out' w w' short wrote)
