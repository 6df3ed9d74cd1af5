-- Two stretches of bytes, one after the other: their readings, what is done, and what is heard.
use Rattle.std.proofs.Common.{◌≡◌, ℕ, true, false, List, [], ◌∷◌, ◌++◌, sym, ap, subst, ◌∙◌, append_assoc, append-nil, inl, inr}
use Rattle.dss_frames.specs.Dss.{Dss}
use Rattle.dss_frames.specs.declared.fault.FrameFault.{FrameFault}
use Rattle.dss_frames.specs.Fault.{BeginsWith, FaultAt}
use Rattle.dss_frames.specs.Reading.{End, unfinished, faulty, ReadsAs}
use Rattle.core_calls.specs.Call.{Call}
use Rattle.core_calls.specs.Answer.{Answer}
use Rattle.session_commands.specs.Settings.{Settings}
use Rattle.conversation.specs.Standing.{Standing}
use Rattle.conversation.specs.Done.{DoesAll}
use Rattle.conversation.specs.Steps.{Converses, Ends, ReadsAll}
use Rattle.conversation.specs.Attended.{Attended}
use Rattle.conversation.specs.Hearing.{Hears}

-- ---- readings

command_more : (bytes more rest : List ℕ) (command : List Dss) → BeginsWith bytes command rest → BeginsWith (bytes ++ more) command (rest ++ more)
command_more bytes more rest command h = (h.0, ap (λ (z : List ℕ). z ++ more) h.1 ∙ append_assoc h.0 rest more, h.2)

pub reads_then : (before after : List (List Dss)) (text left more : List ℕ) (end : End) → ReadsAs text before (unfinished left) → ReadsAs (left ++ more) after end → ReadsAs (text ++ more) (before ++ after) end
reads_then [] after text left more end p q = subst (λ (z : List ℕ). ReadsAs (z ++ more) after end) (sym p.0) q
reads_then (command ∷ before) after text left more end p q = (p.0 ++ more, command_more text more p.0 command p.1, reads_then before after p.0 left more end p.2 q)

-- the bytes of commands stand in front of what is left, and they are read so whatever comes behind them
record StandInFront (text : List ℕ) (commands : List (List Dss)) (left : List ℕ) : Type 0 where
  front : List ℕ
  text_is : text ≡ front ++ left
  reads : (more : List ℕ) (after : List (List Dss)) (end : End) → ReadsAs more after end → ReadsAs (front ++ more) (commands ++ after) end

stand_in_front : (commands : List (List Dss)) (text left : List ℕ) → ReadsAs text commands (unfinished left) → StandInFront text commands left
stand_in_front [] text left p = record { front = []; text_is = p.0; reads = λ more after end q. q }
stand_in_front (command ∷ commands) text left p =
    let others = stand_in_front commands p.0 left p.2 in
    record {
      front = p.1.0 ++ others.front;
      text_is = p.1.1 ∙ ap (λ (z : List ℕ). p.1.0 ++ z) others.text_is ∙ sym (append_assoc p.1.0 others.front left);
      reads = λ more after end q. (others.front ++ more, (p.1.0, append_assoc p.1.0 others.front more, p.1.2), others.reads more after end q);
    }

module _ {A : Type 0} (asks : A → Call → Answer → A → Type 0) (settings : Settings) where
  does_then : (before after : List (List Dss)) (s between last : Standing A) (x y : List ℕ) → DoesAll asks settings s before x between → DoesAll asks settings between after y last
      → DoesAll asks settings s (before ++ after) (x ++ y) last
  does_then [] after s between last x y p q =
      subst (λ (z : List ℕ). DoesAll asks settings s after (z ++ y) last) (sym p.0) (subst (λ (t : Standing A). DoesAll asks settings t after y last) p.1 q)
  does_then (command ∷ before) after s between last x y p q =
      (p.0, p.1 ++ y, p.2, p.3, ap (λ (z : List ℕ). z ++ y) p.4 ∙ append_assoc p.0 p.1 y, does_then before after p.2 between last p.1 y p.5 q)

  -- what an open conversation has read ends in the middle of a command
  reads_so_far_at : (end : End) (s between : Standing A) (text x left : List ℕ) → (p : ReadsAll asks settings s text x left between) → between.session.is_closed ≡ false
      → ReadsAs text p.commands end → Ends asks p.between end p.closing left between → ReadsAs text p.commands (unfinished left)
  reads_so_far_at (unfinished rest) s between text x left p still_open reads ends = subst (λ (z : List ℕ). ReadsAs text p.commands (unfinished z)) (sym ends.1) reads
  reads_so_far_at (faulty fault) s between text x left p still_open reads ends =
      let shut : true ≡ false = sym (ap (λ (t : Standing A). t.session.is_closed) ends.1) ∙ still_open in
      absurd (cc shut)

  pub reads_so_far : (s between : Standing A) (text x left : List ℕ) → Converses asks settings s text x left between → between.session.is_closed ≡ false
      → (commands : List (List Dss)) × ReadsAs text commands (unfinished left)
  reads_so_far s between text x left (inl p) still_open = (p.commands, reads_so_far_at p.end s between text x left p still_open p.reads p.ends)
  reads_so_far s between text x left (inr p) still_open = let both : true ≡ false = sym p.closed_there ∙ still_open in absurd (cc both)

  -- a text that ends in the middle of a command, and bytes behind it
  reads_all_then : (end : End) (s between last : Standing A) (text more x y left remains : List ℕ) → (p : ReadsAll asks settings s text x left between) → between.session.is_closed ≡ false
      → Converses asks settings between (left ++ more) y remains last → ReadsAs text p.commands end → Ends asks p.between end p.closing left between
      → Converses asks settings s (text ++ more) (x ++ y) remains last
  reads_all_then (unfinished rest) s between last text more x y left remains p still_open (inl q) reads ends =
      let silent : x ≡ p.replies = p.written ∙ ap (λ (z : List ℕ). p.replies ++ z) ends.0 ∙ append-nil p.replies in
      inl (record {
        commands = p.commands ++ q.commands;
        end = q.end;
        reads = reads_then p.commands q.commands text left more q.end (subst (λ (z : List ℕ). ReadsAs text p.commands (unfinished z)) (sym ends.1) reads) q.reads;
        replies = p.replies ++ q.replies;
        closing = q.closing;
        between = q.between;
        does = does_then p.commands q.commands s p.between q.between p.replies q.replies p.does (subst (λ (t : Standing A). DoesAll asks settings t q.commands q.replies q.between) ends.2 q.does);
        still_open = q.still_open;
        ends = q.ends;
        written = ap (λ (z : List ℕ). z ++ y) silent ∙ ap (λ (z : List ℕ). p.replies ++ z) q.written ∙ sym (append_assoc p.replies q.replies q.closing);
      })
  reads_all_then (unfinished rest) s between last text more x y left remains p still_open (inr q) reads ends =
      let silent : x ≡ p.replies = p.written ∙ ap (λ (z : List ℕ). p.replies ++ z) ends.0 ∙ append-nil p.replies in
      let stands = stand_in_front p.commands text left (subst (λ (z : List ℕ). ReadsAs text p.commands (unfinished z)) (sym ends.1) reads) in
      inr (record {
        front = stands.front ++ q.front;
        beyond = q.beyond;
        text_is = ap (λ (z : List ℕ). z ++ more) stands.text_is ∙ append_assoc stands.front left more ∙ ap (λ (z : List ℕ). stands.front ++ z) q.text_is
            ∙ sym (append_assoc stands.front q.front q.beyond);
        commands = p.commands ++ q.commands;
        reads = stands.reads q.front q.commands (unfinished []) q.reads;
        does = subst (λ (z : List ℕ). DoesAll asks settings s (p.commands ++ q.commands) (z ++ y) last) (sym silent)
            (does_then p.commands q.commands s p.between last p.replies y p.does (subst (λ (t : Standing A). DoesAll asks settings t q.commands y last) ends.2 q.does));
        closed_there = q.closed_there;
      })
  reads_all_then (faulty fault) s between last text more x y left remains p still_open q reads ends =
      let shut : true ≡ false = sym (ap (λ (t : Standing A). t.session.is_closed) ends.1) ∙ still_open in
      absurd (cc shut)

  converses_then : (s between last : Standing A) (text more x y left remains : List ℕ) → Converses asks settings s text x left between → between.session.is_closed ≡ false
      → Converses asks settings between (left ++ more) y remains last → Converses asks settings s (text ++ more) (x ++ y) remains last
  converses_then s between last text more x y left remains (inl p) still_open q = reads_all_then p.end s between last text more x y left remains p still_open q p.reads p.ends
  converses_then s between last text more x y left remains (inr p) still_open q = let both : true ≡ false = sym p.closed_there ∙ still_open in absurd (cc both)

  -- what is closed stays closed
  pub hears_closed : (a b : Attended A) (p x : List ℕ) → Hears asks settings a p x b → a.standing.session.is_closed ≡ true → b.standing.session.is_closed ≡ true
  hears_closed a b p x (inl f) shut = let both : true ≡ false = sym shut ∙ f.still_open in absurd (cc both)
  hears_closed a b p x (inr f) shut = ap (λ (d : Attended A). d.standing.session.is_closed) f.same ∙ shut

module _ {A : Type 0} (asks : A → Call → Answer → A → Type 0) (settings : Settings) (fault_more : (bytes more : List ℕ) (fault : FrameFault) → FaultAt bytes fault → FaultAt (bytes ++ more) fault) where
  faulty_more : (commands : List (List Dss)) (text more : List ℕ) (fault : FrameFault) → ReadsAs text commands (faulty fault) → ReadsAs (text ++ more) commands (faulty fault)
  faulty_more [] text more fault p = fault_more text more fault p
  faulty_more (command ∷ commands) text more fault p = (p.0 ++ more, command_more text more p.0 command p.1, faulty_more commands p.0 more fault p.2)

  -- behind a fault anything may stand
  reads_all_closed : (end : End) (s last : Standing A) (text more x left : List ℕ) → last.session.is_closed ≡ true → (p : ReadsAll asks settings s text x left last)
      → ReadsAs text p.commands end → Ends asks p.between end p.closing left last → Converses asks settings s (text ++ more) x left last
  reads_all_closed (unfinished rest) s last text more x left shut p reads ends =
      let still : true ≡ false = sym shut ∙ ap (λ (t : Standing A). t.session.is_closed) ends.2 ∙ p.still_open in
      absurd (cc still)
  reads_all_closed (faulty fault) s last text more x left shut p reads ends = inl (record {
    commands = p.commands;
    end = faulty fault;
    reads = faulty_more p.commands text more fault reads;
    replies = p.replies;
    closing = p.closing;
    between = p.between;
    does = p.does;
    still_open = p.still_open;
    ends = ends;
    written = p.written;
  })

  -- and so it may behind a command that closes the conversation
  converses_closed : (s last : Standing A) (text more x left : List ℕ) → last.session.is_closed ≡ true → Converses asks settings s text x left last
      → Converses asks settings s (text ++ more) x left last
  converses_closed s last text more x left shut (inl p) = reads_all_closed p.end s last text more x left shut p p.reads p.ends
  converses_closed s last text more x left shut (inr p) = inr (record {
    front = p.front;
    beyond = p.beyond ++ more;
    text_is = ap (λ (z : List ℕ). z ++ more) p.text_is ∙ append_assoc p.front p.beyond more;
    commands = p.commands;
    reads = p.reads;
    does = p.does;
    closed_there = p.closed_there;
  })

  pub hears_then : (a b c : Attended A) (p q x y : List ℕ) → Hears asks settings a p x b → Hears asks settings b q y c → Hears asks settings a (p ++ q) (x ++ y) c
  hears_then a b c p q x y (inl f) (inl g) = inl (record {
    still_open = f.still_open;
    converses = subst (λ (z : List ℕ). Converses asks settings a.standing z (x ++ y) c.rest c.standing) (append_assoc a.rest p q)
        (converses_then asks settings a.standing b.standing c.standing (a.rest ++ p) q x y b.rest c.rest f.converses g.still_open g.converses);
  })
  hears_then a b c p q x y (inl f) (inr g) =
      let longer : Converses asks settings a.standing (a.rest ++ (p ++ q)) x b.rest b.standing = subst (λ (z : List ℕ). Converses asks settings a.standing z x b.rest b.standing) (append_assoc a.rest p q)
      (converses_closed a.standing b.standing (a.rest ++ p) q x b.rest g.closed f.converses) in
      let silent : x ≡ x ++ y = sym (append-nil x) ∙ ap (λ (z : List ℕ). x ++ z) (sym g.silent) in
      inl (record {
        still_open = f.still_open;
        converses = subst (λ (d : Attended A). Converses asks settings a.standing (a.rest ++ (p ++ q)) (x ++ y) d.rest d.standing) (sym g.same)
            (subst (λ (z : List ℕ). Converses asks settings a.standing (a.rest ++ (p ++ q)) z b.rest b.standing) silent longer);
      })
  hears_then a b c p q x y (inr f) (inl g) =
      let shut : true ≡ false = sym f.closed ∙ sym (ap (λ (d : Attended A). d.standing.session.is_closed) f.same) ∙ g.still_open in
      absurd (cc shut)
  hears_then a b c p q x y (inr f) (inr g) = inr (record {
    closed = f.closed;
    silent = ap (λ (z : List ℕ). z ++ y) f.silent ∙ g.silent;
    same = g.same ∙ f.same;
  })
