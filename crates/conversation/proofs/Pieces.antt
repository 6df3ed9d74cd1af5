-- A piece that is handed on in parts, so far and one part further on.
use Rattle.std.proofs.Common.{◌≡◌, ◌⊎◌, ◌≤◌, ◌<◌, ◌+◌, ◌-◌, ℕ, true, false, List, [], ◌∷◌, ◌++◌, length, take, drop, refl, sym, ap, subst, ◌∙◌, append_assoc, inl, inr, arith}
use Rattle.dss_frames.specs.Dss.{Dss}
use Rattle.dss_frames.specs.declared.fault.FrameFault.{FrameFault}
use Rattle.dss_frames.specs.Fault.{FaultAt}
use Rattle.dss_frames.specs.Reading.{unfinished, ReadsAs}
use Rattle.core_calls.specs.Call.{Call}
use Rattle.core_calls.specs.Answer.{Answer}
use Rattle.session_commands.specs.Settings.{Settings}
use Rattle.conversation.specs.Held.{Held}
use Rattle.conversation.specs.Attended.{Attended, attended_by}
use Rattle.conversation.specs.Hearing.{Hears}
use Rattle.conversation.specs.declared.fed.Fed.{Fed}
use Rattle.conversation.specs.declared.fed.FedState.{FedState}
use Rattle.conversation.specs.declared.fed.FedState.TheVariants.{Open, Closed, Later}
use Rattle.conversation.specs.Feeding.{IsBetweenCommands, IsLeft, EndsAtFault, EndsWithCommand, Told, Takes, LeftAs, bytes_behind}
use Rattle.conversation.proofs.Conversing.{reads_then, reads_so_far}
use Rattle.conversation.proofs.Stepping.{told_start, told_more, within_piece, none_more, left_more, more_taken}

nothing_or_some : (piece : List ℕ) → IsLeft 0 piece
nothing_or_some [] = inr refl
nothing_or_some (b ∷ piece) = inl (omega arith)

module _ {A : Type 0} (asks : A → Call → Answer → A → Type 0) where
  -- so many bytes of the piece were taken, bytes are left, and the conversation is open
  pub record IsUnderWay (settings : Settings) (old : Attended A) (piece out : List ℕ) (taken : ℕ) (between : Attended A) (out' : List ℕ) : Type 0 where
    pub within : taken ≤ length piece
    pub told : Told asks settings old (take taken piece) out [] between out'
    pub none : old.standing.session.is_closed ≡ true → taken ≡ 0
    pub still_open : between.standing.session.is_closed ≡ false
    pub left : IsLeft taken piece

  pub starts : (held : Held) (asked : A) (piece out : List ℕ) → IsBetweenCommands held → held.session.is_closed ≡ false → IsUnderWay held.settings (attended_by held asked) piece out 0 (attended_by held asked) out
  starts held asked piece out settled is_open = record {
    within = omega arith;
    told = told_start asks held asked out settled;
    none = λ shut. refl;
    still_open = is_open;
    left = nothing_or_some piece;
  }

  -- it was closed before
  pub stays_closed : (held : Held) (asked : A) (piece out : List ℕ) → IsBetweenCommands held → held.session.is_closed ≡ true
      → Takes asks held.settings (attended_by held asked) piece out (record { taken = 0; state = Closed }) (attended_by held asked) out
  stays_closed held asked piece out settled shut = record {
    within = omega arith;
    told = told_start asks held asked out settled;
    state = shut;
    all = λ e. absurd (cc e);
    later = λ e. absurd (cc e);
    closed = λ e is_open. let both : true ≡ false = sym shut ∙ is_open in absurd (cc both);
    none = λ e. refl;
  }

  -- it found no memory
  pub stops : (settings : Settings) (old : Attended A) (piece out : List ℕ) (taken : ℕ) (between : Attended A) (out' : List ℕ) → IsUnderWay settings old piece out taken between out'
      → Takes asks settings old piece out (record { taken = taken; state = Later }) between out'
  stops settings old piece out taken between out' u = record {
    within = u.within;
    told = u.told;
    state = u.still_open;
    all = λ e. absurd (cc e);
    later = λ e. u.left;
    closed = λ e. absurd (cc e);
    none = u.none;
  }

  module _ (settings : Settings) (fault_more : (bytes more : List ℕ) (fault : FrameFault) → FaultAt bytes fault → FaultAt (bytes ++ more) fault) where
    -- the bytes of a piece are read on where those of its front ended
    read_on : (a b : Attended A) (piece : List ℕ) (taken size count : ℕ) (commands others : List (List Dss)) (rest : List ℕ) → count ≤ size → ReadsAs (a.rest ++ take taken piece) commands (unfinished b.rest)
        → ReadsAs (b.rest ++ take count (take size (drop taken piece))) others (unfinished rest) → ReadsAs (a.rest ++ take (taken + count) piece) (commands ++ others) (unfinished rest)
    read_on a b piece taken size count commands others rest few front behind =
        let text : (a.rest ++ take taken piece) ++ take count (take size (drop taken piece)) ≡ a.rest ++ take (taken + count) piece =
        append_assoc a.rest (take taken piece) (take count (take size (drop taken piece))) ∙ ap (λ (z : List ℕ). a.rest ++ z) (more_taken piece taken size count few) in
        subst (λ (z : List ℕ). ReadsAs z (commands ++ others) (unfinished rest)) text
        (reads_then commands others (a.rest ++ take taken piece) b.rest (take count (take size (drop taken piece))) (unfinished rest) front behind)

    ends_later : (a b : Attended A) (piece : List ℕ) (taken size count : ℕ) (commands : List (List Dss)) → ReadsAs (a.rest ++ take taken piece) commands (unfinished b.rest)
        → count ≤ size → EndsAtFault b (take size (drop taken piece)) count ⊎ EndsWithCommand b (take size (drop taken piece)) count → EndsAtFault a piece (taken + count) ⊎ EndsWithCommand a piece (taken + count)
    ends_later a b piece taken size count commands front few (inl f) =
        let some = f.some in
        let one_less : count - 1 ≤ size = omega (arith, few) in
        let count_is : taken + (count - 1) ≡ taken + count - 1 = omega (arith, some) in
        inl (record {
          some = omega (arith, some);
          commands = commands ++ f.commands;
          rest = f.rest;
          one_less = subst (λ (n : ℕ). ReadsAs (a.rest ++ take n piece) (commands ++ f.commands) (unfinished f.rest)) count_is
              (read_on a b piece taken size (count - 1) commands f.commands f.rest one_less front f.one_less);
        })
    ends_later a b piece taken size count commands front few (inr f) =
        let some = f.some in
        inr (record {
          some = omega (arith, some);
          commands = commands ++ f.commands;
          whole = read_on a b piece taken size count commands f.commands [] few front f.whole;
        })

    closed_later : (a b : Attended A) (piece replies : List ℕ) (taken size count : ℕ) → Hears asks settings a (take taken piece) replies b → b.standing.session.is_closed ≡ false
        → count ≤ size → EndsAtFault b (take size (drop taken piece)) count ⊎ EndsWithCommand b (take size (drop taken piece)) count → EndsAtFault a piece (taken + count) ⊎ EndsWithCommand a piece (taken + count)
    closed_later a b piece replies taken size count (inl h) still_open few f =
        let (commands, front) = reads_so_far asks settings a.standing b.standing (a.rest ++ take taken piece) replies b.rest h.converses still_open in
        ends_later a b piece taken size count commands front few f
    closed_later a b piece replies taken size count (inr h) still_open few f =
        let both : true ≡ false = sym h.closed ∙ sym (ap (λ (d : Attended A). d.standing.session.is_closed) h.same) ∙ still_open in
        absurd (cc both)

    -- one part further on, at the end
    pub ends_so : (old between new : Attended A) (piece out out1 out2 : List ℕ) (taken : ℕ) (fed : Fed) → IsUnderWay settings old piece out taken between out1
        → Takes asks settings between (take fed.taken (drop taken piece)) out1 fed new out2 → (fed.state ≡ Later → fed.taken ≡ 0) → (fed.state ≡ Open → taken + fed.taken ≡ length piece)
        → Takes asks settings old piece out (record { taken = taken + fed.taken; state = fed.state }) new out2
    ends_so old between new piece out out1 out2 taken fed u takes stuck all = record {
      within = within_piece piece taken fed.taken fed.taken u.within takes.within;
      told = told_more asks settings fault_more old between new piece out out1 out2 taken fed.taken fed u.told takes;
      state = left_more fed.state taken fed.taken new takes.state;
      all = all;
      later = λ e. let none = stuck e in let same : taken ≡ taken + fed.taken = omega (arith, none) in subst (λ (n : ℕ). IsLeft n piece) same u.left;
      closed = λ e is_open. closed_later old between piece (u.told.replies ++ []) taken fed.taken fed.taken u.told.hears u.still_open (omega arith) (takes.closed e u.still_open);
      none = none_more asks settings old between new piece out out1 out2 taken fed.taken fed u.told takes u.none;
    }

    -- one part further on, with bytes left
    pub goes_on : (old between new : Attended A) (piece out out1 out2 : List ℕ) (taken : ℕ) (fed : Fed) → IsUnderWay settings old piece out taken between out1
        → Takes asks settings between (take fed.taken (drop taken piece)) out1 fed new out2 → fed.state ≡ Open → taken + fed.taken < length piece
        → IsUnderWay settings old piece out (taken + fed.taken) new out2
    goes_on old between new piece out out1 out2 taken fed u takes is more = record {
      within = within_piece piece taken fed.taken fed.taken u.within takes.within;
      told = subst (λ (s : FedState). Told asks settings old (take (taken + fed.taken) piece) out (bytes_behind s) new out2) is (told_more asks settings fault_more old between new piece out out1 out2 taken fed.taken fed u.told takes);
      none = none_more asks settings old between new piece out out1 out2 taken fed.taken fed u.told takes u.none;
      still_open = subst (λ (s : FedState). LeftAs s fed.taken new) is takes.state;
      left = inl more;
    }
