-- How far a stream was served, one piece further on, and at its end.
use Rattle.std.proofs.Common.{◌≡◌, ℕ, ◌+◌, List, [], ◌++◌, length, take, drop, take-append-drop, Option, Some, None, refl, sym, ap, subst, ◌∙◌, append_assoc, append-nil, inl}
use Rattle.std.specs.Prelude.{IfSome, MatchOption}
use Rattle.std.specs.Io.KnownBytes.{Appends, Consumes, IsAtEnd}
use Rattle.std.proofs.KnownBytes.{Appends-nil, Appends-trans}
use Rattle.std.proofs.Math.Seq.{take-append-add, take-append_seam}
use Rattle.dss_frames.specs.declared.fault.FrameFault.{FrameFault}
use Rattle.dss_frames.specs.Fault.{FaultAt}
use Rattle.core_calls.specs.Answer.{Answer}
use Rattle.core_calls.specs.Call.{Call}
use Rattle.session_commands.specs.Settings.{Settings}
use Rattle.conversation.specs.Held.{Held}
use Rattle.conversation.specs.Attended.{Attended, attended_by}
use Rattle.conversation.specs.Feeding.{IsBetweenCommands}
use Rattle.conversation.specs.Hearing.{Hears}
use Rattle.conversation.specs.Pieces.{HearsAll, HearsLast, HearsPart, HearsPiece}
use Rattle.conversation.proofs.Conversing.{hears_then}
use Rattle.conversation.proofs.Stepping.{told_start}
use Rattle.conversation.specs.declared.fed.Heard.{Heard}
use Rattle.conversation.specs.declared.fed.Heard.TheVariants as piece_is
use Rattle.stream_service.specs.Serving.{AnswersAll, AnswersButShort, AnswersLast, AnswersPiece, BreaksOff, Converses, Loses, Serves}
use Rattle.stream_service.specs.declared.serving.Served.{Served}
use Rattle.stream_service.specs.declared.serving.Served.TheVariants.{Done, ReadFault, WriteFault, NoMemory}

cut_in_front : (count : ℕ) (xs ys : List ℕ) → take (length (take count xs)) (xs ++ ys) ≡ take count xs
cut_in_front count xs ys =
    let split : xs ++ ys ≡ take count xs ++ (drop count xs ++ ys) = ap (λ (z : List ℕ). z ++ ys) (sym (take-append-drop count xs)) ∙ append_assoc (take count xs) (drop count xs) ys in
    ap (λ (z : List ℕ). take (length (take count xs)) z) split ∙ take-append_seam (take count xs) (drop count xs ++ ys)

module _ {A : Type 0} (asks : A → Call → Answer → A → Type 0) where
  -- ---- before anything has come

  nothing_yet : (held : Held) (asked : A) → IsBetweenCommands held → Hears asks held.settings (attended_by held asked) [] [] (attended_by held asked)
  nothing_yet held asked settled =
      let t = told_start asks held asked [] settled in
      subst (λ (z : List ℕ). Hears asks held.settings (attended_by held asked) [] z (attended_by held asked)) (append-nil t.replies ∙ sym t.appended) t.hears

  -- ---- a piece in any state

  pub in_part : (state : Heard) (settings : Settings) (before after : Attended A) (piece out out' : List ℕ) → HearsPiece asks settings before piece out state after out' → HearsPart asks settings before piece out after out'
  in_part piece_is.Open settings before after piece out out' h = record {
    heard = piece;
    rest = [];
    replies = h.replies;
    unsaid = [];
    parts = sym (append-nil piece);
    hears = subst (λ (z : List ℕ). Hears asks settings before piece z after) (sym (append-nil h.replies)) h.hears;
    short = inl refl;
    appended = h.appended;
  }
  in_part piece_is.Closed settings before after piece out out' h = record {
    heard = piece;
    rest = [];
    replies = h.replies;
    unsaid = [];
    parts = sym (append-nil piece);
    hears = subst (λ (z : List ℕ). Hears asks settings before piece z after) (sym (append-nil h.replies)) (subst (λ (z : List ℕ). Hears asks settings before z h.replies after) (append-nil piece) (h.hears []));
    short = inl refl;
    appended = h.appended;
  }
  in_part piece_is.NoMemory settings before after piece out out' h = h

  -- ---- so far

  -- a front of the input was heard, its answers are written, and the rest is still to be read
  pub record Talked (settings : Settings) (first : Attended A) (input : List ℕ) (before : Option (List ℕ)) (left : List ℕ) (now : Option (List ℕ)) (last : Attended A) : Type 0 where
    pub front : List ℕ
    pub replies : List ℕ
    pub input_is : input ≡ front ++ left
    pub hears : Hears asks settings first front replies last
    pub written : Appends before now replies

  abbrev pub SoFar : Settings → Attended A → Option (List ℕ) → Option (List ℕ) → Option (List ℕ) → Option (List ℕ) → Attended A → Type 0
  SoFar settings first r0 r w0 w last = IfSome r0 (λ input. MatchOption r ⊥ (λ left. Talked settings first input w0 left w last))

  pub starts : (held : Held) (asked : A) (r w : Option (List ℕ)) → IsBetweenCommands held → SoFar held.settings (attended_by held asked) r r w w (attended_by held asked)
  starts held asked None w settled = tt
  starts held asked (Some input) w settled = record { front = []; replies = []; input_is = refl; hears = nothing_yet held asked settled; written = Appends-nil w }

  -- nothing of a piece yet
  pub begins : (held : Held) (asked : A) (piece : List ℕ) (w : Option (List ℕ)) → IsBetweenCommands held → Talked held.settings (attended_by held asked) piece w piece w (attended_by held asked)
  begins held asked piece w settled = record { front = []; replies = []; input_is = refl; hears = nothing_yet held asked settled; written = Appends-nil w }

  pub none_done : (held : Held) (asked : A) (r0 w0 : Option (List ℕ)) → IsBetweenCommands held
      → IfSome r0 (λ input. Converses asks held.settings (attended_by held asked) input w0 NoMemory w0 (attended_by held asked))
  none_done held asked None w0 settled = tt
  none_done held asked (Some input) w0 settled = record { front = []; rest = input; replies = []; unsaid = []; input_is = refl; hears = nothing_yet held asked settled; short = inl refl; appended = Appends-nil w0 }

module _ {A : Type 0} (asks : A → Call → Answer → A → Type 0) (settings : Settings) where
  -- nothing of it is left
  pub talked_all : (first last : Attended A) (input left : List ℕ) (w0 w : Option (List ℕ)) → Talked asks settings first input w0 left w last → left ≡ [] → AnswersAll asks settings first input w0 w last
  talked_all first last input left w0 w t none = record {
    replies = t.replies;
    hears = subst (λ (z : List ℕ). Hears asks settings first z t.replies last) (sym (t.input_is ∙ ap (λ (z : List ℕ). t.front ++ z) none ∙ append-nil t.front)) t.hears;
    appended = t.written;
  }

  -- ---- at the end of the input, or at a fault

  pub ends : (first last : Attended A) (r0 r r' w0 w : Option (List ℕ)) → SoFar asks settings first r0 r w0 w last → Consumes r r' [] → IsAtEnd r' → IfSome r0 (λ input. Converses asks settings first input w0 Done w last)
  ends first last None r r' w0 w s took nothing = tt
  ends first last (Some input) None r' w0 w s took nothing = absurd s
  ends first last (Some input) (Some left) None w0 w s took nothing = absurd took
  ends first last (Some input) (Some left) (Some left') w0 w s took nothing = record {
    replies = s.replies;
    hears = subst (λ (z : List ℕ). Hears asks settings first z s.replies last) (sym (s.input_is ∙ ap (λ (z : List ℕ). s.front ++ z) (took ∙ nothing) ∙ append-nil s.front)) s.hears;
    appended = s.written;
  }

  pub read_fault : (first last : Attended A) (r0 r w0 w : Option (List ℕ)) → SoFar asks settings first r0 r w0 w last → IfSome r0 (λ input. Converses asks settings first input w0 ReadFault w last)
  read_fault first last None r w0 w s = tt
  read_fault first last (Some input) None w0 w s = absurd s
  read_fault first last (Some input) (Some left) w0 w s = record { front = s.front; rest = left; replies = s.replies; input_is = s.input_is; hears = s.hears; appended = s.written }

  -- ---- the conversation is lost

  pub serves : (first last : Attended A) (asked : A) (served : Served) (r0 w0 w : Option (List ℕ)) → IfSome r0 (λ input. Converses asks settings first input w0 served w last) → Loses asks last.standing.asked asked
      → IfSome r0 (λ input. Serves asks settings first input w0 served w asked)
  serves first last asked served None w0 w c l = tt
  serves first last asked served (Some input) w0 w c l = record { last = last; converses = c; loses = l }

  -- ---- what was heard of a piece, with its answers written

  pub said_all : (mid last : Attended A) (piece out' : List ℕ) (w w' : Option (List ℕ)) → HearsAll asks settings mid piece [] last out' → Appends w w' out' → AnswersAll asks settings mid piece w w' last
  said_all mid last piece out' w w' h wrote = record { replies = h.replies; hears = h.hears; appended = subst (λ (z : List ℕ). Appends w w' z) h.appended wrote }

  pub said_last : (mid last : Attended A) (piece out' : List ℕ) (w w' : Option (List ℕ)) → HearsLast asks settings mid piece [] last out' → Appends w w' out' → AnswersLast asks settings mid piece w w' last
  said_last mid last piece out' w w' h wrote = record { replies = h.replies; hears = h.hears; appended = subst (λ (z : List ℕ). Appends w w' z) h.appended wrote }

  pub said_short : (mid last : Attended A) (piece out' : List ℕ) (w w' : Option (List ℕ)) → HearsPart asks settings mid piece [] last out' → Appends w w' out' → AnswersButShort asks settings mid piece w w' last
  said_short mid last piece out' w w' h wrote = record {
    front = h.heard;
    rest = h.rest;
    replies = h.replies;
    unsaid = h.unsaid;
    input_is = h.parts;
    hears = h.hears;
    short = h.short;
    appended = subst (λ (z : List ℕ). Appends w w' z) h.appended wrote;
  }

  pub said_front : (mid last : Attended A) (piece out' : List ℕ) (w w' : Option (List ℕ)) → HearsPart asks settings mid piece [] last out' → (count : ℕ) × Appends w w' (take count out') → BreaksOff asks settings mid piece w w' last
  said_front mid last piece out' w w' h (count, wrote) =
      let wrote_replies : Appends w w' (take count h.replies) = subst (λ (z : List ℕ). Appends w w' (take count z)) h.appended wrote in
      let cut : take count h.replies ≡ take (length (take count h.replies)) (h.replies ++ h.unsaid) = sym (cut_in_front count h.replies h.unsaid) in
      record {
        front = h.heard;
        rest = h.rest;
        replies = h.replies ++ h.unsaid;
        count = length (take count h.replies);
        input_is = h.parts;
        hears = h.hears;
        appended = subst (λ (z : List ℕ). Appends w w' z) cut wrote_replies;
      }

  -- ---- a piece more

  module _ (fault_more : (bytes more : List ℕ) (fault : FrameFault) → FaultAt bytes fault → FaultAt (bytes ++ more) fault) where
    -- it was heard whole, and its answers written
    pub talked_more : (first mid last : Attended A) (input left piece left' : List ℕ) (w0 w w' : Option (List ℕ)) → Talked asks settings first input w0 left w mid → left ≡ piece ++ left' → AnswersAll asks settings mid piece w w' last
        → Talked asks settings first input w0 left' w' last
    talked_more first mid last input left piece left' w0 w w' t took h = record {
      front = t.front ++ piece;
      replies = t.replies ++ h.replies;
      input_is = t.input_is ∙ ap (λ (z : List ℕ). t.front ++ z) took ∙ sym (append_assoc t.front piece left');
      hears = hears_then asks settings fault_more first mid last t.front piece t.replies h.replies t.hears h.hears;
      written = Appends-trans w0 w w' t.replies h.replies t.written h.appended;
    }

    -- the conversation was closed: it was answered whatever stands behind
    pub last_more : (first mid last : Attended A) (input left piece left' : List ℕ) (w0 w w' : Option (List ℕ)) → Talked asks settings first input w0 left w mid → left ≡ piece ++ left' → AnswersLast asks settings mid piece w w' last
        → AnswersLast asks settings first input w0 w' last
    last_more first mid last input left piece left' w0 w w' t took h = record {
      replies = t.replies ++ h.replies;
      hears = λ more.
          let there : t.front ++ (piece ++ (left' ++ more)) ≡ input ++ more =
          ap (λ (z : List ℕ). t.front ++ z) (sym (append_assoc piece left' more) ∙ ap (λ (z : List ℕ). z ++ more) (sym took)) ∙ sym (append_assoc t.front left more) ∙ ap (λ (z : List ℕ). z ++ more) (sym t.input_is) in
          subst (λ (z : List ℕ). Hears asks settings first z (t.replies ++ h.replies) last) there
          (hears_then asks settings fault_more first mid last t.front (piece ++ (left' ++ more)) t.replies h.replies t.hears (h.hears (left' ++ more)));
      appended = Appends-trans w0 w w' t.replies h.replies t.written h.appended;
    }

    -- of the answers to a prefix of the input a prefix is written
    pub front_more : (first mid last : Attended A) (input left piece left' : List ℕ) (w0 w w' : Option (List ℕ)) → Talked asks settings first input w0 left w mid → left ≡ piece ++ left' → BreaksOff asks settings mid piece w w' last
        → BreaksOff asks settings first input w0 w' last
    front_more first mid last input left piece left' w0 w w' t took h = record {
      front = t.front ++ h.front;
      rest = h.rest ++ left';
      replies = t.replies ++ h.replies;
      count = length t.replies + h.count;
      input_is = t.input_is ∙ ap (λ (z : List ℕ). t.front ++ z) (took ∙ ap (λ (z : List ℕ). z ++ left') h.input_is ∙ append_assoc h.front h.rest left') ∙ sym (append_assoc t.front h.front (h.rest ++ left'));
      hears = hears_then asks settings fault_more first mid last t.front h.front t.replies h.replies t.hears h.hears;
      appended = subst (λ (z : List ℕ). Appends w0 w' z) (sym (take-append-add t.replies h.replies h.count)) (Appends-trans w0 w w' t.replies (take h.count h.replies) t.written h.appended);
    }

    -- all of them are, but perhaps the last, which is short
    pub short_more : (first mid last : Attended A) (input left piece left' : List ℕ) (w0 w w' : Option (List ℕ)) → Talked asks settings first input w0 left w mid → left ≡ piece ++ left' → AnswersButShort asks settings mid piece w w' last
        → AnswersButShort asks settings first input w0 w' last
    short_more first mid last input left piece left' w0 w w' t took h = record {
      front = t.front ++ h.front;
      rest = h.rest ++ left';
      replies = t.replies ++ h.replies;
      unsaid = h.unsaid;
      input_is = t.input_is ∙ ap (λ (z : List ℕ). t.front ++ z) (took ∙ ap (λ (z : List ℕ). z ++ left') h.input_is ∙ append_assoc h.front h.rest left') ∙ sym (append_assoc t.front h.front (h.rest ++ left'));
      hears = subst (λ (z : List ℕ). Hears asks settings first (t.front ++ h.front) z last) (sym (append_assoc t.replies h.replies h.unsaid))
          (hears_then asks settings fault_more first mid last t.front h.front t.replies (h.replies ++ h.unsaid) t.hears h.hears);
      short = h.short;
      appended = Appends-trans w0 w w' t.replies h.replies t.written h.appended;
    }

    -- ---- a piece of the stream more

    pub goes_on : (first mid last : Attended A) (piece : List ℕ) (r0 r r' w0 w w' : Option (List ℕ)) → SoFar asks settings first r0 r w0 w mid → Consumes r r' piece → AnswersAll asks settings mid piece w w' last
        → SoFar asks settings first r0 r' w0 w' last
    goes_on first mid last piece None r r' w0 w w' s took h = tt
    goes_on first mid last piece (Some input) None r' w0 w w' s took h = absurd s
    goes_on first mid last piece (Some input) (Some left) None w0 w w' s took h = absurd took
    goes_on first mid last piece (Some input) (Some left) (Some left') w0 w w' s took h = talked_more first mid last input left piece left' w0 w w' s took h

    -- it is the last
    ends_with : (served : Served) (first mid last : Attended A) (input left piece left' : List ℕ) (w0 w w' : Option (List ℕ)) → Talked asks settings first input w0 left w mid → left ≡ piece ++ left'
        → AnswersPiece asks settings mid piece w (Some served) w' last → Converses asks settings first input w0 served w' last
    ends_with Done first mid last input left piece left' w0 w w' t took h =
        let l = last_more first mid last input left piece left' w0 w w' t took h in
        record { replies = l.replies; hears = subst (λ (z : List ℕ). Hears asks settings first z l.replies last) (append-nil input) (l.hears []); appended = l.appended }
    ends_with ReadFault first mid last input left piece left' w0 w w' t took h = absurd h
    ends_with WriteFault first mid last input left piece left' w0 w w' t took h = front_more first mid last input left piece left' w0 w w' t took h
    ends_with NoMemory first mid last input left piece left' w0 w w' t took h = short_more first mid last input left piece left' w0 w w' t took h

    pub ends_in : (served : Served) (first mid last : Attended A) (piece : List ℕ) (r0 r r' w0 w w' : Option (List ℕ)) → SoFar asks settings first r0 r w0 w mid → Consumes r r' piece
        → AnswersPiece asks settings mid piece w (Some served) w' last → IfSome r0 (λ input. Converses asks settings first input w0 served w' last)
    ends_in served first mid last piece None r r' w0 w w' s took h = tt
    ends_in served first mid last piece (Some input) None r' w0 w w' s took h = absurd s
    ends_in served first mid last piece (Some input) (Some left) None w0 w w' s took h = absurd took
    ends_in served first mid last piece (Some input) (Some left) (Some left') w0 w w' s took h = ends_with served first mid last input left piece left' w0 w w' s took h
