-- What a conversation heard of a piece, by how the last part of it was left.
use Rattle.std.proofs.Common.{◌≡◌, ◌⊎◌, ◌≤◌, ◌+◌, ℕ, true, List, [], ◌++◌, length, take, drop, refl, sym, ap, subst, ◌∙◌, append_assoc, append-nil, take_all, take-append-drop, inr}
use Rattle.core_calls.specs.Call.{Call}
use Rattle.core_calls.specs.Answer.{Answer}
use Rattle.dss_frames.specs.declared.fault.FrameFault.{FrameFault}
use Rattle.dss_frames.specs.Fault.{FaultAt}
use Rattle.session_commands.specs.Settings.{Settings}
use Rattle.conversation.specs.declared.fed.Fed.{Fed}
use Rattle.conversation.specs.declared.fed.FedState.{FedState}
use Rattle.conversation.specs.declared.fed.FedState.TheVariants.{Open, Closed as is_shut}
use Rattle.conversation.specs.declared.fed.Heard.{Heard}
use Rattle.conversation.specs.declared.fed.Heard.TheVariants as heard_as
use Rattle.conversation.specs.Attended.{Attended}
use Rattle.conversation.specs.Hearing.{Hears, IsShortReply}
use Rattle.conversation.specs.Pieces.{HearsAll, HearsLast, HearsPart, HearsPiece}
use Rattle.conversation.specs.Feeding.{LeftAs, Takes, Told, bytes_behind}
use Rattle.conversation.proofs.Conversing.{hears_then}
use Rattle.conversation.proofs.Stepping.{told_more}

module _ {A : Type 0} (asks : A → Call → Answer → A → Type 0) (settings : Settings) where
  -- what was heard before, and one part further on
  pub further : (fault_more : (bytes more : List ℕ) (fault : FrameFault) → FaultAt bytes fault → FaultAt (bytes ++ more) fault) (a b c : Attended A) (piece out out' out1 out2 : List ℕ) (at : ℕ) (fed : Fed) (settings' : Settings)
      → settings' ≡ settings → out1 ≡ out' → Told asks settings a (take at piece) out [] b out' → Takes asks settings' b (take fed.taken (drop at piece)) out1 fed c out2
      → Told asks settings a (take (at + fed.taken) piece) out (bytes_behind fed.state) c out2
  further fault_more a b c piece out out' out1 out2 at fed settings' same kept told takes =
      told_more asks settings fault_more a b c piece out out1 out2 at fed.taken fed (subst (λ (z : List ℕ). Told asks settings a (take at piece) out [] b z) (sym kept) told)
      (subst (λ (v : Settings). Takes asks v b (take fed.taken (drop at piece)) out1 fed c out2) same takes)

  -- it is open
  pub all : (a c : Attended A) (heard out out' : List ℕ) (taken : ℕ) (state : FedState) → Told asks settings a heard out (bytes_behind state) c out' → LeftAs state taken c → state ≡ Open → HearsAll asks settings a heard out c out'
  all a c heard out out' taken state told left is =
      let t : Told asks settings a heard out [] c out' = subst (λ (s : FedState). Told asks settings a heard out (bytes_behind s) c out') is told in
      record {
        replies = t.replies ++ [];
        hears = t.hears;
        still_open = subst (λ (s : FedState). LeftAs s taken c) is left;
        appended = t.appended ∙ ap (λ (z : List ℕ). out ++ z) (sym (append-nil t.replies));
      }

  -- it is closed, whatever comes after
  pub last : (fault_more : (bytes more : List ℕ) (fault : FrameFault) → FaultAt bytes fault → FaultAt (bytes ++ more) fault) (a c : Attended A) (heard out out' : List ℕ) (taken : ℕ) (state : FedState)
      → Told asks settings a heard out (bytes_behind state) c out' → LeftAs state taken c → state ≡ is_shut → HearsLast asks settings a heard out c out'
  last fault_more a c heard out out' taken state told left is =
      let t : Told asks settings a heard out [] c out' = subst (λ (s : FedState). Told asks settings a heard out (bytes_behind s) c out') is told in
      let shut : c.standing.session.is_closed ≡ true = subst (λ (s : FedState). LeftAs s taken c) is left in
      record {
        replies = (t.replies ++ []) ++ [];
        hears = λ more. hears_then asks settings fault_more a c c heard more (t.replies ++ []) [] t.hears (inr (record { closed = shut; silent = refl; same = refl }));
        closed = shut;
        appended = t.appended ∙ ap (λ (z : List ℕ). out ++ z) (sym (append-nil (t.replies ++ []) ∙ append-nil t.replies));
      }

  -- perhaps a reply was not appended
  pub part : (a c : Attended A) (heard out out' : List ℕ) (state : FedState) → Told asks settings a heard out (bytes_behind state) c out' → (bytes_behind state ≡ []) ⊎ IsShortReply (bytes_behind state) → HearsPart asks settings a heard out c out'
  part a c heard out out' state told short = record {
    heard = heard;
    rest = [];
    replies = told.replies;
    unsaid = bytes_behind state;
    parts = sym (append-nil heard);
    hears = told.hears;
    short = short;
    appended = told.appended;
  }

  -- the reply that came behind was appended too
  pub said_behind : (a c : Attended A) (heard out out' out'' behind : List ℕ) (state : FedState) → Told asks settings a heard out (bytes_behind state) c out' → bytes_behind state ≡ behind → out'' ≡ out' ++ behind
      → Told asks settings a heard out [] c out''
  said_behind a c heard out out' out'' behind state told is appended =
      let t : Told asks settings a heard out behind c out' = subst (λ (z : List ℕ). Told asks settings a heard out z c out') is told in
      record {
        replies = t.replies ++ behind;
        appended = appended ∙ ap (λ (z : List ℕ). z ++ behind) t.appended ∙ append_assoc out t.replies behind;
        hears = subst (λ (z : List ℕ). Hears asks settings a heard z c) (sym (append-nil (t.replies ++ behind))) t.hears;
      }

  -- what was taken of a piece was all of it, unless it ended before
  pub whole : (state : Heard) (a c : Attended A) (piece out out' : List ℕ) (taken : ℕ) → HearsPiece asks settings a (take taken piece) out state c out' → (state ≡ heard_as.Open → length piece ≤ taken) → HearsPiece asks settings a piece out state c out'
  whole heard_as.Open a c piece out out' taken h every = subst (λ (z : List ℕ). HearsAll asks settings a z out c out') (take_all taken piece (every refl)) h
  whole heard_as.Closed a c piece out out' taken h every = record {
    replies = h.replies;
    hears = λ more.
        let there : take taken piece ++ (drop taken piece ++ more) ≡ piece ++ more = sym (append_assoc (take taken piece) (drop taken piece) more) ∙ ap (λ (z : List ℕ). z ++ more) (take-append-drop taken piece) in
        subst (λ (z : List ℕ). Hears asks settings a z h.replies c) there (h.hears (drop taken piece ++ more));
    closed = h.closed;
    appended = h.appended;
  }
  whole heard_as.NoMemory a c piece out out' taken h every = record {
    heard = h.heard;
    rest = h.rest ++ drop taken piece;
    replies = h.replies;
    unsaid = h.unsaid;
    parts = sym (take-append-drop taken piece) ∙ ap (λ (z : List ℕ). z ++ drop taken piece) h.parts ∙ append_assoc h.heard h.rest (drop taken piece);
    hears = h.hears;
    short = h.short;
    appended = h.appended;
  }
