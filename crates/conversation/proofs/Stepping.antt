-- One step of a conversation, and the next.
use Rattle.std.proofs.Common.{◌≡◌, ◌⊎◌, ◌||◌, Bool, zero, suc, ◌≤◌, ◌<◌, ◌+◌, ◌-◌, ℕ, true, false, List, [], ◌∷◌, ◌++◌, length, take, drop, min, refl, sym, ap, subst, ◌∙◌, append_assoc, append-nil, inl, inr, arith}
use Rattle.std.proofs.Math.Seq.{take-add}
use Rattle.std.proofs.lemmas.List.{nil_from_length, take_all, take-take, length-take-le, length-take, length-drop}
use Rattle.dss_frames.specs.Dss.{Dss}
use Rattle.dss_frames.specs.declared.fault.FrameFault.{FrameFault}
use Rattle.dss_frames.specs.Fault.{BeginsWith, FaultAt, IsUnfinished}
use Rattle.dss_frames.specs.Reading.{unfinished, faulty, ReadsAs}
use Rattle.core_calls.specs.Call.{Call}
use Rattle.core_calls.specs.Answer.{Answer}
use Rattle.session_commands.specs.declared.session.Session.{Session}
use Rattle.conversation.specs.declared.front.Need.{Need}
use Rattle.conversation.specs.declared.front.Need.TheVariants.{Bytes, Local, Short, Closed}
use Rattle.session_commands.specs.Settings.{Settings}
use Rattle.conversation.specs.Held.{Held}
use Rattle.conversation.specs.Replies.{fault_bytes}
use Rattle.conversation.specs.Exchange.{excused}
use Rattle.conversation.specs.Standing.{Standing, standing}
use Rattle.conversation.specs.Done.{Does}
use Rattle.conversation.specs.Steps.{Steps, Converses, KeepsToFirst}
use Rattle.conversation.specs.Attended.{Attended, attended_by}
use Rattle.conversation.specs.Hearing.{Hears}
use Rattle.conversation.specs.declared.fed.Fed.{Fed}
use Rattle.conversation.specs.declared.fed.FedState.{FedState}
use Rattle.conversation.specs.declared.fed.FedState.TheVariants.{Open, Later, Closed as is_shut, Short as is_short}
use Rattle.conversation.specs.Feeding.{IsBetweenCommands, EndsAtFault, EndsWithCommand, Told, Takes, LeftAs, bytes_behind, state_for}
use Rattle.conversation.proofs.Conversing.{hears_then, hears_closed}

abbrev pub reply_behind : Need → List ℕ
reply_behind Bytes = []
reply_behind Local = []
reply_behind (Short bytes) = bytes
reply_behind Closed = []

abbrev pub NeedIs : Need → List ℕ → Held → Type 0
NeedIs Bytes part new = new.session.is_closed ≡ false
NeedIs Local part new = new.session.is_closed ≡ false
NeedIs (Short bytes) part new = (0 < length part) × (new.session.is_closed ≡ false)
NeedIs Closed part new = new.session.is_closed ≡ true

-- the bytes that were held and those that came are whole commands
abbrev pub IsWhole : Held → List ℕ → Type 0
IsWhole old part = (0 < length part) × ((commands : List (List Dss)) × ReadsAs (old.rest ++ part) commands (unfinished []))

-- a command stands where there was none, so some byte came
some_came : (rest part : List ℕ) (command : List Dss) (remains : List ℕ) → IsUnfinished rest → BeginsWith (rest ++ part) command remains → 0 < length part
some_came rest [] command remains unfinished_rest taken =
    absurd (unfinished_rest.no_command command remains (subst (λ (z : List ℕ). BeginsWith z command remains) (append-nil rest) taken))
some_came rest (b ∷ part) command remains unfinished_rest taken = omega arith

-- These bytes come behind unfinished ones, and no more of them than the first command or fault takes.
pub record IsOfOne (rest part : List ℕ) : Type 0 where
  pub less : (fewer : ℕ) → fewer < length part → IsUnfinished (rest ++ take fewer part)
  pub alone : (command : List Dss) (remains : List ℕ) → BeginsWith (rest ++ part) command remains → remains ≡ []

pub of_one : (rest piece : List ℕ) (count : ℕ) → count ≤ length piece → KeepsToFirst rest piece count → IsOfOne rest (take count piece)
of_one rest piece count within keeps =
    let all : length (take count piece) ≡ count = length-take-le count piece within in
    record {
      less = λ fewer few.
          let below : fewer < count = omega (arith, few, all) in
          subst (λ (z : List ℕ). IsUnfinished (rest ++ z)) (sym (take-take fewer count piece (omega (arith, below)))) (keeps.less fewer below);
      alone = λ command remains begins. keeps.alone count command remains (omega arith) begins;
    }

-- a command that found no memory leaves the conversation open
excused_open : (session : Session) (command : List Dss) → session.is_closed ≡ false → (excused session command).session.is_closed ≡ false
excused_open session [] still_open = still_open
excused_open session (request ∷ objects) still_open = ap (λ (b : Bool). b || false) still_open

closed_or_open : (b : Bool) → (b ≡ true) ⊎ (b ≡ false)
closed_or_open true = inl refl
closed_or_open false = inr refl

-- the bytes of a piece that were taken so far, and some more
pub more_taken : (piece : List ℕ) (taken size count : ℕ) → count ≤ size → take taken piece ++ take count (take size (drop taken piece)) ≡ take (taken + count) piece
more_taken piece taken size count few = ap (λ (z : List ℕ). take taken piece ++ z) (take-take count size (drop taken piece) few) ∙ sym (take-add taken count piece)

-- so many bytes were taken, and no more than there are
pub within_piece : (piece : List ℕ) (taken size count : ℕ) → taken ≤ length piece → count ≤ length (take size (drop taken piece)) → taken + count ≤ length piece
within_piece piece taken size count some more =
    let of_take : length (take size (drop taken piece)) ≡ min size (length (drop taken piece)) = length-take size (drop taken piece) in
    let of_drop : length (drop taken piece) ≡ length piece - taken = length-drop taken piece in
    omega (arith, of_take, of_drop)

module _ {A : Type 0} where
  -- the last byte that was taken is the last one of the faulty header
  ends_at_fault : (before : Attended A) (part : List ℕ) (count : ℕ) (fault : FrameFault) → count ≡ length part → IsUnfinished before.rest → IsOfOne before.rest part
      → FaultAt (before.rest ++ part) fault → EndsAtFault before part count
  ends_at_fault before part zero fault whole unfinished_rest keeps there =
      let nothing : before.rest ++ part ≡ before.rest = ap (λ (z : List ℕ). before.rest ++ z) (nil_from_length part (sym whole)) ∙ append-nil before.rest in
      absurd (unfinished_rest.no_fault fault (subst (λ (z : List ℕ). FaultAt z fault) nothing there))
  ends_at_fault before part (suc count) fault whole unfinished_rest keeps there = record {
    some = omega arith;
    commands = [];
    rest = before.rest ++ take (suc count - 1) part;
    one_less = (refl, keeps.less (suc count - 1) (omega (arith, whole)));
  }

  -- or of the command
  ends_now : (before : Attended A) (part : List ℕ) (count : ℕ) → count ≡ length part → IsUnfinished before.rest → IsOfOne before.rest part
      → ((fault : FrameFault) × FaultAt (before.rest ++ part) fault) ⊎ ((0 < length part) × ((commands : List (List Dss)) × ReadsAs (before.rest ++ part) commands (unfinished [])))
      → EndsAtFault before part count ⊎ EndsWithCommand before part count
  ends_now before part count whole unfinished_rest keeps (inl (fault, there)) = inl (ends_at_fault before part count fault whole unfinished_rest keeps there)
  ends_now before part count whole unfinished_rest keeps (inr (some, (commands, reads))) =
      inr (record {
        some = omega (arith, some, whole);
        commands = commands;
        whole = subst (λ (z : List ℕ). ReadsAs (before.rest ++ z) commands (unfinished [])) (sym (take_all count part (omega (arith, whole)))) reads;
      })

  -- a longer piece leaves a conversation alike
  pub left_more : (state : FedState) (before taken : ℕ) (after : Attended A) → LeftAs state taken after → LeftAs state (before + taken) after
  left_more Open before taken after h = h
  left_more is_shut before taken after h = h
  left_more (is_short bytes) before taken after h = let some = h.0 in (omega arith, h.1)
  left_more Later before taken after h = h

module _ {A : Type 0} (asks : A → Call → Answer → A → Type 0) where
  pub record Stepped (old : Held) (asked : A) (part out : List ℕ) (need : Need) (new : Held) (asked' : A) (out' : List ℕ) : Type 0 where
    pub told : Told asks old.settings (attended_by old asked) part out (reply_behind need) (attended_by new asked') out'
    pub settled : IsBetweenCommands new
    pub settings : new.settings ≡ old.settings
    pub state : NeedIs need part new
    pub ended : need ≡ Closed → old.session.is_closed ≡ false → ((fault : FrameFault) × FaultAt (old.rest ++ part) fault) ⊎ IsWhole old part

  module _ (nothing : IsUnfinished []) where
    -- one command, and no byte behind it
    one_command : (settings : Settings) (s next : Standing A) (text rest bytes : List ℕ) (command : List Dss) → BeginsWith text command rest → rest ≡ []
        → Does asks settings s command bytes next → next.session.is_closed ≡ false → Converses asks settings s text bytes rest next
    one_command settings s next text rest bytes command taken none does still_open = inl (record {
      commands = command ∷ [];
      end = unfinished rest;
      reads = (rest, taken, (refl, subst IsUnfinished (sym none) nothing));
      replies = bytes;
      closing = [];
      between = next;
      does = (bytes, [], next, does, sym (append-nil bytes), (refl, refl));
      still_open = still_open;
      ends = (refl, refl, refl);
      written = sym (append-nil bytes);
    })

    -- and it closes the conversation
    last_command : (settings : Settings) (s next : Standing A) (text rest left bytes : List ℕ) (command : List Dss) → BeginsWith text command rest → rest ≡ []
        → Does asks settings s command bytes next → next.session.is_closed ≡ true → Converses asks settings s text bytes left next
    last_command settings s next text rest left bytes command taken none does shut = inr (record {
      front = text;
      beyond = [];
      text_is = sym (append-nil text);
      commands = command ∷ [];
      reads = (rest, taken, (none, nothing));
      does = (bytes, [], next, does, sym (append-nil bytes), (refl, refl));
      closed_there = shut;
    })

    pub steps : (old : Held) (asked : A) (part out : List ℕ) (need : Need) (new : Held) (asked' : A) (out' : List ℕ) → IsBetweenCommands old
        → (old.session.is_closed ≡ true → part ≡ []) → (IsUnfinished old.rest → IsOfOne old.rest part)
        → Steps asks (record old { rest = old.rest ++ part }) asked out need new asked' out' → Stepped old asked part out need new asked' out'
    steps old asked part out Bytes new asked' out' settled none keeps s =
        let rest : new.rest ≡ old.rest ++ part = ap (λ (h : Held). h.rest) s.same in
        let session : new.session ≡ old.session = ap (λ (h : Held). h.session) s.same in
        record {
          told = record {
            replies = [];
            appended = s.silent ∙ sym (append-nil out);
            hears = inl (record {
              still_open = s.open_still;
              converses = inl (record {
                commands = [];
                end = unfinished (old.rest ++ part);
                reads = (refl, s.unfinished_rest);
                replies = [];
                closing = [];
                between = standing old asked;
                does = (refl, refl);
                still_open = s.open_still;
                ends = (refl, rest, λ i. standing (s.same i) (s.unasked i));
                written = refl;
              });
            });
          };
          settings = ap (λ (h : Held). h.settings) s.same;
          settled = λ is_open. subst IsUnfinished (sym rest) s.unfinished_rest;
          state = ap (λ (t : Session). t.is_closed) session ∙ s.open_still;
          ended = λ e is_open. absurd (cc e);
        }
    steps old asked part out Local new asked' out' settled none keeps (s, still_open) =
        let alone : new.rest ≡ [] = (keeps (settled s.open_still)).alone s.command new.rest s.taken in
        record {
          told = record {
            replies = s.bytes;
            appended = s.reply;
            hears = inl (record {
              still_open = s.open_still;
              converses = subst (λ (z : List ℕ). Converses asks old.settings (standing old asked) (old.rest ++ part) z new.rest (standing new asked')) (sym (append-nil s.bytes))
                  (one_command old.settings (standing old asked) (standing new asked') (old.rest ++ part) new.rest s.bytes s.command s.taken alone (record { still_open = s.open_still; does = inl s.exchanges }) still_open);
            });
          };
          settings = s.settings;
          settled = λ is_open. subst IsUnfinished (sym alone) nothing;
          state = still_open;
          ended = λ e is_open. absurd (cc e);
        }
    steps old asked part out (Short bytes) new asked' out' settled none keeps s =
        let alone : new.rest ≡ [] = (keeps (settled s.open_still)).alone s.command new.rest s.taken in
        let still_open : new.session.is_closed ≡ false =
        ap (λ (t : Standing A). t.session.is_closed) s.excused.same ∙ excused_open old.session s.command s.open_still in
        record {
          told = record {
            replies = [];
            appended = s.silent ∙ sym (append-nil out);
            hears = inl (record {
              still_open = s.open_still;
              converses = one_command old.settings (standing old asked) (standing new asked') (old.rest ++ part) new.rest bytes s.command s.taken alone (record { still_open = s.open_still; does = inr s.excused }) still_open;
            });
          };
          settings = s.settings;
          settled = λ is_open. subst IsUnfinished (sym alone) nothing;
          state = (some_came old.rest part s.command new.rest (settled s.open_still) s.taken, still_open);
          ended = λ e is_open. absurd (cc e);
        }
    steps old asked part out Closed new asked' out' settled none keeps (inl (s, shut)) =
        let alone : new.rest ≡ [] = (keeps (settled s.open_still)).alone s.command new.rest s.taken in
        record {
          told = record {
            replies = s.bytes;
            appended = s.reply;
            hears = inl (record {
              still_open = s.open_still;
              converses = subst (λ (z : List ℕ). Converses asks old.settings (standing old asked) (old.rest ++ part) z new.rest (standing new asked')) (sym (append-nil s.bytes))
                  (last_command old.settings (standing old asked) (standing new asked') (old.rest ++ part) new.rest new.rest s.bytes s.command s.taken alone (record { still_open = s.open_still; does = inl s.exchanges }) shut);
            });
          };
          settings = s.settings;
          settled = λ is_open. let both : true ≡ false = sym shut ∙ is_open in absurd (cc both);
          state = shut;
          ended = λ e is_open. inr (some_came old.rest part s.command new.rest (settled s.open_still) s.taken, (s.command ∷ [], (new.rest, s.taken, (alone, nothing))));
        }
    steps old asked part out Closed new asked' out' settled none keeps (inr (inl s)) =
        let shut : new.session.is_closed ≡ true = ap (λ (t : Session). t.is_closed) s.session in
        record {
          told = record {
            replies = fault_bytes s.fault;
            appended = s.reply;
            hears = inl (record {
              still_open = s.open_still;
              converses = inl (record {
                commands = [];
                end = faulty s.fault;
                reads = s.there;
                replies = [];
                closing = fault_bytes s.fault;
                between = standing old asked;
                does = (refl, refl);
                still_open = s.open_still;
                ends = (refl, λ i. record { session = s.session i; statements = s.statements i; asked = s.unasked i });
                written = append-nil (fault_bytes s.fault);
              });
            });
          };
          settings = s.settings;
          settled = λ is_open. let both : true ≡ false = sym shut ∙ is_open in absurd (cc both);
          state = shut;
          ended = λ e is_open. inl (s.fault, s.there);
        }
    steps old asked part out Closed new asked' out' settled none keeps (inr (inr s)) =
        let rest : new.rest ≡ old.rest = ap (λ (h : Held). h.rest) s.same ∙ ap (λ (z : List ℕ). old.rest ++ z) (none s.closed_before) ∙ append-nil old.rest in
        let session : new.session ≡ old.session = ap (λ (h : Held). h.session) s.same in
        let shut : new.session.is_closed ≡ true = ap (λ (t : Session). t.is_closed) session ∙ s.closed_before in
        record {
          told = record {
            replies = [];
            appended = s.silent ∙ sym (append-nil out);
            hears = inr (record {
              closed = s.closed_before;
              silent = refl;
              same = λ i. record { rest = rest i; standing = standing (s.same i) (s.unasked i) };
            });
          };
          settings = ap (λ (h : Held). h.settings) s.same;
          settled = λ is_open. let both : true ≡ false = sym shut ∙ is_open in absurd (cc both);
          state = shut;
          ended = λ e is_open. let both : true ≡ false = sym s.closed_before ∙ is_open in absurd (cc both);
        }

    -- the same of what was fed
    pub handed : (old fed : Held) (asked : A) (part out : List ℕ) (need : Need) (new : Held) (asked' : A) (out' : List ℕ) → IsBetweenCommands old
        → (IsUnfinished old.rest → IsOfOne old.rest part) → fed ≡ record old { rest = old.rest ++ part } → (old.session.is_closed ≡ true → part ≡ [])
        → Steps asks fed asked out need new asked' out' → Stepped old asked part out need new asked' out'
    handed old fed asked part out need new asked' out' settled keeps is none s =
        steps old asked part out need new asked' out' settled none keeps (subst (λ (h : Held). Steps asks h asked out need new asked' out') is s)

  module _ (settings : Settings) (fault_more : (bytes more : List ℕ) (fault : FrameFault) → FaultAt bytes fault → FaultAt (bytes ++ more) fault) where
    pub told_then : (a b c : Attended A) (p q out extra out' out'' : List ℕ) → Told asks settings a p out [] b out' → Told asks settings b q out' extra c out'' → Told asks settings a (p ++ q) out extra c out''
    told_then a b c p q out extra out' out'' first second =
        let said : (first.replies ++ []) ++ (second.replies ++ extra) ≡ (first.replies ++ second.replies) ++ extra =
        ap (λ (z : List ℕ). z ++ (second.replies ++ extra)) (append-nil first.replies) ∙ sym (append_assoc first.replies second.replies extra) in
        record {
          replies = first.replies ++ second.replies;
          appended = second.appended ∙ ap (λ (z : List ℕ). z ++ second.replies) first.appended ∙ append_assoc out first.replies second.replies;
          hears = subst (λ (z : List ℕ). Hears asks settings a (p ++ q) z c) said (hears_then asks settings fault_more a b c p q (first.replies ++ []) (second.replies ++ extra) first.hears second.hears);
        }

  -- nothing is heard in no bytes
  told_nothing : (held : Held) (asked : A) (out : List ℕ) → (held.session.is_closed ≡ true) ⊎ (held.session.is_closed ≡ false) → IsBetweenCommands held
      → Told asks held.settings (attended_by held asked) [] out [] (attended_by held asked) out
  told_nothing held asked out (inl shut) settled = record { replies = []; appended = sym (append-nil out); hears = inr (record { closed = shut; silent = refl; same = refl }) }
  told_nothing held asked out (inr is_open) settled = record {
    replies = [];
    appended = sym (append-nil out);
    hears = inl (record {
      still_open = is_open;
      converses = inl (record {
        commands = [];
        end = unfinished held.rest;
        reads = (append-nil held.rest, settled is_open);
        replies = [];
        closing = [];
        between = standing held asked;
        does = (refl, refl);
        still_open = is_open;
        ends = (refl, refl, refl);
        written = refl;
      });
    });
  }

  pub told_start : (held : Held) (asked : A) (out : List ℕ) → IsBetweenCommands held → Told asks held.settings (attended_by held asked) [] out [] (attended_by held asked) out
  told_start held asked out settled = told_nothing held asked out (closed_or_open held.session.is_closed) settled

  -- the state, by whether bytes were taken or there were none
  pub moved : (need : Need) (has_fed : Bool) (old : Held) (asked : A) (part out : List ℕ) (count : ℕ) (new : Held) (asked' : A) (out' : List ℕ) → count ≡ length part
      → (has_fed ≡ false → count ≡ 0) → (old.session.is_closed ≡ true → count ≡ 0) → IsBetweenCommands old → (IsUnfinished old.rest → IsOfOne old.rest part)
      → Told asks old.settings (attended_by old asked) (take count part) out (reply_behind need) (attended_by new asked') out' → Stepped old asked part out need new asked' out'
      → Takes asks old.settings (attended_by old asked) part out (record { taken = count; state = state_for need has_fed }) (attended_by new asked') out'
  moved Bytes true old asked part out count new asked' out' whole few none settled keeps told s = record {
    within = omega (arith, whole);
    told = told;
    state = s.state;
    all = λ e. whole;
    later = λ e. absurd (cc e);
    closed = λ e. absurd (cc e);
    none = none;
  }
  moved Bytes false old asked part out count new asked' out' whole few none settled keeps told s = record {
    within = omega (arith, whole);
    told = told;
    state = s.state;
    all = λ e. absurd (cc e);
    later = λ e. inr (nil_from_length part (sym whole ∙ few refl));
    closed = λ e. absurd (cc e);
    none = none;
  }
  moved Local true old asked part out count new asked' out' whole few none settled keeps told s = record {
    within = omega (arith, whole);
    told = told;
    state = s.state;
    all = λ e. whole;
    later = λ e. absurd (cc e);
    closed = λ e. absurd (cc e);
    none = none;
  }
  moved Local false old asked part out count new asked' out' whole few none settled keeps told s = record {
    within = omega (arith, whole);
    told = told;
    state = s.state;
    all = λ e. absurd (cc e);
    later = λ e. inr (nil_from_length part (sym whole ∙ few refl));
    closed = λ e. absurd (cc e);
    none = none;
  }
  moved (Short bytes) has_fed old asked part out count new asked' out' whole few none settled keeps told s =
      let some = s.state.0 in
      record {
        within = omega (arith, whole);
        told = told;
        state = (omega (arith, some, whole), s.state.1);
        all = λ e. absurd (cc e);
        later = λ e. absurd (cc e);
        closed = λ e. absurd (cc e);
        none = none;
      }
  moved Closed has_fed old asked part out count new asked' out' whole few none settled keeps told s = record {
    within = omega (arith, whole);
    told = told;
    state = s.state;
    all = λ e. absurd (cc e);
    later = λ e. absurd (cc e);
    closed = λ e is_open. ends_now (attended_by old asked) part count whole (settled is_open) (keeps (settled is_open)) (s.ended refl is_open);
    none = none;
  }

  -- the same of bytes in front of a piece
  pub moved_on : (need : Need) (has_fed : Bool) (old : Held) (asked : A) (piece out : List ℕ) (count : ℕ) (new : Held) (asked' : A) (out' : List ℕ) → count ≤ length piece
      → (has_fed ≡ false → count ≡ 0) → (old.session.is_closed ≡ true → count ≡ 0) → IsBetweenCommands old → (IsUnfinished old.rest → IsOfOne old.rest (take count piece))
      → Stepped old asked (take count piece) out need new asked' out'
      → Takes asks old.settings (attended_by old asked) (take count piece) out (record { taken = count; state = state_for need has_fed }) (attended_by new asked') out'
  moved_on need has_fed old asked piece out count new asked' out' within few none settled keeps s =
      let whole : length (take count piece) ≡ count = length-take-le count piece within in
      moved need has_fed old asked (take count piece) out count new asked' out' (sym whole) few none settled keeps
      (subst (λ (z : List ℕ). Told asks old.settings (attended_by old asked) z out (reply_behind need) (attended_by new asked') out') (sym (take-take count count piece (omega arith))) s.told) s

  module _ (settings : Settings) (fault_more : (bytes more : List ℕ) (fault : FrameFault) → FaultAt bytes fault → FaultAt (bytes ++ more) fault) where
    pub told_more : (a b c : Attended A) (piece out out1 out2 : List ℕ) (taken size : ℕ) (fed : Fed) → Told asks settings a (take taken piece) out [] b out1 → Takes asks settings b (take size (drop taken piece)) out1 fed c out2
        → Told asks settings a (take (taken + fed.taken) piece) out (bytes_behind fed.state) c out2
    told_more a b c piece out out1 out2 taken size fed told more =
        let length_of : length (take size (drop taken piece)) ≡ min size (length (drop taken piece)) = length-take size (drop taken piece) in
        let few : fed.taken ≤ size = omega (arith, length_of, more.within) in
        subst (λ (z : List ℕ). Told asks settings a z out (bytes_behind fed.state) c out2) (more_taken piece taken size fed.taken few)
        (told_then settings fault_more a b c (take taken piece) (take fed.taken (take size (drop taken piece))) out (bytes_behind fed.state) out1 out2 told more.told)

  -- what was closed takes none
  pub none_more : (settings : Settings) (a b c : Attended A) (piece out out1 out2 : List ℕ) (taken size : ℕ) (fed : Fed) → Told asks settings a (take taken piece) out [] b out1 → Takes asks settings b (take size (drop taken piece)) out1 fed c out2
      → (a.standing.session.is_closed ≡ true → taken ≡ 0) → a.standing.session.is_closed ≡ true → taken + fed.taken ≡ 0
  none_more settings a b c piece out out1 out2 taken size fed told more none shut =
      let first = none shut in
      let second = more.none (hears_closed asks settings a b (take taken piece) (told.replies ++ []) told.hears shut) in
      omega (arith, first, second)
