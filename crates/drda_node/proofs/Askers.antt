-- What a conversation whose asker asks the core hears, it hears of the core.
use Rattle.std.proofs.Common.{◌≡◌, ◌⊎◌, ℕ, Bool, false, List, [], ◌∷◌, ◌++◌, sym, ap, subst, ◌∙◌, inl, inr}
use Rattle.drda_disk.specs.Disk.{Life}
use Rattle.dss_frames.specs.Dss.{Dss}
use Rattle.sqlam_replies.specs.Reply.{Reply}
use Rattle.command_kit.specs.declared.statements.Statements.{Statements}
use Rattle.command_kit.specs.Doing.{Doing, asking, finished}
use Rattle.command_kit.specs.Done.{WasDone}
use Rattle.dss_frames.specs.Reading.{End, faulty, unfinished}
use Rattle.session_commands.specs.Settings.{Settings}
use Rattle.conversation.specs.Standing.{Standing}
use Rattle.conversation.specs.Done.{Does, DoesAll, Exchanges, IsExcused}
use Rattle.conversation.specs.Steps.{Converses, Ends}
use Rattle.conversation.specs.declared.fed.Fed.{Fed}
use Rattle.conversation.specs.declared.fed.FedState.{FedState}
use Rattle.conversation.specs.declared.fed.FedState.TheVariants as state
use Rattle.conversation.specs.declared.fed.Heard.{Heard}
use Rattle.conversation.specs.declared.fed.Heard.TheVariants as heard
use Rattle.conversation.specs.Attended.{Attended}
use Rattle.conversation.specs.Hearing.{Hears}
use Rattle.conversation.specs.Pieces.{HearsPiece}
use Rattle.conversation.specs.Feeding.{EndsAtFault, EndsWithCommand, LeftAs, Takes}
use Rattle.recovery.specs.Journaled.{CallsGoOn}
use Rattle.drda_node.specs.declared.asker.CoreAsker.{CoreAsker}
use Rattle.drda_node.specs.Asking.{AskedCore, IsJournaled, IsSameAsker, asks, asks_of, core_of}

module _ {D : Type 0} (modelled : Bool) (life : D → Life) where
  -- the same standing, with the core in the asker's place
  abbrev over_core : Standing (CoreAsker D) → Standing AskedCore
  over_core s = record { session = s.session; statements = s.statements; asked = core_of modelled s.asked }

  -- nothing was asked, or what was asked left this on the disk
  abbrev pub IsAskedSome : CoreAsker D → CoreAsker D → Type 0
  IsAskedSome old new = (new ≡ old) ⊎ IsJournaled modelled life old.core.now new.core.now

  -- the same core is asked for the same conversation, and this is left on its disk
  abbrev pub Reaches : CoreAsker D → CoreAsker D → Type 0
  Reaches old new = IsSameAsker old new × IsAskedSome old new

  same_asker : (old new : CoreAsker D) → new ≡ old → IsSameAsker old new
  same_asker old new e = record { core = ap (λ (a : CoreAsker D). a.core.ghost_name) e; calls = ap (λ (a : CoreAsker D). a.calls.ghost_name) e; conversation = ap (λ (a : CoreAsker D). a.conversation) e }

  unasked : (old new : CoreAsker D) → new ≡ old → Reaches old new
  unasked old new e = (same_asker old new e, inl e)

  done : (doing : Doing) (old new : CoreAsker D) (k : Statements) (before after : List Reply) → WasDone (asks_of modelled life) doing old new k before after
      → WasDone (asks old.conversation) doing (core_of modelled old) (core_of modelled new) k before after × Reaches old new
  done (finished r) old new k before after w = ((ap (λ (a : CoreAsker D). core_of modelled a) w.0, w.1), unasked old new w.0)
  done (asking call then) old new k before after w =
      (record { answer = w.answer; asked = w.asked.1; answered = w.answered }, (w.asked.0, inr w.asked.2))

  exchanges : (settings : Settings) (s s' : Standing (CoreAsker D)) (command : List Dss) (bytes : List ℕ) → Exchanges (asks_of modelled life) settings s command bytes s'
      → Exchanges (asks s.asked.conversation) settings (over_core s) command bytes (over_core s') × Reaches s.asked s'.asked
  exchanges settings s s' [] bytes e = ((e.0, ap over_core e.1), unasked s.asked s'.asked (ap (λ (t : Standing (CoreAsker D)). t.asked) e.1))
  exchanges settings s s' (request ∷ objects) bytes (inl p) =
      (inl (record { broken = p.broken; silent = p.silent; same = ap over_core p.same }), unasked s.asked s'.asked (ap (λ (t : Standing (CoreAsker D)). t.asked) p.same))
  exchanges settings s s' (request ∷ objects) bytes (inr e) =
      let f = e.followed in
      let (asked, same) = done _ s.asked s'.asked s'.statements [] f.replies f.done in
      (inr (record { not_broken = e.not_broken; followed = record { replies = f.replies; done = asked; session = f.session; bytes_are = f.bytes_are } }), same)

  excused : (s s' : Standing (CoreAsker D)) (command : List Dss) (bytes : List ℕ) → IsExcused s command bytes s'
      → IsExcused (over_core s) command bytes (over_core s') × Reaches s.asked s'.asked
  excused s s' command bytes e =
      (record { not_broken = e.not_broken; same = ap over_core e.same; reply = e.reply }, unasked s.asked s'.asked (ap (λ (t : Standing (CoreAsker D)). t.asked) e.same))

  does_so : (settings : Settings) (s s' : Standing (CoreAsker D)) (command : List Dss) (bytes : List ℕ) → s.session.is_closed ≡ false → Exchanges (asks_of modelled life) settings s command bytes s' ⊎ IsExcused s command bytes s'
      → Does (asks s.asked.conversation) settings (over_core s) command bytes (over_core s') × Reaches s.asked s'.asked
  does_so settings s s' command bytes still_open (inl e) = let (asked, reach) = exchanges settings s s' command bytes e in (record { still_open = still_open; does = inl asked }, reach)
  does_so settings s s' command bytes still_open (inr e) = let (said, reach) = excused s s' command bytes e in (record { still_open = still_open; does = inr said }, reach)

  -- the same of an asker between two pieces
  abbrev pub over : Attended (CoreAsker D) → Attended AskedCore
  over a = record { rest = a.rest; standing = over_core a.standing }

  left_as : (left : FedState) (taken : ℕ) (after : Attended (CoreAsker D)) → LeftAs left taken after → LeftAs left taken (over after)
  left_as state.Open taken after is = is
  left_as state.Closed taken after is = is
  left_as (state.Short bytes) taken after is = is
  left_as state.Later taken after is = is

  ends_there : (before : Attended (CoreAsker D)) (piece : List ℕ) (taken : ℕ) → EndsAtFault before piece taken ⊎ EndsWithCommand before piece taken → EndsAtFault (over before) piece taken ⊎ EndsWithCommand (over before) piece taken
  ends_there before piece taken (inl f) = inl (record { some = f.some; commands = f.commands; rest = f.rest; one_less = f.one_less })
  ends_there before piece taken (inr f) = inr (record { some = f.some; commands = f.commands; whole = f.whole })

  ends : (place : ℕ) (end : End) (s last : Standing (CoreAsker D)) (bytes left : List ℕ) → Ends (asks_of modelled life) s end bytes left last → Ends (asks place) (over_core s) end bytes left (over_core last) × (last.asked ≡ s.asked)
  ends place (unfinished rest) s last bytes left e = ((e.0, e.1, ap over_core e.2), ap (λ (t : Standing (CoreAsker D)). t.asked) e.2)
  ends place (faulty fault) s last bytes left e = ((e.0, ap over_core e.1), ap (λ (t : Standing (CoreAsker D)). t.asked) e.1)

  module _ (go_on : CallsGoOn life) where
    some_then : (a b c : CoreAsker D) → IsAskedSome a b → IsAskedSome b c → IsAskedSome a c
    some_then a b c (inl p) (inl q) = inl (q ∙ p)
    some_then a b c (inl p) (inr q) = inr (subst (λ (x : CoreAsker D). IsJournaled modelled life x.core.now c.core.now) p q)
    some_then a b c (inr p) (inl q) = inr (subst (λ (x : CoreAsker D). IsJournaled modelled life a.core.now x.core.now) (sym q) p)
    some_then a b c (inr p) (inr q) = inr (go_on.both modelled a.core.now b.core.now c.core.now p q)

    reach_then : (a b c : CoreAsker D) → Reaches a b → Reaches b c → Reaches a c
    reach_then a b c (p, x) (q, y) = (record { core = q.core ∙ p.core; calls = q.calls ∙ p.calls; conversation = q.conversation ∙ p.conversation }, some_then a b c x y)

    does_all : (settings : Settings) (commands : List (List Dss)) (s last : Standing (CoreAsker D)) (bytes : List ℕ) → DoesAll (asks_of modelled life) settings s commands bytes last
        → DoesAll (asks s.asked.conversation) settings (over_core s) commands bytes (over_core last) × Reaches s.asked last.asked
    does_all settings [] s last bytes d = ((d.0, ap over_core d.1), unasked s.asked last.asked (ap (λ (t : Standing (CoreAsker D)). t.asked) d.1))
    does_all settings (command ∷ commands) s last bytes (first, others, between, d, same, more) =
        let (did, reach) = does_so settings s between command first d.still_open d.does in
        let (did_more, reach_more) = does_all settings commands between last others more in (
          (first, others, over_core between, did, same, subst (λ (n : ℕ). DoesAll (asks n) settings (over_core between) commands others (over_core last)) reach.0.conversation did_more),
          reach_then s.asked between.asked last.asked reach reach_more,
        )

    converses : (settings : Settings) (s last : Standing (CoreAsker D)) (text bytes left : List ℕ) → Converses (asks_of modelled life) settings s text bytes left last
        → Converses (asks s.asked.conversation) settings (over_core s) text bytes left (over_core last) × Reaches s.asked last.asked
    converses settings s last text bytes left (inl c) =
        let (did, reach) = does_all settings c.commands s c.between c.replies c.does in
        let (ended, same) = ends s.asked.conversation c.end c.between last c.closing left c.ends in (
          inl (record {
            commands = c.commands;
            end = c.end;
            reads = c.reads;
            replies = c.replies;
            closing = c.closing;
            between = over_core c.between;
            does = did;
            still_open = c.still_open;
            ends = ended;
            written = c.written;
          }),
          reach_then s.asked c.between.asked last.asked reach (unasked c.between.asked last.asked same),
        )
    converses settings s last text bytes left (inr c) =
        let (did, reach) = does_all settings c.commands s last bytes c.does in (
          inr (record { front = c.front; beyond = c.beyond; text_is = c.text_is; commands = c.commands; reads = c.reads; does = did; closed_there = c.closed_there }),
          reach,
        )

    pub hears : (settings : Settings) (before after : Attended (CoreAsker D)) (bytes replies : List ℕ) → Hears (asks_of modelled life) settings before bytes replies after
        → Hears (asks before.standing.asked.conversation) settings (over before) bytes replies (over after) × Reaches before.standing.asked after.standing.asked
    hears settings before after bytes replies (inl l) =
        let (c, reach) = converses settings before.standing after.standing (before.rest ++ bytes) replies after.rest l.converses in (inl (record { still_open = l.still_open; converses = c }), reach)
    hears settings before after bytes replies (inr h) = (
      inr (record { closed = h.closed; silent = h.silent; same = ap over h.same }),
      unasked before.standing.asked after.standing.asked (ap (λ (a : Attended (CoreAsker D)). a.standing.asked) h.same),
    )

    pub takes : (settings : Settings) (before after : Attended (CoreAsker D)) (piece out out' : List ℕ) (fed : Fed) → Takes (asks_of modelled life) settings before piece out fed after out'
        → Takes (asks before.standing.asked.conversation) settings (over before) piece out fed (over after) out' × Reaches before.standing.asked after.standing.asked
    takes settings before after piece out out' fed t =
        let (heard, reach) = hears settings before after _ _ t.told.hears in (
          record {
            within = t.within;
            told = record { replies = t.told.replies; appended = t.told.appended; hears = heard };
            state = left_as fed.state fed.taken after t.state;
            all = t.all;
            later = t.later;
            closed = λ is still_open. ends_there before piece fed.taken (t.closed is still_open);
            none = t.none;
          },
          reach,
        )

    pub hears_piece : (how : Heard) (settings : Settings) (before after : Attended (CoreAsker D)) (piece out out' : List ℕ) → HearsPiece (asks_of modelled life) settings before piece out how after out'
        → HearsPiece (asks before.standing.asked.conversation) settings (over before) piece out how (over after) out' × Reaches before.standing.asked after.standing.asked
    hears_piece heard.Open settings before after piece out out' h =
        let (hears_it, reach) = hears settings before after piece h.replies h.hears in (record { replies = h.replies; hears = hears_it; still_open = h.still_open; appended = h.appended }, reach)
    hears_piece heard.Closed settings before after piece out out' h =
        (record { replies = h.replies; hears = λ more. (hears settings before after (piece ++ more) h.replies (h.hears more)).0; closed = h.closed; appended = h.appended }, (hears settings before after (piece ++ []) h.replies (h.hears [])).1)
    hears_piece heard.NoMemory settings before after piece out out' h =
        let (hears_it, reach) = hears settings before after h.heard (h.replies ++ h.unsaid) h.hears in
        (record { heard = h.heard; rest = h.rest; replies = h.replies; unsaid = h.unsaid; parts = h.parts; hears = hears_it; short = h.short; appended = h.appended }, reach)
