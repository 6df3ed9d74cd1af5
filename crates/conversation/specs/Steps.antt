-- Conversations: what one step of a front does, and what a whole text is answered. `asks` says which call,
-- which answer and which state of who is asked belong together.
use Rattle.std.specs.Prelude.{◌≡◌, ◌⊎◌, ℕ, true, false, List, [], ◌++◌}
use Rattle.dss_frames.specs.Dss.{Dss}
use Rattle.dss_frames.specs.declared.fault.FrameFault.{FrameFault}
use Rattle.dss_frames.specs.Fault.{BeginsWith, FaultAt, IsUnfinished}
use Rattle.dss_frames.specs.Reading.{End, unfinished, faulty, ReadsAs}
pub use Rattle.dss_frames.specs.Lending.{GoesFar, KeepsToFirst}
use Rattle.core_calls.specs.Call.{Call}
use Rattle.core_calls.specs.Answer.{Answer}
use Rattle.session_commands.specs.declared.session.Session.{Session}
use Rattle.conversation.specs.declared.front.Need.{Need}
use Rattle.conversation.specs.declared.front.Need.TheVariants.{Bytes, Local, Short, Closed}
use Rattle.conversation.specs.Replies.{fault_bytes}
use Rattle.session_commands.specs.Settings.{Settings}
use Rattle.conversation.specs.Held.{Held}
use Rattle.conversation.specs.Standing.{Standing, standing}
pub use Rattle.conversation.specs.Done.{Does, DoesAll, Exchanges, IsExcused}

abbrev pub closed : Session → Session
closed session = record session { is_closed = true }

module _ {A : Type 0} (asks : A → Call → Answer → A → Type 0) where
  -- ---- one step

  -- more bytes have to come
  pub record Waits (old : Held) (asked : A) (out : List ℕ) (new : Held) (asked' : A) (out' : List ℕ) : Type 0 where
    pub open_still : old.session.is_closed ≡ false
    pub unfinished_rest : IsUnfinished old.rest
    pub same : new ≡ old
    pub silent : out' ≡ out
    pub unasked : asked' ≡ asked

  -- a command was taken from the front of the bytes and answered, and its replies appended
  pub record Replies (old : Held) (asked : A) (out : List ℕ) (new : Held) (asked' : A) (out' : List ℕ) : Type 0 where
    pub open_still : old.session.is_closed ≡ false
    pub command : List Dss
    pub taken : BeginsWith old.rest command new.rest
    pub bytes : List ℕ
    pub exchanges : Exchanges asks old.settings (standing old asked) command bytes (standing new asked')
    pub reply : out' ≡ out ++ bytes
    pub settings : new.settings ≡ old.settings

  -- A command was taken and found no memory: its reply is handed out, and nothing is appended. A command of
  -- a broken chain asks for none.
  pub record Excuses (old : Held) (asked : A) (out : List ℕ) (bytes : List ℕ) (new : Held) (asked' : A) (out' : List ℕ) : Type 0 where
    pub open_still : old.session.is_closed ≡ false
    pub command : List Dss
    pub taken : BeginsWith old.rest command new.rest
    pub excused : IsExcused (standing old asked) command bytes (standing new asked')
    pub silent : out' ≡ out
    pub settings : new.settings ≡ old.settings

  -- the framing is faulty: the fault is answered, and the conversation is closed
  pub record Fails (old : Held) (asked : A) (out : List ℕ) (new : Held) (asked' : A) (out' : List ℕ) : Type 0 where
    pub open_still : old.session.is_closed ≡ false
    pub fault : FrameFault
    pub there : FaultAt old.rest fault
    pub session : new.session ≡ closed old.session
    pub reply : out' ≡ out ++ fault_bytes fault
    pub settings : new.settings ≡ old.settings
    pub statements : new.statements ≡ old.statements
    pub unasked : asked' ≡ asked

  -- it was closed before
  pub record StaysClosed (old : Held) (asked : A) (out : List ℕ) (new : Held) (asked' : A) (out' : List ℕ) : Type 0 where
    pub closed_before : old.session.is_closed ≡ true
    pub same : new ≡ old
    pub silent : out' ≡ out
    pub unasked : asked' ≡ asked

  -- A command leaves the conversation open, or closes it by AGNPRMRM.
  abbrev pub Steps : Held → A → List ℕ → Need → Held → A → List ℕ → Type 0
  Steps old asked out Bytes new asked' out' = Waits old asked out new asked' out'
  Steps old asked out Local new asked' out' = Replies old asked out new asked' out' × (new.session.is_closed ≡ false)
  Steps old asked out (Short bytes) new asked' out' = Excuses old asked out bytes new asked' out'
  Steps old asked out Closed new asked' out' =
      (Replies old asked out new asked' out' × (new.session.is_closed ≡ true))
      ⊎ (Fails old asked out new asked' out' ⊎ StaysClosed old asked out new asked' out')

  -- ---- a whole text

  -- what is answered where the text ends, and what is left
  abbrev pub Ends : Standing A → End → List ℕ → List ℕ → Standing A → Type 0
  Ends s (unfinished rest) bytes left last = (bytes ≡ []) × (left ≡ rest) × (last ≡ s)
  Ends s (faulty fault) bytes left last = (bytes ≡ fault_bytes fault) × (last ≡ record s { session = closed s.session })

  -- The text is read to its end, or to its fault.
  pub record ReadsAll (settings : Settings) (s : Standing A) (text bytes left : List ℕ) (last : Standing A) : Type 0 where
    pub commands : List (List Dss)
    pub end : End
    pub reads : ReadsAs text commands end
    pub replies : List ℕ
    pub closing : List ℕ
    pub between : Standing A
    pub does : DoesAll asks settings s commands replies between
    pub still_open : between.session.is_closed ≡ false
    pub ends : Ends between end closing left last
    pub written : bytes ≡ replies ++ closing

  -- A command closed the conversation: what stands behind it in the text is not read.
  pub record ClosesWithin (settings : Settings) (s : Standing A) (text bytes : List ℕ) (last : Standing A) : Type 0 where
    pub front : List ℕ
    pub beyond : List ℕ
    pub text_is : text ≡ front ++ beyond
    pub commands : List (List Dss)
    pub reads : ReadsAs front commands (unfinished [])
    pub does : DoesAll asks settings s commands bytes last
    pub closed_there : last.session.is_closed ≡ true

  -- To this text, from this standing on, these bytes are answered. The text is what came since the last
  -- completed command; `left` is the same afterwards, and says nothing of a closed conversation.
  abbrev pub Converses : Settings → Standing A → List ℕ → List ℕ → List ℕ → Standing A → Type 0
  Converses settings s text bytes left last = ReadsAll settings s text bytes left last ⊎ ClosesWithin settings s text bytes last
