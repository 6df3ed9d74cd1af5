-- Streams that come, and what becomes of each: its conversation is attended by a thread, or it is turned away.
use Rattle.std.specs.Prelude.{◌≡◌, ℕ, Bool, List, [], ◌∷◌, Option, Some, None, IfSome}
use Rattle.std.specs.List.{AllByRecursion}
use Rattle.drda_disk.specs.Disk.{Life}
use Rattle.counted_streams.specs.Counts.{counts, sink_of}
use Rattle.counted_streams.specs.Faults.{uncounted}
use Rattle.stream_service.specs.Serving.{TellsFaults}
use Rattle.session_commands.specs.Settings.{Settings}
use Rattle.recovery.specs.Journaled.{OnDisk}
use Rattle.core_history.specs.declared.pass.Pass.{Pass}
use Rattle.shared_node.specs.Desks.{DeskAsks}
use Rattle.shared_node.specs.Locked.{GivesLeave, GivesNone, Retires, UnderLock}
use Rattle.shared_node.specs.Served.{IsLost, IsServed}
use Rattle.drda_server.specs.declared.attended.Attended.{Attended}

-- ---- one stream

module _ {D : Type 0} (modelled : Bool) (life : D → Life) (origin : OnDisk D → Type 0) {I O : Type 0} (remaining : I → Option (List ℕ)) (contents : O → Option (List ℕ)) (settings : Settings) (pass : Pass) (reader : I) (writer : O) where
  -- A stream was served from its first byte to its loss, by a front of these settings, at its own pass, of which nobody asked
  -- anything else; then the pass was given back. Or there was no memory for the conversation, and nothing was heard.
  pub record Attends (attended : Attended I O) : Type 0 where
    pub served : IfSome (remaining reader) (λ input. IsServed (DeskAsks modelled life origin) settings pass input (contents writer) attended.served (contents (sink_of attended.writer.value)) attended.pass.value)
    pub lost : IsLost (DeskAsks modelled life origin) pass attended.served attended.pass.value
    pub retired : UnderLock modelled life origin (Retires attended.pass.value attended.is_retired)
    -- what is told of its end has a cause in what has failed of its stream
    pub cause : TellsFaults attended.served uncounted (counts attended.reader.value attended.writer.value)

  abbrev pub IsAttended : Type 0
  IsAttended = (attended : Attended I O) × Attends attended

  -- leave was given for this conversation, at this pass, of which nothing was asked before; and it was attended
  pub record IsReceived : Type 0 where
    pub leave : UnderLock modelled life origin (GivesLeave pass)
    pub attended : IsAttended

-- a stream was turned away: 64 conversations had leave then, or no number was left
abbrev pub IsTurnedAway : {D : Type 0} → Bool → (D → Life) → (OnDisk D → Type 0) → Type 0
IsTurnedAway modelled life origin = UnderLock modelled life origin GivesNone

-- ---- all streams

-- a stream that came, and the pass that it was given, if any
pub record Given (I O : Type 0) : Type 0 where
  pub reader : I
  pub writer : O
  pub pass : Option Pass

module _ {I O : Type 0} (Away : Type 0) (Is : Pass → I → O → Type 0) where
  -- this became of it, at its pass; or it was turned away
  abbrev pub BecameAt : Option Pass → I → O → Type 0
  BecameAt None reader writer = Away
  BecameAt (Some pass) reader writer = Is pass reader writer

  abbrev pub Became : Given I O → Type 0
  Became given = BecameAt given.pass given.reader given.writer

  module _ {S : Type 0} (gives : S → Option (I × O) → S → Type 0) where
    -- these streams came, one after another
    abbrev pub Came : List (Given I O) → S → S → Type 0
    Came [] first last = last ≡ first
    Came (given ∷ more) first last = (next : S) × gives first (Some (given.reader, given.writer)) next × Came more next last

    -- streams came until no more did, and each was attended or turned away
    pub record ServesAll (first : S) : Type 0 where
      pub streams : List (Given I O)
      pub last : S
      pub ended : S
      pub came : Came streams first last
      pub no_more : gives last None ended
      pub each : AllByRecursion Became streams

-- nothing is known of what comes
abbrev pub any_streams : {S I O : Type 0} → S → Option (I × O) → S → Type 0
any_streams before given after = Unit {0}
