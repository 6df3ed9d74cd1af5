-- Conversations over a network, side by side.
use Rattle.std.specs.Prelude.{◌≡◌, ◌⊎◌, true, ◌≤◌, ◌+◌, ◌-◌, ◌^◌, unwrap_or, ℕ, Bool, List, length, ◌∷◌, [], ◌++◌, codes, Option, Some, None, IfOk, IfErr, Result, Err}
use Rattle.std.specs.Fmt.{decimal}
use Rattle.std.specs.Io.KnownBytes.{Appends}
use Rattle.std.specs.declared.net.socket_addr.SocketAddr.{SocketAddr}
use Rattle.std.specs.List.{AllByRecursion}
use Rattle.drda_disk.specs.Disk.{Life}
use Rattle.recovery.specs.Journaled.{OnDisk}
use Rattle.session_commands.specs.Settings.{Settings}
use Rattle.command_line.specs.declared.job.ServeOptions.{ServeOptions}
use Rattle.drda_server.specs.Network.{ClosesAtOnce, FailsToLetIn, IsLocal, LetsIn, NetworkCalls}
use Rattle.drda_server.specs.Threads.{Became, Given, IsReceived, IsTurnedAway}
use Rattle.store_files.specs.Stores.{IsOfDevice}
use Rattle.store_files.specs.declared.fault.Fault.{Fault}
use Rattle.store_files.specs.declared.fault.Fault.TheVariants.{Device}

-- the line that says the port
abbrev pub port_line : ℕ → List ℕ
port_line port = codes "listening " ++ decimal port ++ 10 ∷ []

-- how many streams are let in at most
abbrev pub most : Option ℕ → ℕ
most count = unwrap_or count (2 ^ 64 - 1)

module _ {N L S W : Type 0} (calls : NetworkCalls N L S W) where
  -- ---- streams that are let in

  -- why fewer may come than were asked for: letting one in has failed, or serving ends where the device fails
  abbrev pub MayStop : Bool → L → Type 0
  MayStop ends listener = FailsToLetIn calls listener ⊎ (ends ≡ true)

  -- so many streams were closed at once; then one was let in, with its limit. Or none is, since all have come that were asked for,
  -- or fewer may.
  abbrev pub IsNext : L → Option ℕ → Bool → ℕ → ℕ → Option (S × W) → ℕ → Type 0
  IsNext listener idle ends left closed (Some both) left' = (left ≡ closed + 1 + left') × (net : N) × (net' : N) × LetsIn calls net listener idle both.0 both.1 net'
  IsNext listener idle ends left closed None left' = (left ≡ closed) ⊎ ((closed ≤ left) × MayStop ends listener)

  -- the same listener goes on to let streams in, with the same limit, as long as it did
  pub record LetsNext (listener : L) (idle : Option ℕ) (ends : Bool) (left : ℕ) (given : Option (S × W)) (listener' : L) (idle' : Option ℕ) (ends' : Bool) (left' : ℕ) : Type 0 where
    pub closed : List S
    pub closes : AllByRecursion (ClosesAtOnce calls listener idle) closed
    pub next : IsNext listener idle ends left (length closed) given left'
    pub listener_stays : listener' ≡ listener
    pub idle_stays : idle' ≡ idle
    pub ends_stays : ends' ≡ ends

  abbrev pub IsLetIn : L → Option ℕ → Given S W → Type 0
  IsLetIn listener idle given = (net : N) × (net' : N) × LetsIn calls net listener idle given.reader given.writer net'

  module _ {D : Type 0} (modelled : Bool) (life : D → Life) (origin : OnDisk D → Type 0) (remaining : S → Option (List ℕ)) (contents : W → Option (List ℕ)) (settings : Settings) (options : ServeOptions) where
    -- Each stream that the listener let in had the limit of the options, and was attended by a front of these settings, or turned
    -- away, at the book of this origin. They were, with those that were closed at once, as many as the options say, and no more; or
    -- fewer, where letting one in has failed, or where the options say that a failed device ends serving.
    pub record ServesStreams (listener : L) : Type 0 where
      pub streams : List (Given S W)
      pub let_in : AllByRecursion (IsLetIn listener options.idle) streams
      pub each : AllByRecursion (Became (IsTurnedAway modelled life origin) (IsReceived modelled life origin remaining contents settings)) streams
      pub closed : List S
      pub closes : AllByRecursion (ClosesAtOnce calls listener options.idle) closed
      pub count : (length streams + length closed ≡ most options.count) ⊎ ((length streams + length closed ≤ most options.count) × MayStop options.ends_when_failed listener)

    -- ---- a listener

    -- The port was said, and conversations were served; perhaps not all that were asked for, where letting a stream in failed.
    -- Or none was, since the port could not be said or memory was refused.
    pub record HasListened (listener : L) (before : Option (List ℕ)) (outcome : Result (Unit {0}) Fault) (now : Option (List ℕ)) : Type 0 where
      pub said : IfOk outcome (λ _. (port : ℕ) × calls.has_port listener port × Appends before now (port_line port))
      pub cause : IfErr outcome IsOfDevice
      pub served : ((fault : Fault) × (outcome ≡ Err fault)) ⊎ ServesStreams listener

    -- the port of this machine was taken, or it was listened on; no other address is
    pub record Listens (port : ℕ) (net : N) (before : Option (List ℕ)) (outcome : Result (Unit {0}) Fault) (now : Option (List ℕ)) : Type 0 where
      pub address : SocketAddr
      pub local : IsLocal address port
      pub mid : N
      pub bound : (calls.binds net address None mid × (outcome ≡ Err Device) × (now ≡ before))
          ⊎ ((listener : L) × calls.binds net address (Some listener) mid × HasListened listener before outcome now)
