-- What calls of a network come to: the network before, what is given, if any, and the network after.
use Rattle.std.specs.Prelude.{◌≡◌, ◌⊎◌, ℕ, [], ◌∷◌, Option, Some, None}
use Rattle.std.specs.Net.Addr.{ipv4_octets}
use Rattle.std.specs.Net.Socket.{v4_ip, v4_port}
use Rattle.std.specs.declared.net.socket_addr.SocketAddr.{SocketAddr}
use Rattle.std.specs.declared.net.socket_addr.SocketAddr.TheVariants.{V4, V6}

pub record NetworkCalls (N L S W : Type 0) : Type 1 where
  -- an address is listened on
  pub binds : N → SocketAddr → Option L → N → Type 0
  -- a listener has this port
  pub has_port : L → ℕ → Type 0
  -- a listener lets in the next stream
  pub lets_in : N → L → Option S → N → Type 0
  -- a stream gets a limit, in seconds, for how long a read of it waits; or it gets none
  pub limits : N → S → ℕ → Option (Unit {0}) → N → Type 0
  -- the same for how long a write on it waits
  pub limits_writes : N → S → ℕ → Option (Unit {0}) → N → Type 0
  -- small segments of what is written on a stream are sent at once from then on; or they wait as before
  pub hurries : N → S → Option (Unit {0}) → N → Type 0
  -- a stream gets a second handle, to be written on
  pub answers : N → S → Option W → N → Type 0

-- nothing is known of them
abbrev pub any_network : {N L S W : Type 0} → NetworkCalls N L S W
any_network = record { binds = λ _ _ _ _. Unit {0}; has_port = λ _ _. Unit {0}; lets_in = λ _ _ _ _. Unit {0}; limits = λ _ _ _ _ _. Unit {0}; limits_writes = λ _ _ _ _ _. Unit {0}; hurries = λ _ _ _ _. Unit {0}; answers = λ _ _ _ _. Unit {0} }

-- 127.0.0.1, and this port
abbrev pub IsLocal : SocketAddr → ℕ → Type 0
IsLocal (V4 address) port = (ipv4_octets (v4_ip address) ≡ 127 ∷ 0 ∷ 0 ∷ 1 ∷ []) × (v4_port address ≡ port)
IsLocal (V6 address) port = ⊥

module _ {N L S W : Type 0} (calls : NetworkCalls N L S W) where
  -- reads of a stream, and then writes on it, are limited to so many seconds, where some are given
  abbrev pub IsLimited : N → S → Option ℕ → N → Type 0
  IsLimited net stream None net' = net' ≡ net
  IsLimited net stream (Some seconds) net' = (mid : N) × calls.limits net stream seconds (Some tt) mid × calls.limits_writes mid stream seconds (Some tt) net'

  -- they could not be limited
  abbrev pub IsNotLimited : N → S → Option ℕ → N → Type 0
  IsNotLimited net stream None net' = ⊥
  IsNotLimited net stream (Some seconds) net' = calls.limits net stream seconds None net' ⊎ ((mid : N) × calls.limits net stream seconds (Some tt) mid × calls.limits_writes mid stream seconds None net')

  -- letting a stream in has failed
  abbrev pub FailsToLetIn : L → Type 0
  FailsToLetIn listener = (net : N) × (net' : N) × calls.lets_in net listener None net'

  -- a stream was let in that could not have its limit or its second handle: it is closed at once
  pub record ClosesAtOnce (listener : L) (idle : Option ℕ) (stream : S) : Type 0 where
    pub net : N
    pub came : N
    pub let_in : calls.lets_in net listener (Some stream) came
    pub refused : ((limited : N) × IsNotLimited came stream idle limited) ⊎ ((asked : N) × (answered : N) × calls.answers asked stream None answered)

  -- a stream was let in, got its limit, was asked to hurry, and then got a second handle
  pub record LetsIn (net : N) (listener : L) (idle : Option ℕ) (stream : S) (writer : W) (net' : N) : Type 0 where
    pub came : N
    pub let_in : calls.lets_in net listener (Some stream) came
    pub limited : N
    pub is_limited : IsLimited came stream idle limited
    pub hurried : Option (Unit {0})
    pub asked : N
    pub is_asked : calls.hurries limited stream hurried asked
    pub answered : calls.answers asked stream (Some writer) net'
