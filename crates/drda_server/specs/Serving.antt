-- Conversations over the store of a path, side by side.
use Rattle.std.specs.Prelude.{◌≡◌, ◌⊎◌, ℕ, Bool, false, IsTrue, List, IfOk, Option, Some, Result, Err}
use Rattle.drda_disk.specs.Disk.{Life}
use Rattle.session_commands.specs.Settings.{Settings}
use Rattle.command_line.specs.Job.{Login}
use Rattle.command_line.specs.declared.job.ServeOptions.{ServeOptions}
use Rattle.recovery.specs.Durable.{Durable}
use Rattle.recovery.specs.Journaled.{OnDisk}
use Rattle.recovery.specs.Opens.{OpensTo}
use Rattle.core_history.specs.Books.{IsKept, Told}
use Rattle.core_history.specs.Lasting.{Lasts}
use Rattle.store_files.specs.Files.{FileCalls}
use Rattle.store_files.specs.Opening.{IsOver, IsTurnedBack}
use Rattle.store_files.specs.declared.fault.Fault.{Fault}
use Rattle.store_files.specs.declared.fault.Fault.TheVariants.{NoMemory}
use Rattle.drda_server.specs.Listening.{Listens}
use Rattle.drda_server.specs.Network.{NetworkCalls}

-- what a server of this login starts its conversations with
abbrev pub settings_of : Login → List ℕ → Settings
settings_of login rdb = record { user = login.user; password = login.password; rdb = rdb }

module _ {D : Type 0} (modelled : Bool) (life : D → Life) where
  -- The book of this origin, as it was found once all threads had ended: it was kept, and where no fault is told, its device had
  -- not failed.
  pub record EndsSo (origin : OnDisk D → Type 0) (outcome : Result (Unit {0}) Fault) : Type 0 where
    pub book : Told D
    pub is_of : origin book.opening
    pub is_kept : IsKept modelled life book
    pub going : IfOk outcome (λ _. book.core.is_failed ≡ false)

  module _ {N L S W : Type 0} (calls : NetworkCalls N L S W) (remaining : S → Option (List ℕ)) (contents : W → Option (List ℕ)) where
    -- over a core of which this is known conversations were served, or memory was refused before any was
    abbrev pub ServesCore : (OnDisk D → Type 0) → Settings → ServeOptions → ℕ → N → Option (List ℕ) → Result (Unit {0}) Fault → N → Option (List ℕ) → Type 0
    ServesCore origin settings options port net before outcome net' now =
        ((outcome ≡ Err NoMemory) × (net' ≡ net) × (now ≡ before))
        ⊎ (Listens calls modelled life origin remaining contents settings options port net before outcome now × EndsSo origin outcome)

    -- Conversations were served over the store that a disk is, each by a thread of its own, by settings of this login and of that
    -- store's name, as the options say. What each call made of its core is the core's step, one after another under one lock: each
    -- found there the one book that was opened over that core, of which nothing was asked before. Of a disk that gives back what
    -- was written, what that book lists lasts.
    pub record ServesOn (disk : D) (port : ℕ) (login : Login) (options : ServeOptions) (net : N) (before : Option (List ℕ)) (outcome : Result (Unit {0}) Fault) (now : Option (List ℕ)) : Type 0 where
      pub core : OnDisk D
      pub over : IsOver modelled life disk core
      pub listens : Listens calls modelled life (λ c. c ≡ core) remaining contents (settings_of login core.name) options port net before outcome now
      pub ends : EndsSo (λ c. c ≡ core) outcome
      pub lasts : (name : List ℕ) (d : Durable) → IsTrue modelled → OpensTo name d (life disk).seen → Lasts life ends.book

-- what the calls of the files and of the network come to
pub record Surroundings (F D N L S W : Type 0) : Type 1 where
  pub files : FileCalls F D
  pub modelled : Bool
  pub life : D → Life
  pub network : NetworkCalls N L S W
  -- what the streams of that network hold
  pub remaining : S → Option (List ℕ)
  pub contents : W → Option (List ℕ)

abbrev pub surroundings : {F D N L S W : Type 0} → FileCalls F D → Bool → (D → Life) → NetworkCalls N L S W → (S → Option (List ℕ)) → (W → Option (List ℕ)) → Surroundings F D N L S W
surroundings files modelled life network remaining contents = record { files = files; modelled = modelled; life = life; network = network; remaining = remaining; contents = contents }

-- the files, the network, and what was written on standard output
pub record Seen (F N : Type 0) : Type 0 where
  pub files : F
  pub net : N
  pub out : Option (List ℕ)

abbrev pub seen : {F N : Type 0} → F → N → Option (List ℕ) → Seen F N
seen files net out = record { files = files; net = net; out = out }

module _ {F D N L S W : Type 0} (around : Surroundings F D N L S W) where
  -- conversations over the store of a path, if there is one
  abbrev pub ServesFile : List ℕ → ℕ → Login → ServeOptions → Seen F N → Result (Unit {0}) Fault → Seen F N → Type 0
  ServesFile path port login options old outcome new =
      ((fault : Fault) × (outcome ≡ Err fault) × IsTurnedBack around.modelled around.life around.files old.files path fault new.files × (new.net ≡ old.net) × (new.out ≡ old.out))
      ⊎ ((disk : D) × around.files.opens old.files path (Some disk) new.files
      × ServesOn around.modelled around.life around.network around.remaining around.contents disk port login options old.net old.out outcome new.out)
