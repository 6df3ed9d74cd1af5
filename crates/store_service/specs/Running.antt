-- What running over a store comes to: the replies of a machine of plain tables from the state that the store opens to, and
-- what a crash leaves at each moment.
use Rattle.std.specs.Prelude.{◌≡◌, ◌⊎◌, ℕ, Bool, true, false, IsTrue, List, [], ◌++◌, Option, Some, IfSome, Result, Ok, Err}
use Rattle.std.specs.List.{AllByRecursion}
use Rattle.counted_streams.specs.Faults.{Counts}
use Rattle.drda_disk.specs.Disk.{LeavesOnly, Life, Now, Only, Stays}
use Rattle.session_commands.specs.Settings.{Settings, is_rdb_name}
use Rattle.half_store.specs.declared.header.Layout.{Layout}
use Rattle.unit_records.specs.MadeRecords.{groups_of, none_made}
use Rattle.unit_records.specs.Records.{IsGood, UnitRecord}
use Rattle.recovery.specs.Durable.{Durable, replayed_from}
use Rattle.recovery.specs.Part.{durable_part, opened}
use Rattle.core_model.specs.Laws.{IsSane}
use Rattle.serializability.specs.Answered.{CallsLead, SerialRun, committed}
use Rattle.recovery.specs.Opens.{OpensTo}
use Rattle.recovery.specs.Journaled.{FaultsAfter, Journaled, OnDisk, OpensAfterAll, OpensAfterSome, all_in, shown_on}
use Rattle.durable_core.specs.Opening.{FailsToSync, IsOpenedTo, SettlesFirst, StoodThere}
use Rattle.durable_core.specs.Reads.{CountsError}
use Rattle.durable_core.specs.declared.errors.OpenError.{OpenError}
use Rattle.durable_core.specs.declared.errors.OpenError.TheVariants.{Damaged, DeviceFailed, NoMemory, NotAStore}
use Rattle.drda_node.specs.Asking.{AskedCore, asked_after, asked_of}
use Rattle.drda_node.specs.Calls.{HasHistory}
use Rattle.drda_node.specs.Machine.{Machine, at_start}
use Rattle.drda_node.specs.Register.{core_in, machine}
use Rattle.drda_node.specs.Serving as node
use Rattle.drda_node.specs.Serving.{Runs}
use Rattle.drda_node.specs.Stations.{RunsAlong, first_station}
use Rattle.drda_node.specs.declared.node.Node.{Node}
use Rattle.drda_node.specs.declared.serving.RunEnd.{RunEnd}

-- A disk that gives back what was written, and what is read of it opens to this state. A crash may leave other images of it: so it is
-- with the disk of a server that was killed, whose last writes were not synced.
pub record IsStore (modelled : Bool) (name : List ℕ) (d : Durable) (disk : Life) : Type 0 where
  pub modelled_is : IsTrue modelled
  pub opens : OpensTo name d disk.seen

-- the same, and a crash leaves what is read and nothing else
pub record IsSettledStore (modelled : Bool) (name : List ℕ) (d : Durable) (disk : Life) : Type 0 where
  pub store : IsStore modelled name d disk
  pub only : Only disk

-- what a core over that state is to those who ask it, where its device gives back what was written
abbrev pub core_over : Durable → Layout → ℕ → AskedCore
core_over d layout room = record { is_told = true; state = opened d; layout = layout; room = room; has_failed = false; made = none_made; calls = [] }

module _ {D : Type 0} (life : D → Life) (syncs : D → Bool → D → Type 0) where
  -- A machine that begins with the state answered the input, station by station. Groups of records were made of its calls, and
  -- perhaps one was begun in the call in which the device failed; what was made leads from the state to what is durable of it.
  -- The opening's first device call, before anything is read, is a sync, behind which a crash leaves what is read. A crash at any
  -- moment from then on leaves the state after the first of these groups; and at the end after all that was made, or with it all
  -- that was begun.
  pub record HasRun (name : List ℕ) (d : Durable) (settings : Settings) (old new : D) (input before : Option (List ℕ)) (end : RunEnd) (now : Option (List ℕ)) : Type 0 where
    -- the core that was opened: its layout and its room are those of what stood on the disk
    pub core : OnDisk D
    pub is_opened : IsOpenedTo name d core
    pub stood : StoodThere (life old).seen core
    pub settled_first : SettlesFirst life syncs old core.disk
    -- the machine over it, and the core that it left on the disk
    pub last : Machine
    pub runs : IfSome input (λ bytes. Runs (at_start settings (core_over d core.layout core.room)) bytes before end now last)
    pub left_core : OnDisk D
    pub left_disk : new ≡ left_core.disk
    pub over : last.core ≡ asked_after true last.core.calls left_core
    pub stations : IfSome input (λ bytes. RunsAlong true life (first_station (at_start settings (core_over d core.layout core.room)) core) bytes before now left_core)
    -- The calls that were asked, each with its answer, lead from the state that was opened to the last one. So the units that were
    -- committed by them have, alone and one after another, the same answers and changes, and lead to the committed store; where each
    -- change of a unit that was found in doubt lies in a write claim of it.
    pub calls_lead : CallsLead (opened d) last.core.calls last.core.state
    pub serial : IsSane (opened d).base → SerialRun d.store (committed (opened d) last.core.calls) last.core.state.base.store
    -- what it recorded
    pub groups : List (List UnitRecord)
    pub begun : List (List UnitRecord)
    pub good : AllByRecursion (AllByRecursion IsGood) (groups ++ begun)
    pub made : last.core.made ≡ record { done = groups_of groups; begun = groups_of begun }
    pub lead : replayed_from d (all_in groups) ≡ Some (durable_part last.core.state)
    pub settled : last.core.has_failed ≡ false → begun ≡ []
    pub faults : FaultsAfter true last.core.has_failed (life old).faults (life new).faults
    pub moments : LeavesOnly (life settled_first.synced) (life new) (OpensAfterSome name d (groups ++ begun))
    -- in that first sync a crash leaves what it might have left before
    pub any_moment : (image : List ℕ) → (life new).left_since (life old).moment image → Now (life old) image ⊎ OpensAfterSome name d (groups ++ begun) image
    pub left : (image : List ℕ) → Now (life new) image → OpensAfterAll name d groups begun image

-- memory was refused, the device failed, or the store's name is none of a database
abbrev pub IsRefusal : List ℕ → OpenError → Type 0
IsRefusal name NotAStore = is_rdb_name name ≡ false
IsRefusal name (Damaged at) = ⊥
IsRefusal name DeviceFailed = Unit {0}
IsRefusal name NoMemory = Unit {0}

-- Nothing was written, and a call of the device has failed exactly where that is told. Its first call was a sync, as of a run; where
-- that failed nothing was read.
pub record IsRefused {D : Type 0} (life : D → Life) (syncs : D → Bool → D → Type 0) (name : List ℕ) (error : OpenError) (old new : D) (before now : Option (List ℕ)) : Type 0 where
  pub refusal : IsRefusal name error
  pub first : SettlesFirst life syncs old new ⊎ FailsToSync syncs error old new
  pub stays : Stays (life old) (life new)
  pub cause : CountsError error (life old).faults (life new).faults
  pub silent : now ≡ before

-- a machine over a core answered the input, and core and disk are those of one that went on from there
pub record GoesFrom {D : Type 0} (modelled : Bool) (life : D → Life) (old : OnDisk D) (first : Machine) (input before : Option (List ℕ)) (disk : D) (end : RunEnd) (now : Option (List ℕ)) : Type 0 where
  pub new : OnDisk D
  pub disk_is : disk ≡ new.disk
  pub journaled : Journaled modelled (shown_on life old) (shown_on life new)
  pub last : Machine
  pub core_is : last.core ≡ asked_after modelled last.core.calls new
  pub history : HasHistory first.core last.core
  pub runs : IfSome input (λ bytes. Runs first bytes before end now last)
  pub stations : IfSome input (λ bytes. RunsAlong modelled life (first_station first old) bytes before now new)

module _ {D : Type 0} (life : D → Life) (syncs : D → Bool → D → Type 0) where
  abbrev pub RunsFrom : List ℕ → Durable → List ℕ → List ℕ → D → Option (List ℕ) → Option (List ℕ) → D → Result RunEnd OpenError → Option (List ℕ) → Type 0
  RunsFrom name d user password old input before new (Ok end) now = HasRun life syncs name d (record { user = user; password = password; rdb = name }) old new input before end now
  RunsFrom name d user password old input before new (Err error) now = IsRefused life syncs name error old new before now

  -- the disk that is handed back, and what became of the run
  abbrev pub RunsStore : List ℕ → Durable → List ℕ → List ℕ → D → Option (List ℕ) → Option (List ℕ) → D × Result RunEnd OpenError → Option (List ℕ) → Type 0
  RunsStore name d user password old input before given now = RunsFrom name d user password old input before given.0 given.1 now

-- ---- from a core on

module _ {D : Type 0} (life : D → Life) where
  pub record GivesBack (old : OnDisk D) (disk : D) (error : OpenError) (before now : Option (List ℕ)) : Type 0 where
    pub refusal : IsRefusal old.name error
    pub disk_is : disk ≡ old.disk
    pub cause : CountsError error (life old.disk).faults (life old.disk).faults
    pub silent : now ≡ before

  abbrev pub RunsOver : Bool → List ℕ → List ℕ → OnDisk D → Option (List ℕ) → Option (List ℕ) → D → Result RunEnd OpenError → Option (List ℕ) → Type 0
  RunsOver modelled user password old input before disk (Ok end) now = GoesFrom modelled life old (at_start (record { user = user; password = password; rdb = old.name }) (asked_of modelled old)) input before disk end now
  RunsOver modelled user password old input before disk (Err error) now = GivesBack old disk error before now

abbrev pub RunsCore : {D : Type 0} → Bool → (D → Life) → List ℕ → List ℕ → OnDisk D → Option (List ℕ) → Option (List ℕ) → D × Result RunEnd OpenError → Option (List ℕ) → Type 0
RunsCore modelled life user password old input before given now = RunsOver life modelled user password old input before given.0 given.1 now

abbrev pub RunsNode : {D : Type 0} {d : _} → Bool → (D → Life) → Node D d → Option (List ℕ) → Option (List ℕ) → D × Result RunEnd OpenError → Option (List ℕ) → Type 0
RunsNode modelled life node input before given now = (end : RunEnd) × (given.1 ≡ Ok end) × GoesFrom modelled life (core_in node) (machine node) input before given.0 end now

-- what had failed of both streams before and behind it: a run has a cause, and what is refused read nothing and wrote nothing
abbrev pub TellsFaults : Result RunEnd OpenError → Counts → Counts → Type 0
TellsFaults (Ok end) old new = node.TellsFaults end old new
TellsFaults (Err error) old new = new ≡ old
