-- What the program does with its words, its files, its network and its streams.
use Rattle.std.specs.Prelude.{◌≡◌, ◌≢◌, ◌⊎◌, ℕ, Bool, true, false, List, [], ◌∷◌, ◌++◌, take, codes, Option, Some, None, Result, Ok, Err}
use Rattle.std.specs.Fmt.{decimal}
use Rattle.std.specs.Io.KnownBytes.{Appends}
use Rattle.counted_streams.specs.Faults.{Counts}
use Rattle.drda_disk.specs.Disk.{Life}
use Rattle.drda_disk.specs.MemDisk.{life_of}
use Rattle.drda_disk.specs.declared.memory.MemDisk.{MemDisk}
use Rattle.session_commands.specs.Settings.{is_rdb_name}
use Rattle.half_store.specs.Fresh.{is_store_of}
use Rattle.half_store.specs.declared.header.Layout.TheVariants.{Two}
use Rattle.recovery.specs.Durable.{Durable, fresh}
use Rattle.recovery.specs.Journaled.{OnDisk}
use Rattle.drda_node.specs.Asking.{asked_of}
use Rattle.drda_node.specs.Machine.{Machine, at_start}
use Rattle.drda_node.specs.declared.serving.RunEnd.{RunEnd}
use Rattle.store_service.specs.Running.{GoesFrom, HasRun, IsSettledStore, IsStore}
use Rattle.command_line.specs.Job.{Job, Login, init, pipe, serve, in_doubt}
use Rattle.command_line.specs.Job as job
use Rattle.drda_program.specs.Deciding.{DecidesFile}
use Rattle.store_files.specs.Endings.{line_of, status_of}
use Rattle.drda_program.specs.Reporting.{result_for}
use Rattle.drda_program.specs.Streams.{RunTellsFaults, Streams, streams}
use Rattle.store_files.specs.Files.{FileCalls}
use Rattle.store_files.specs.InMemory.{syncs_in_memory}
use Rattle.store_files.specs.Opening.{IsMade, IsOver, IsTurnedBack}
use Rattle.drda_server.specs.Serving.{Seen, ServesFile, Surroundings, seen, settings_of}
use Rattle.drda_program.specs.LoggingIn.{LogsIn, net_and_out}
use Rattle.grown_stores.specs.Growing.{GrowsFile}
use Rattle.told_stores.specs.Dumps.{Dumps, ListsTables}
use Rattle.told_stores.specs.Telling.{Checks, Lists, TellsRoom}
use Rattle.store_files.specs.Stores.{RefusesName}
use Rattle.store_files.specs.declared.fault.Fault.{Fault}
use Rattle.store_files.specs.declared.fault.Fault.TheVariants.{BadArguments, BadEvent, Damaged, Device, NoMemory, NoRoom, NotAStore, NotInDoubt}

-- ---- over the store of a disk

-- a machine of the tables and units in doubt that a core has
abbrev pub machine_over : {D : Type 0} → Bool → Login → OnDisk D → Machine
machine_over modelled login core = at_start (settings_of login core.name) (asked_of modelled core)

module _ {D : Type 0} (modelled : Bool) (life : D → Life) where
  -- the machine of a core has run over the input, station by station, with a last flush; all that the core did is journaled, and what is
  -- told of both streams has a cause
  pub record RunsOver (core : OnDisk D) (login : Login) (input : Option (List ℕ)) (before : Streams) (outcome : Result (Unit {0}) Fault) (now : Streams) : Type 0 where
    pub end : RunEnd
    pub is_flushed : Bool
    pub reported : outcome ≡ result_for end is_flushed
    pub left : D
    pub goes : GoesFrom modelled life core (machine_over modelled login core) input before.written left end now.written
    pub cause : RunTellsFaults end is_flushed before.counted now.counted

  -- no node was started over a core, or it ran
  abbrev pub AnswersOver : OnDisk D → Login → Option (List ℕ) → Streams → Result (Unit {0}) Fault → Streams → Type 0
  AnswersOver core login input before outcome now = ((fault : Fault) × (outcome ≡ Err fault) × RefusesName core.name fault × (now ≡ before)) ⊎ RunsOver core login input before outcome now

  -- The run over the store that a disk is. Of a disk that gives back what was written, and of which what is read opens to a state, it
  -- is all that is promised of a run over a store.
  pub record RunsOn (syncs : D → Bool → D → Type 0) (disk : D) (login : Login) (input : Option (List ℕ)) (before : Streams) (outcome : Result (Unit {0}) Fault) (now : Streams) : Type 0 where
    pub core : OnDisk D
    pub over : IsOver modelled life disk core
    pub ran : RunsOver core login input before outcome now
    pub promise : (name : List ℕ) (d : Durable) → IsStore modelled name d (life disk) → HasRun life syncs name d (settings_of login name) disk ran.left input before.written ran.end now.written

-- ---- over a store in memory

-- memory was refused, or the memory disk failed for want of it, before the first event: nothing is written
abbrev pub IsNotBegun : Result (Unit {0}) Fault → Streams → Streams → Type 0
IsNotBegun outcome before now = ((outcome ≡ Err NoMemory) ⊎ (outcome ≡ Err Device)) × (now ≡ before)

-- The run over a store in memory that was just made: its disk gives back what was written, and opens to no tables and no units in
-- doubt. So it has all that is promised of a run over a store. It is of layout 2.
pub record RunsFresh (rdb : List ℕ) (login : Login) (input : Option (List ℕ)) (before : Streams) (outcome : Result (Unit {0}) Fault) (now : Streams) : Type 0 where
  pub disk : MemDisk
  pub store : IsSettledStore true rdb fresh (life_of disk)
  pub run : RunsOn true life_of syncs_in_memory disk login input before outcome now
  pub layout : run.core.layout ≡ Two

-- the run did not begin, or it ended; a name that no database has is refused
abbrev pub PipesInMemory : List ℕ → Login → Option (List ℕ) → Streams → Result (Unit {0}) Fault → Streams → Type 0
PipesInMemory rdb login input before outcome now =
    ((is_rdb_name rdb ≡ false) × (outcome ≡ Err BadArguments) × (now ≡ before))
    ⊎ ((is_rdb_name rdb ≡ true) × (IsNotBegun outcome before now ⊎ RunsFresh rdb login input before outcome now))

-- ---- over the disk of a path

module _ {D : Type 0} (modelled : Bool) (life : D → Life) where
  module _ {F : Type 0} (calls : FileCalls F D) where
    -- a store is made and its size is said; a size or a name that no store has is refused before any file is made
    abbrev pub Makes : List ℕ → ℕ → List ℕ → F → Option (List ℕ) → Result (Unit {0}) Fault → F → Option (List ℕ) → Type 0
    Makes path size rdb files before (Ok done) files' now =
        (is_store_of size rdb ≡ true) × IsMade modelled life calls files path size rdb files' × Appends before now (codes "formatted " ++ decimal size ++ 10 ∷ [])
    Makes path size rdb files before (Err BadArguments) files' now = (is_store_of size rdb ≡ false) × (files' ≡ files) × (now ≡ before)
    Makes path size rdb files before (Err Device) files' now = is_store_of size rdb ≡ true
    Makes path size rdb files before (Err NoMemory) files' now = (is_store_of size rdb ≡ true) × (now ≡ before)
    Makes path size rdb files before (Err NotAStore) files' now = ⊥
    Makes path size rdb files before (Err (Damaged at)) files' now = ⊥
    Makes path size rdb files before (Err BadEvent) files' now = ⊥
    Makes path size rdb files before (Err NotInDoubt) files' now = ⊥
    Makes path size rdb files before (Err NoRoom) files' now = ⊥

    -- the run over the store of a path, if there is one
    abbrev pub PipesFile : (D → Bool → D → Type 0) → List ℕ → Login → F → Option (List ℕ) → Streams → Result (Unit {0}) Fault → F → Streams → Type 0
    PipesFile syncs path login files input before outcome files' now = ((fault : Fault) × (outcome ≡ Err fault) × IsTurnedBack modelled life calls files path fault files' × (now ≡ before))
        ⊎ ((disk : D) × calls.opens files path (Some disk) files' × RunsOn modelled life syncs disk login input before outcome now)

    -- over the store of a path, or over one in memory
    abbrev pub PipesOver : (D → Bool → D → Type 0) → Option (List ℕ) → List ℕ → Login → F → Option (List ℕ) → Streams → Result (Unit {0}) Fault → F → Streams → Type 0
    PipesOver syncs None rdb login files input before outcome files' now = PipesInMemory rdb login input before outcome now × (files' ≡ files)
    PipesOver syncs (Some path) rdb login files input before outcome files' now = PipesFile syncs path login files input before outcome files' now

-- the line that tells the version and the logic
abbrev pub version_line : List ℕ
version_line = codes "drdad 0.10, proved by Rattle's logic dac8208d650f15bf\n"

abbrev pub TellsVersion : Option (List ℕ) → Result (Unit {0}) Fault → Option (List ℕ) → Type 0
TellsVersion before (Ok done) now = Appends before now version_line
TellsVersion before (Err fault) now = fault ≡ Device

-- ---- what words ask for

module _ {F D N L S W : Type 0} (around : Surroundings F D N L S W) (syncs : D → Bool → D → Type 0) where
  abbrev pub Does : Option Job → Option (List ℕ) → Counts → Seen F N → Result (Unit {0}) Fault → Counts → Seen F N → Type 0
  Does None input counted old outcome counted' new = (outcome ≡ Err BadArguments) × (new ≡ old)
  Does (Some (init path size rdb)) input counted old outcome counted' new = Makes around.modelled around.life around.files path size rdb old.files old.out outcome new.files new.out × (new.net ≡ old.net)
  Does (Some (pipe path rdb source)) input counted old outcome counted' new = LogsIn around.files source old.files (streams old.out counted) outcome new.files (streams new.out counted') (λ login files.
      PipesOver around.modelled around.life around.files syncs path rdb login files input (streams old.out counted) outcome new.files (streams new.out counted')) × (new.net ≡ old.net)
  Does (Some (serve path port source options)) input counted old outcome counted' new = LogsIn around.files source old.files (net_and_out old.net old.out) outcome new.files (net_and_out new.net new.out) (λ login files.
      ServesFile around path port login options (seen files old.net old.out) outcome new)
  Does (Some (in_doubt path)) input counted old outcome counted' new = Lists around.modelled around.life around.files path old.files old.out outcome new.files new.out × (new.net ≡ old.net)
  Does (Some (job.decide path xid d)) input counted old outcome counted' new = DecidesFile around.modelled around.life around.files path xid d old.files old.out outcome new.files new.out × (new.net ≡ old.net)
  Does (Some (job.room path)) input counted old outcome counted' new = TellsRoom around.modelled around.life around.files path old.files old.out outcome new.files new.out × (new.net ≡ old.net)
  Does (Some (job.check path)) input counted old outcome counted' new = Checks around.modelled around.life around.files path old.files old.out outcome new.files new.out × (new.net ≡ old.net)
  Does (Some (job.tables path)) input counted old outcome counted' new = ListsTables around.modelled around.life around.files path old.files old.out outcome new.files new.out × (new.net ≡ old.net)
  Does (Some (job.dump path)) input counted old outcome counted' new = Dumps around.modelled around.life around.files path old.files old.out outcome new.files new.out × (new.net ≡ old.net)
  Does (Some (job.grow path into size)) input counted old outcome counted' new = GrowsFile around.modelled around.life around.files path into size old.files old.out outcome new.files new.out × (new.net ≡ old.net)
  Does (Some job.version) input counted old outcome counted' new = TellsVersion old.out outcome new.out × (new.files ≡ old.files) × (new.net ≡ old.net)

  -- The words, the input, what was counted of the input and the output, and what is seen before and after: the job was done so, or memory was refused before it was known.
  -- Standard error holds text for people, which is only where the words ask for nothing, or for what none has, and where a file or
  -- a port can't be had, and behind it the line of what is reported, or as much of each as could be written.
  pub record Exits (said : Option Job) (input : Option (List ℕ)) (counted : Counts) (old : Seen F N) (status : ℕ) (counted' : Counts) (new : Seen F N) (err err' : Option (List ℕ)) : Type 0 where
    pub outcome : Result (Unit {0}) Fault
    pub does : ((outcome ≡ Err NoMemory) × (new ≡ old)) ⊎ Does said input counted old outcome counted' new
    pub status_is : status ≡ status_of outcome
    pub told : List ℕ
    pub told_only : said ≢ None → outcome ≢ Err Device → outcome ≢ Err BadArguments → told ≡ []
    pub count : ℕ
    pub says : Appends err err' (told ++ take count (line_of outcome))
