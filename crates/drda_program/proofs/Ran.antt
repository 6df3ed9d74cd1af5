-- A run over the store of a path.
use Rattle.std.proofs.Common.{◌≡◌, ◌+◌, ◌∙◌, ap, ap₂, arith, inl, inr, ℕ, Bool, List, Option, Some, Result, Ok, Err}
use Rattle.counted_streams.specs.Faults.{Counts}
use Rattle.drda_disk.specs.Disk.{Life}
use Rattle.recovery.specs.Journaled.{OnDisk}
use Rattle.recovery.specs.Openings.{ImagesAreSound}
use Rattle.recovery.specs.StepLaws.{OpeningsAreKept}
use Rattle.durable_core.specs.Opening.{SettlesFirst}
use Rattle.durable_core.specs.declared.errors.OpenError.{OpenError}
use Rattle.durable_core.specs.declared.errors.OpenError.TheVariants as error
use Rattle.drda_node.specs.declared.serving.RunEnd.{RunEnd}
use Rattle.store_service.specs.Running as store
use Rattle.store_service.specs.Running.{GivesBack}
use Rattle.store_service.proofs.Stores.{SerialLaws, runs_over}
use Rattle.command_line.specs.Job.{Login}
use Rattle.store_files.proofs.Found.{found_settled}
use Rattle.drda_program.proofs.Flushing.{goes_kept}
use Rattle.store_files.specs.Endings.{fault_for}
use Rattle.store_files.specs.Files.{FileCalls}
use Rattle.store_files.specs.Opening.{IsOver, OpensSettled}
use Rattle.drda_program.specs.Program.{AnswersOver, PipesFile, RunsOn, RunsOver, machine_over}
use Rattle.drda_program.specs.Reporting.{Reports}
use Rattle.drda_program.specs.Streams.{Streams, streams}
use Rattle.store_files.specs.Stores.{RefusesName}
use Rattle.store_files.specs.declared.fault.Fault.{Fault}

module _ {D : Type 0} (modelled : Bool) (life : D → Life) where
  -- no call of a device was made, so that it has not failed
  refuses_so : (core : OnDisk D) (disk : D) (e : OpenError) (before now : Option (List ℕ)) → GivesBack life core disk e before now → RefusesName core.name (fault_for e)
  refuses_so core disk error.NotAStore before now g = g.refusal
  refuses_so core disk (error.Damaged at) before now g = absurd g.refusal
  refuses_so core disk error.DeviceFailed before now g = let more : (life core.disk).faults ≡ (life core.disk).faults + 1 = g.cause in absurd (omega (arith, more))
  refuses_so core disk error.NoMemory before now g = tt

  -- a run over a core, and its last flush
  ran_over : (core : OnDisk D) (login : Login) (input : Option (List ℕ)) (before : Streams) (mid now : Option (List ℕ)) (behind : Counts) (faults' : ℕ) (disk : D) (r : Result RunEnd OpenError) (outcome : Result (Unit {0}) Fault)
      → store.RunsOver life modelled login.user login.password core input before.written disk r mid → store.TellsFaults r before.counted behind → Reports r mid behind.write_faults outcome now faults'
      → AnswersOver modelled life core login input before outcome (streams now (record { reads = behind.reads; read_faults = behind.read_faults; write_faults = faults' }))
  ran_over core login input before mid now behind faults' disk (Ok end) outcome goes cause (kept, (is_flushed, reported, flush)) = inr (record {
    end = end;
    is_flushed = is_flushed;
    reported = reported;
    left = disk;
    goes = goes_kept modelled life core (machine_over modelled login core) input before.written mid now disk end kept goes;
    cause = record { faults = behind.write_faults; cause = cause; flush = flush };
  })
  ran_over core login input before mid now behind faults' disk (Err e) outcome given same_counts (same, reported, no_more) =
      inl (fault_for e, reported, refuses_so core disk e before.written mid given, ap₂ streams (same ∙ given.silent) (ap (λ (n : ℕ). record { reads = behind.reads; read_faults = behind.read_faults; write_faults = n }) no_more ∙ same_counts))

  pub answered : (core : OnDisk D) (login : Login) (input : Option (List ℕ)) (before : Streams) (mid now : Option (List ℕ)) (behind : Counts) (faults' : ℕ) (given : D × Result RunEnd OpenError) (outcome : Result (Unit {0}) Fault)
      → store.RunsCore modelled life login.user login.password core input before.written given mid → store.TellsFaults given.1 before.counted behind → Reports given.1 mid behind.write_faults outcome now faults'
      → AnswersOver modelled life core login input before outcome (streams now (record { reads = behind.reads; read_faults = behind.read_faults; write_faults = faults' }))
  answered core login input before mid now behind faults' given outcome ran cause reports = ran_over core login input before mid now behind faults' given.0 given.1 outcome ran cause reports

  -- a run over a core that was opened over a disk, by a first call that was a sync
  module _ (sound : ImagesAreSound) (kept : OpeningsAreKept) (laws : SerialLaws) (syncs : D → Bool → D → Type 0) (login : Login) (input : Option (List ℕ)) (before now : Streams) (outcome : Result (Unit {0}) Fault) (disk : D) (core : OnDisk D)
      (over : IsOver modelled life disk core) (settles : SettlesFirst life syncs disk core.disk) where
    unfoldable pub runs_on : RunsOver modelled life core login input before outcome now → RunsOn modelled life syncs disk login input before outcome now
    runs_on ran = record {
      core = core;
      over = over;
      ran = ran;
      promise = λ name d is_store.
          runs_over modelled life syncs sound kept laws name d login.user login.password disk is_store core (over.finds name d is_store.modelled_is is_store.opens) (over.stood is_store.modelled_is) settles over.stays over.quiet
          input before.written now.written ran.left (Ok ran.end) ran.goes;
    }

    module _ {F : Type 0} (calls : FileCalls F D) (path : List ℕ) (files files' : F) where
      pub by_answer : calls.opens files path (Some disk) files' → AnswersOver modelled life core login input before outcome now → PipesFile modelled life calls syncs path login files input before outcome files' now
      by_answer opens (inl (fault, is, refused, silent)) = inl (fault, is, inr (disk, opens, core, over, refused), silent)
      by_answer opens (inr ran) = inr (disk, opens, runs_on ran)

  module _ {F : Type 0} (calls : FileCalls F D) (sound : ImagesAreSound) (kept : OpeningsAreKept) (laws : SerialLaws) (syncs : D → Bool → D → Type 0) (path : List ℕ) (login : Login) (files files' : F) (input : Option (List ℕ)) (before now : Streams)
      (outcome : Result (Unit {0}) Fault) (core : OnDisk D) where
    pub piped_file : OpensSettled modelled life calls syncs files path (Ok core) files' → AnswersOver modelled life core login input before outcome now → PipesFile modelled life calls syncs path login files input before outcome files' now
    piped_file opened answers =
        let there = found_settled modelled life calls syncs files path core files' opened in
        by_answer sound kept laws syncs login input before now outcome there.0 core there.2 there.3 calls path files files' there.1 answers
