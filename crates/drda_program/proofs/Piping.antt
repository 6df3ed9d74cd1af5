-- Event records over a store that is just made.
use Rattle.std.proofs.Common.{◌≡◌, ◌⊎◌, ◌∙◌, refl, sym, subst, inl, inr, ℕ, Bool, true, false, List, Option, Result, Ok, Err}
use Rattle.drda_disk.specs.MemDisk.{life_of}
use Rattle.drda_disk.specs.declared.memory.MemDisk.{MemDisk}
use Rattle.session_commands.specs.Settings.{is_rdb_name}
use Rattle.half_store.specs.Fresh.{is_name}
use Rattle.recovery.specs.Journaled.{OnDisk}
use Rattle.recovery.specs.Openings.{ImagesAreSound}
use Rattle.recovery.specs.StepLaws.{OpeningsAreKept}
use Rattle.store_service.proofs.Stores.{SerialLaws}
use Rattle.command_line.specs.Job.{Login}
use Rattle.store_files.proofs.Names.{both, names_alike}
use Rattle.store_files.specs.InMemory.{BeginsFresh, IsFreshOver, syncs_in_memory}
use Rattle.drda_program.proofs.Ran.{runs_on}
use Rattle.drda_program.specs.Program.{AnswersOver, IsNotBegun, PipesInMemory, RunsFresh}
use Rattle.drda_program.specs.Streams.{Streams}
use Rattle.store_files.specs.Stores.{RefusesName}
use Rattle.store_files.specs.declared.fault.Fault.{Fault}
use Rattle.store_files.specs.declared.fault.Fault.TheVariants.{BadArguments, BadEvent, Damaged, Device, NoMemory, NoRoom, NotAStore, NotInDoubt}

-- the name was good, so what is refused is memory
pub refused_at_start : (name : List ℕ) (before : Streams) (fault : Fault) → is_rdb_name name ≡ true → RefusesName name fault → IsNotBegun (Err fault) before before
refused_at_start name before BadArguments is refused = absurd refused
refused_at_start name before Device is refused = absurd refused
refused_at_start name before NotAStore is refused = both (is_rdb_name name) is refused
refused_at_start name before (Damaged at) is refused = absurd refused
refused_at_start name before BadEvent is refused = absurd refused
refused_at_start name before NoMemory is refused = (inl refl, refl)
refused_at_start name before NotInDoubt is refused = absurd refused
refused_at_start name before NoRoom is refused = absurd refused

-- what a store's name is, a database's is
as_rdb_name : (name : List ℕ) (b : Bool) → is_name name ≡ b → is_rdb_name name ≡ b
as_rdb_name name b is = sym (names_alike name) ∙ is

pub not_piped : (rdb : List ℕ) (login : Login) (input : Option (List ℕ)) (before : Streams) (fault : Fault) → BeginsFresh rdb (Err fault) → PipesInMemory rdb login input before (Err fault) before
not_piped rdb login input before BadArguments is = inl (as_rdb_name rdb false is, refl, refl)
not_piped rdb login input before Device is = inr (as_rdb_name rdb true is, inl (inr refl, refl))
not_piped rdb login input before NotAStore is = absurd is
not_piped rdb login input before (Damaged at) is = absurd is
not_piped rdb login input before BadEvent is = absurd is
not_piped rdb login input before NoMemory is = inr (as_rdb_name rdb true is, inl (inl refl, refl))
not_piped rdb login input before NotInDoubt is = absurd is
not_piped rdb login input before NoRoom is = absurd is

module _ (sound : ImagesAreSound) (kept : OpeningsAreKept) (laws : SerialLaws) (rdb : List ℕ) (login : Login) (input : Option (List ℕ)) (before now : Streams) (outcome : Result (Unit {0}) Fault) (core : OnDisk MemDisk) where
  -- over the store that was just made
  by_answer : (disk : MemDisk) → is_rdb_name rdb ≡ true → IsFreshOver rdb disk core → AnswersOver true life_of core login input before outcome now → IsNotBegun outcome before now ⊎ RunsFresh rdb login input before outcome now
  unfolding runs_on
  by_answer disk is made (inl (fault, reported, refused, silent)) =
      inl (subst (λ (w : Streams). IsNotBegun outcome before w) (sym silent)
      (subst (λ (r : Result (Unit {0}) Fault). IsNotBegun r before before) (sym reported)
      (refused_at_start rdb before fault is (subst (λ (n : List ℕ). RefusesName n fault) made.finds.named refused))))
  by_answer disk is made (inr ran) = inr (record {
    disk = disk;
    store = record { store = record { modelled_is = refl; opens = made.opens }; only = made.only };
    run = runs_on true life_of sound kept laws syncs_in_memory login input before now outcome disk core made.over made.settles ran;
    layout = made.layout;
  })

  pub piped : BeginsFresh rdb (Ok core) → AnswersOver true life_of core login input before outcome now → PipesInMemory rdb login input before outcome now
  piped begun answers = let is = as_rdb_name rdb true begun.0 in inr (is, by_answer begun.1 is begun.2 answers)
