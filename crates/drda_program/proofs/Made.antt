-- A store that is made in a new file.
use Rattle.std.proofs.Common.{◌≡◌, refl, sym, subst, ℕ, Bool, true, false, List, [], ◌∷◌, ◌++◌, codes, Option, IfErr, Result, Ok, Err}
use Rattle.std.specs.Fmt.{decimal}
use Rattle.std.specs.Io.KnownBytes.{Appends, Keeps}
use Rattle.drda_disk.specs.Disk.{Life}
use Rattle.half_store.specs.Fresh.{is_store_of}
use Rattle.drda_program.proofs.Flushing.{appended_kept}
use Rattle.store_files.specs.Files.{FileCalls}
use Rattle.store_files.specs.Opening.{IsMade}
use Rattle.drda_program.specs.Program.{Makes}
use Rattle.store_files.specs.Stores.{MakesFile}
use Rattle.store_files.specs.declared.fault.Fault.{Fault}
use Rattle.store_files.specs.declared.fault.Fault.TheVariants.{BadArguments, BadEvent, Damaged, Device, NoMemory, NoRoom, NotAStore, NotInDoubt}

module _ {F D : Type 0} (modelled : Bool) (life : D → Life) (calls : FileCalls F D) (path : List ℕ) (size : ℕ) (rdb : List ℕ) (files files' : F) where
  pub said : (before mid now : Option (List ℕ)) (r : Result (Unit {0}) Fault) → is_store_of size rdb ≡ true → IsMade modelled life calls files path size rdb files' → IfErr r (λ fault. fault ≡ Device)
      → Appends before mid (codes "formatted " ++ decimal size ++ 10 ∷ []) → Keeps mid now → Makes modelled life calls path size rdb files before r files' now
  said before mid now (Ok done) is made cause a k = (is, made, appended_kept before mid now (codes "formatted " ++ decimal size ++ 10 ∷ []) a k)
  said before mid now (Err fault) is made cause a k = subst (λ (f : Fault). Makes modelled life calls path size rdb files before (Err f) files' now) (sym cause) is

  -- nothing is said where no file was made
  pub not_made : (before : Option (List ℕ)) (fault : Fault) → MakesFile size rdb (Err fault) → (is_store_of size rdb ≡ false → files' ≡ files) → Makes modelled life calls path size rdb files before (Err fault) files' before
  not_made before BadArguments is same = (is, same is, refl)
  not_made before Device is same = is
  not_made before NotAStore is same = absurd is
  not_made before (Damaged at) is same = absurd is
  not_made before BadEvent is same = absurd is
  not_made before NoMemory is same = (is, refl)
  not_made before NotInDoubt is same = absurd is
  not_made before NoRoom is same = absurd is
