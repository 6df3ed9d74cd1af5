-- A text of the store of a path.
use Rattle.std.proofs.Common.{◌≡◌, inl, inr, ℕ, List, Option, Some, IfErr, Result, Ok, Err, OnOk, refl}
use Rattle.std.specs.Io.KnownBytes.{Appends}
use Rattle.drda_disk.specs.Disk.{Life}
use Rattle.std.specs.Prelude.{Bool}
use Rattle.store_files.specs.Files.{FileCalls}
use Rattle.told_stores.specs.Telling.{Tells}
use Rattle.store_files.specs.declared.fault.Fault.{Fault}
use Rattle.store_files.specs.declared.fault.Fault.TheVariants.{Device, NoMemory}

module _ {F D : Type 0} (modelled : Bool) (life : D → Life) (calls : FileCalls F D) (IsOf : D → List ℕ → Type 0) (path : List ℕ) (files files' : F) (disk : D) (opens : calls.opens files path (Some disk) files') where
  pub told : (text : List ℕ) (before now : Option (List ℕ)) (r : Result (Unit {0}) Fault) → IsOf disk text → OnOk r (Appends before now text) → IfErr r (λ fault. fault ≡ Device) → Tells modelled life calls IsOf path files before r files' now
  told text before now (Ok done) is wrote cause = (disk, opens, text, is, wrote)
  told text before now (Err fault) is wrote cause = inr (disk, opens, inr cause)

  pub no_memory : (before : Option (List ℕ)) (fault : Fault) → fault ≡ NoMemory → Tells modelled life calls IsOf path files before (Err fault) files' before
  no_memory before fault is = inr (disk, opens, inl (is, refl))
