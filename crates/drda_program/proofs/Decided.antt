-- A heuristic decision over the store of a path.
use Rattle.std.proofs.Common.{◌≡◌, refl, inl, inr, ℕ, Bool, List, codes, Option, IfErr, OnOk, Result, Ok, Err}
use Rattle.std.specs.Io.KnownBytes.{Appends}
use Rattle.drda_disk.specs.Disk.{Life}
use Rattle.half_store.specs.declared.header.Layout.TheVariants.{One, Two}
use Rattle.xa_manager.specs.declared.due.Decision.{Decision}
use Rattle.recovery.specs.Journaled.{OnDisk}
use Rattle.drda_node.specs.Asking.{IsJournaled}
use Rattle.drda_program.specs.Deciding.{DecidesFile, Ends, Migrates, Says, Settles}
use Rattle.store_files.specs.Files.{FileCalls}
use Rattle.store_files.specs.Opening.{OpensStore}
use Rattle.store_files.specs.declared.fault.Fault.{Fault}
use Rattle.store_files.specs.declared.fault.Fault.TheVariants.{Device}
use Rattle.store_files.proofs.Found.{found}

-- ---- the core

module _ {D : Type 0} (modelled : Bool) (life : D → Life) (xid : List ℕ) (d : Decision) (core left : OnDisk D) where
  pub not_migrated : (fault : Fault) (r : Result (Unit {0}) Fault) → r ≡ Err fault → core.layout ≡ One → Migrates modelled life core (Err fault) left → Ends modelled life xid d core r left
  not_migrated fault r is old migrates = record { either = inr (fault, is, old, migrates) }

  pub migrated : (ready : OnDisk D) (r : Result (Unit {0}) Fault) → core.layout ≡ One → Migrates modelled life core (Ok tt) ready → Settles life xid d ready r left → Ends modelled life xid d core r left
  migrated ready r old migrates settles = record { either = inl (ready, inr (old, migrates), settles) }

  pub of_new_layout : (r : Result (Unit {0}) Fault) → core.layout ≡ Two → Settles life xid d core r left → Ends modelled life xid d core r left
  of_new_layout r new settles = record { either = inl (core, inl (new, refl), settles) }

-- ---- what is said

-- that it is decided is said, or the stream has failed
pub said : (before now : Option (List ℕ)) (r : Result (Unit {0}) Fault) → OnOk r (Appends before now (codes "decided\n")) → IfErr r (λ fault. fault ≡ Device) → Says (Ok tt) before r now
said before now (Ok done) wrote cause = wrote
said before now (Err fault) wrote cause = cause

-- ---- over the store of a path

module _ {F D : Type 0} (modelled : Bool) (life : D → Life) (calls : FileCalls F D) (path xid : List ℕ) (d : Decision) (files files' : F) (core left : OnDisk D) (opened : OpensStore modelled life calls files path (Ok core) files')
    (journaled : IsJournaled modelled life core left) where
  pub decides : (result outcome : Result (Unit {0}) Fault) (before now : Option (List ℕ)) → Ends modelled life xid d core result left → Says result before outcome now → DecidesFile modelled life calls path xid d files before outcome files' now
  decides result outcome before now ends says =
      let there = found modelled life calls files path core files' opened in
      inr (there.0, there.1, record { core = core; over = there.2; result = result; left = left; ends = ends; journaled = journaled; says = says })
