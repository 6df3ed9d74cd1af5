-- The disk of a path that was opened.
use Rattle.std.proofs.Common.{ℕ, Bool, inl, inr, List, Some, Result, Ok}
use Rattle.drda_disk.specs.Disk.{Life}
use Rattle.recovery.specs.Journaled.{OnDisk}
use Rattle.durable_core.specs.Opening.{SettlesFirst}
use Rattle.store_files.specs.Files.{FileCalls}
use Rattle.store_files.specs.Opening.{IsOver, OpensSettled, OpensStore}
use Rattle.store_files.specs.declared.fault.Fault.{Fault}

module _ {D : Type 0} (modelled : Bool) (life : D → Life) {F : Type 0} (calls : FileCalls F D) where
  pub found : (files : F) (path : List ℕ) (core : OnDisk D) (files' : F) → OpensStore modelled life calls files path (Ok core) files' → (disk : D) × calls.opens files path (Some disk) files' × IsOver modelled life disk core
  found files path core files' (inl (call, clash)) = absurd (cc clash)
  found files path core files' (inr there) = there

  module _ (syncs : D → Bool → D → Type 0) (files : F) (path : List ℕ) where
    -- and that its first call was a sync
    pub found_settled : (core : OnDisk D) (files' : F) → OpensSettled modelled life calls syncs files path (Ok core) files' → (disk : D) × calls.opens files path (Some disk) files' × IsOver modelled life disk core × SettlesFirst life syncs disk core.disk
    found_settled core files' (inl (call, clash)) = absurd (cc clash)
    found_settled core files' (inr there) = there

    -- of which less is said
    pub opens_still : (r : Result (OnDisk D) Fault) (files' : F) → OpensSettled modelled life calls syncs files path r files' → OpensStore modelled life calls files path r files'
    opens_still r files' (inl none) = inl none
    opens_still r files' (inr (disk, call, is, settled)) = inr (disk, call, is)
