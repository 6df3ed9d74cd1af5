-- What a crash leaves of a run.
use Rattle.std.specs.Prelude.{◌≡◌, ◌≢◌, ◌⊎◌, ℕ, Bool, List, [], ◌++◌, Some, Result, Ok, Err}
use Rattle.core_model.specs.Step.{CoreState}
use Rattle.drda_disk.specs.Disk.{Life, Now}
use Rattle.drda_disk.specs.FuseDisk as fuse
use Rattle.drda_disk.specs.FuseDisk.{inner_of, left_of}
use Rattle.drda_disk.specs.MemDisk.{life_of, read_of, synced_of}
use Rattle.drda_disk.specs.declared.fuse.FuseDisk.{FuseDisk}
use Rattle.drda_disk.specs.declared.memory.MemDisk.{MemDisk}
use Rattle.recovery.specs.Durable.{Durable, replayed_from}
use Rattle.recovery.specs.Journaled.{all_in}
use Rattle.recovery.specs.Opens.{OpensTo}
use Rattle.recovery.specs.Part.{opened}
use Rattle.session_commands.specs.Settings.{Settings}
use Rattle.drda_node.specs.declared.serving.RunEnd.{RunEnd}
use Rattle.durable_core.specs.declared.errors.OpenError.{OpenError}
use Rattle.store_service.specs.Running.{HasRun}

-- the life of a disk in memory whose device fails after so many calls
abbrev pub fused : FuseDisk MemDisk → Life
fused f = fuse.life_of life_of f

-- its syncs, of which those that the fuse passes on are the disk's
abbrev pub fused_syncs : FuseDisk MemDisk → Bool → FuseDisk MemDisk → Type 0
fused_syncs f ok f' = left_of f ≢ Some 0 → (read_of (inner_of f') ≡ read_of (inner_of f)) × (synced_of (inner_of f') ≡ read_of (inner_of f))

-- the image that is picked of those that a crash leaves of a disk in memory: none of the writes since the last sync, all of them,
-- or any other one
pub record IsPicked (pick : ℕ) (left : FuseDisk MemDisk) (image : List ℕ) : Type 0 where
  pub now : Now (fused left) image
  pub none : pick ≡ 0 → image ≡ synced_of (inner_of left)
  pub all : pick ≡ 1 → image ≡ read_of (inner_of left)

-- A machine that begins with the state ran over the disk behind its fuse. The image that is picked opens to the state after all that
-- was made, or with it all that was begun; and that is what is told.
pub record HasSurvived (name : List ℕ) (d : Durable) (settings : Settings) (disk : MemDisk) (calls pick : ℕ) (input : List ℕ) (end : RunEnd) (told : CoreState) : Type 0 where
  pub first : FuseDisk MemDisk
  pub inside : inner_of first ≡ disk
  pub fails_after : left_of first ≡ Some calls
  pub left : FuseDisk MemDisk
  pub replies : List ℕ
  pub run : HasRun fused fused_syncs name d settings first left (Some input) (Some []) end (Some replies)
  pub image : List ℕ
  pub picked : IsPicked pick left image
  pub state : Durable
  pub opens : OpensTo name state image
  pub leads : (replayed_from d (all_in run.groups) ≡ Some state) ⊎ (replayed_from d (all_in (run.groups ++ run.begun)) ≡ Some state)
  pub told_is : told ≡ opened state

-- by how the run ended; where it was refused, the state is as it was
abbrev pub Survives : List ℕ → Durable → List ℕ → List ℕ → MemDisk → ℕ → ℕ → List ℕ → Result RunEnd OpenError → CoreState → Type 0
Survives name d user password disk calls pick input (Ok end) told = HasSurvived name d (record { user = user; password = password; rdb = name }) disk calls pick input end told
Survives name d user password disk calls pick input (Err error) told = told ≡ opened d
