-- A run over a disk in memory behind a fuse, a crash, and an opening.
use Rattle.std.proofs.Common.{◌≡◌, inl, inr, ℕ, true, List, [], Option, Some, Result, Ok, Err, sym, ◌∙◌, subst}
use Rattle.std.specs.Prelude.{IfErr, IfOk}
use Rattle.drda_disk.specs.MemDisk.{life_of}
use Rattle.drda_disk.specs.FuseDisk.{inner_of, left_of}
use Rattle.drda_disk.specs.declared.fuse.FuseDisk.{FuseDisk}
use Rattle.drda_disk.specs.declared.memory.MemDisk.{MemDisk}
use Rattle.core_model.specs.Step.{CoreState}
use Rattle.recovery.specs.Durable.{Durable}
use Rattle.recovery.specs.Part.{opened}
use Rattle.recovery.specs.Opens.{OpensTo}
use Rattle.recovery.specs.Journaled.{OpensAfterAll}
use Rattle.drda_node.specs.declared.serving.RunEnd.{RunEnd}
use Rattle.durable_core.specs.declared.errors.OpenError.{OpenError}
use Rattle.durable_core.specs.Reads.{IsExcused}
use Rattle.store_service.specs.Running.{HasRun, IsRefusal, IsSettledStore, RunsFrom}
use Rattle.store_service.specs.Surviving.{IsPicked, Survives, fused, fused_syncs}
use Rattle.store_service.proofs.Stores.{refusal_of}

-- a fuse changes nothing of what is read, or left by a crash
pub behind_fuse : (name : List ℕ) (d : Durable) (disk : MemDisk) (f : FuseDisk MemDisk) → inner_of f ≡ disk → IsSettledStore true name d (life_of disk) → IsSettledStore true name d (fused f)
behind_fuse name d disk f is store =
    let inside : IsSettledStore true name d (life_of (inner_of f)) = subst (λ (m : MemDisk). IsSettledStore true name d (life_of m)) (sym is) store in
    record { store = record { modelled_is = inside.store.modelled_is; opens = inside.store.opens }; only = inside.only }

-- the state that an image opens to after it all
pub record LeftState (name : List ℕ) (d : Durable) (user password : List ℕ) (disk : MemDisk) (calls pick : ℕ) (input image : List ℕ) (r : Result RunEnd OpenError) : Type 0 where
  pub state : Durable
  pub opens : OpensTo name state image
  pub survives : (told : CoreState) → told ≡ opened state → Survives name d user password disk calls pick input r told

module _ (name : List ℕ) (d : Durable) (user password input : List ℕ) (disk : MemDisk) (calls pick : ℕ) (f left : FuseDisk MemDisk) (inside : inner_of f ≡ disk) (fails_after : left_of f ≡ Some calls) (store : IsSettledStore true name d (fused f)) (replies image : List ℕ)
    (picked : IsPicked pick left image) where
  ran_to : (end : RunEnd) (ran : HasRun fused fused_syncs name d (record { user = user; password = password; rdb = name }) f left (Some input) (Some []) end (Some replies)) → OpensAfterAll name d ran.groups ran.begun image
      → LeftState name d user password disk calls pick input image (Ok end)
  ran_to end ran (inl o) = record {
    state = o.state;
    opens = o.opens;
    survives = λ told is. record { first = f; inside = inside; fails_after = fails_after; left = left; replies = replies; run = ran; image = image; picked = picked; state = o.state; opens = o.opens; leads = inl o.leads; told_is = is };
  }
  ran_to end ran (inr o) = record {
    state = o.state;
    opens = o.opens;
    survives = λ told is. record { first = f; inside = inside; fails_after = fails_after; left = left; replies = replies; run = ran; image = image; picked = picked; state = o.state; opens = o.opens; leads = inr o.leads; told_is = is };
  }

  pub left_state : (r : Result RunEnd OpenError) → RunsFrom fused fused_syncs name d user password f (Some input) (Some []) left r (Some replies) → LeftState name d user password disk calls pick input image r
  left_state (Ok end) ran = ran_to end ran (ran.left image picked.now)
  left_state (Err error) refused =
      let same : image ≡ (fused f).seen = store.only image (refused.stays.no_more image picked.now) in
      record {
        state = d;
        opens = subst (λ (i : List ℕ). OpensTo name d i) (sym same) store.store.opens;
        survives = λ told is. is;
      }

-- ---- what is told of it

pub told_so : (name : List ℕ) (d : Durable) (user password : List ℕ) (disk : MemDisk) (calls pick : ℕ) (input image : List ℕ) (r : Result RunEnd OpenError) (left : LeftState name d user password disk calls pick input image r) (state : Result CoreState OpenError)
    → IfOk state (λ told. told ≡ opened left.state) → IfOk state (Survives name d user password disk calls pick input r)
told_so name d user password disk calls pick input image r left (Ok told) is = left.survives told is
told_so name d user password disk calls pick input image r left (Err error) is = tt

-- why the run was refused
pub run_refused : (name : List ℕ) (d : Durable) (user password : List ℕ) (f left : FuseDisk MemDisk) (input before now : Option (List ℕ)) (r : Result RunEnd OpenError) → RunsFrom fused fused_syncs name d user password f input before left r now → IfErr r (IsRefusal name)
run_refused name d user password f left input before now (Ok end) ran = tt
run_refused name d user password f left input before now (Err error) refused = refused.refusal

pub refused_so : (name : List ℕ) (r : Result CoreState OpenError) → IfErr r IsExcused → IfErr r (IsRefusal name)
refused_so name (Ok told) is = tt
refused_so name (Err error) is = refusal_of name error is

pub opened_so : (d : Durable) (r : Result CoreState OpenError) (state : CoreState) → state ≡ opened d → IfOk r (λ told. told ≡ state) → IfOk r (λ told. told ≡ opened d)
opened_so d (Ok told) state is same = same ∙ is
opened_so d (Err error) state is same = tt
