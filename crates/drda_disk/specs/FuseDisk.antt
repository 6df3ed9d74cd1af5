-- What a disk that fails on purpose shows.
use Rattle.std.specs.Prelude.{◌≡◌, ℕ, ◌+◌, ◌-◌, ◌^◌, min, Bool, Option, Result}
use Rattle.drda_disk.specs.Disk.{Life, CountsFault}
use Rattle.drda_disk.specs.Count.{count_of}
use Rattle.drda_disk.specs.Fuse.{left_after, with_more_faults}
use Rattle.drda_disk.specs.declared.fuse.FuseDisk.{FuseDisk}

abbrev pub inner_of : {D : Type 0} → FuseDisk D → D
inner_of f = f.inner

-- how many calls are left to pass; `None` where none fails any more
abbrev pub left_of : {D : Type 0} → FuseDisk D → Option ℕ
left_of f = f.fuse.left

-- it fails one call and not all
abbrev pub is_once : {D : Type 0} → FuseDisk D → Bool
is_once f = f.fuse.once

-- how many calls have come
abbrev pub calls_of : {D : Type 0} → FuseDisk D → ℕ
calls_of f = f.fuse.calls

-- how many calls it failed itself
abbrev pub own_faults_of : {D : Type 0} → FuseDisk D → ℕ
own_faults_of f = count_of f.faults

-- one more call has come
pub record IsCalled {D : Type 0} (old new : FuseDisk D) : Type 0 where
  pub left : left_of new ≡ left_after (is_once old) (left_of old)
  pub once : is_once new ≡ is_once old
  pub calls : calls_of new ≡ min (calls_of old + 1) (2 ^ 64 - 1)

-- its member `life`, over the member of the disk inside
abbrev pub life_of : {D : Type 0} → (D → Life) → FuseDisk D → Life
life_of life f = with_more_faults (life (inner_of f)) (own_faults_of f)

-- the call did not reach the disk inside
pub record IsRefused {D : Type 0} (old new : FuseDisk D) : Type 0 where
  pub inner : inner_of new ≡ inner_of old
  pub own_faults : own_faults_of new ≡ own_faults_of old + 1

-- the disk inside answered, and what failed failed there
pub record IsPassed {D T E : Type 0} (life : D → Life) (result : Result T E) (old new : FuseDisk D) : Type 0 where
  pub inner_faults : CountsFault result (life (inner_of old)).faults (life (inner_of new)).faults
  pub own_faults : own_faults_of new ≡ own_faults_of old
