-- What a file as a disk shows.
use Rattle.std.specs.Prelude.{ℕ, Bool, Option}
use Rattle.drda_disk.specs.Disk.{Life}
use Rattle.drda_disk.specs.Count.{count_of}
use Rattle.drda_disk.specs.File.{with_faults}
use Rattle.drda_disk.specs.declared.file.FileDisk.{FileDisk}
use Rattle.drda_disk.specs.declared.transfer.DeviceFault.{DeviceFault}

abbrev pub file_of : {F : Type 0} → FileDisk F → F
file_of disk = disk.file

-- how many of its calls have failed
abbrev pub own_faults_of : {F : Type 0} → FileDisk F → ℕ
own_faults_of disk = count_of disk.faults

-- a sync has failed
abbrev pub has_lost_sync : {F : Type 0} → FileDisk F → Bool
has_lost_sync disk = disk.has_lost_sync

-- why the last call that failed did
abbrev pub last_fault_of : {F : Type 0} → FileDisk F → Option DeviceFault
last_fault_of disk = disk.last_fault

-- its member `life`, over the member of the file
abbrev pub life_of : {F : Type 0} → (F → Life) → FileDisk F → Life
life_of life disk = with_faults (life (file_of disk)) (own_faults_of disk)
