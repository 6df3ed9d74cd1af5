-- A disk in memory that was just made holds what it reads, and so does one with a fuse around it.
use Rattle.std.proofs.Common.{sym, subst}
use Rattle.drda_disk.specs.Disk.{Only}
use Rattle.drda_disk.specs.MemDisk.{life_of}
use Rattle.drda_disk.specs.declared.memory.MemDisk.{MemDisk}
use Rattle.program_tests.proofs.shelves.ShelfStoreFiles.create.Goals as goal

pub returns-in-Ok-clause-durable : goal.returns-in-Ok-clause-durable
returns-in-Ok-clause-durable c = λ modelled. subst (λ (inner : MemDisk). Only (life_of inner)) (sym c.new-in-Ok.ensures.inner) c.in-Ok.ensures.settled
