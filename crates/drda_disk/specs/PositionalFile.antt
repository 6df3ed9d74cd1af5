-- What a call that writes a part of what it was asked to does to a file.
use Rattle.std.specs.Prelude.{ℕ, List}
use Rattle.drda_disk.specs.Disk.{Life, Now, Tears}

-- A range may have any bytes, and each image that a crash might have left before it may still leave.
pub record MayTear (at n : ℕ) (old new : Life) : Type 0 where
  pub tears : Tears at n old new
  pub none_gone : (c : List ℕ) → Now old c → Now new c
