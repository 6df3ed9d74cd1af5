-- What a reader holds, as its callers see it.
use Rattle.std.specs.Prelude.{ℕ, Bool, List}
use Rattle.dss_frames.specs.Dss.{Dss}

-- the bytes taken since the last completed command, as they came; whether they are known to hold a
-- fault; and the command that was handed out last
pub record Held : Type 0 where
  pub rest : List ℕ
  pub at_fault : Bool
  pub last : List Dss
