-- The life of a file of which nothing but its length is known, and of one with a count of failures.
use Rattle.std.specs.Prelude.{ℕ, replicate, IsTrue, false}
use Rattle.std.proofs.lemmas.Bool.{false≢true}
use Rattle.drda_disk.specs.Disk.{Life}

abbrev pub unknown : ℕ → Life
unknown size = record { seen = replicate size 0; moment = 0; left_since = λ t c. ⊥; faults = 0 }

pub no_image : {A : Type 0} → IsTrue false → A
no_image is = absurd (false≢true is)

abbrev pub with_faults : Life → ℕ → Life
with_faults disk n = record disk { faults = n }
