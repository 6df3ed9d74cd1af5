-- What is said of a line that was written, or of a front of it.
use Rattle.std.proofs.Common.{subst, sym, ℕ, List, length, take, take_all, le_refl, Option, Result, Ok, Err, OnOk, OnErr}
use Rattle.std.specs.Io.KnownBytes.{Appends}

pub front_of : {E : Type 0} (r : Result (Unit {0}) E) (w w' : Option (List ℕ)) (line : List ℕ) → OnOk r (Appends w w' line) → OnErr r ((count : ℕ) × Appends w w' (take count line)) → (count : ℕ) × Appends w w' (take count line)
front_of (Ok done) w w' line ok err = (length line, subst (λ (z : List ℕ). Appends w w' z) (sym (take_all (length line) line (le_refl (length line)))) ok)
front_of (Err e) w w' line ok err = err
