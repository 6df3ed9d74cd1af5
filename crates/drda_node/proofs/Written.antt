-- Bytes that were written, one piece after the other.
use Rattle.std.proofs.Common.{ℕ, ◌+◌, List, ◌++◌, length, take, Option, sym, subst}
use Rattle.std.specs.Io.KnownBytes.{Appends}
use Rattle.std.proofs.KnownBytes.{Appends-trans}
use Rattle.std.proofs.Math.Seq.{take-append-add}

-- a front of a second text, behind the first
pub appends_front : (w0 w w' : Option (List ℕ)) (x y : List ℕ) (count : ℕ) → Appends w0 w x → Appends w w' (take count y) → Appends w0 w' (take (length x + count) (x ++ y))
appends_front w0 w w' x y count p q = subst (λ (z : List ℕ). Appends w0 w' z) (sym (take-append-add x y count)) (Appends-trans w0 w w' x (take count y) p q)
