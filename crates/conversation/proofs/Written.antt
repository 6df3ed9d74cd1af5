-- Bytes that were written, one piece after the other.
use Rattle.std.proofs.Common.{◌≡◌, ℕ, ◌+◌, List, ◌++◌, length, take, drop, take_all, Option, sym, subst, ◌∙◌, arith}
use Rattle.std.proofs.lemmas.List.{take-append-le}
use Rattle.std.specs.Io.KnownBytes.{Appends}
use Rattle.std.proofs.KnownBytes.{Appends-trans}
use Rattle.std.proofs.Math.Seq.{take-add}

pub wrote_more : (u v w : Option (List ℕ)) (bytes : List ℕ) (a n : ℕ) → Appends u v (take a bytes) → Appends v w (take n (drop a bytes)) → Appends u w (take (a + n) bytes)
wrote_more u v w bytes a n p q = subst (λ (z : List ℕ). Appends u w z) (sym (take-add a n bytes)) (Appends-trans u v w (take a bytes) (take n (drop a bytes)) p q)

pub take_front : (n : ℕ) (xs ys : List ℕ) → length xs ≡ n → take n (xs ++ ys) ≡ xs
take_front n xs ys e = take-append-le n xs ys (omega (arith, e)) ∙ take_all n xs (omega (arith, e))
