-- Parts of bytes are bytes.
use Rattle.std.proofs.Common.{◌<◌, ℕ, zero, suc, List, [], ◌∷◌, ◌++◌, lit<}
use Rattle.drda_words.specs.Bytes.{AreBytes}

pub rest_are_bytes : (front rest : List ℕ) → AreBytes (front ++ rest) → AreBytes rest
rest_are_bytes [] rest all = all
rest_are_bytes (b ∷ front) rest all = rest_are_bytes front rest (λ i. all (suc i))

pub front_are_bytes : (front rest : List ℕ) → AreBytes (front ++ rest) → AreBytes front
front_are_bytes [] rest all i = lit< tt
front_are_bytes (b ∷ front) rest all zero = all zero
front_are_bytes (b ∷ front) rest all (suc i) = front_are_bytes front rest (λ j. all (suc j)) i
