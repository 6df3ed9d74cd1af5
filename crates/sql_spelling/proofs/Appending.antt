-- What is appended piece by piece.
use Rattle.std.proofs.Common.{◌≡◌, ℕ, List, ◌++◌, append_assoc}

pub five : (old a b c d e u v w x y : List ℕ) → u ≡ old ++ a → v ≡ u ++ b → w ≡ v ++ c → x ≡ w ++ d → y ≡ x ++ e → y ≡ old ++ (a ++ (b ++ (c ++ (d ++ e))))
five old a b c d e u v w x y p q r s t = rw (t, s, r, q, p) (simp append_assoc)

pub seven : (old a b c d e f g u v w x y z k : List ℕ) → u ≡ old ++ a → v ≡ u ++ b → w ≡ v ++ c → x ≡ w ++ d → y ≡ x ++ e → z ≡ y ++ f → k ≡ z ++ g → k ≡ old ++ (a ++ (b ++ (c ++ (d ++ (e ++ (f ++ g))))))
seven old a b c d e f g u v w x y z k p q r s t m n = rw (n, m, t, s, r, q, p) (simp append_assoc)

-- one item more behind what is written
pub one_more : (out between item rest new whole : List ℕ) → out ++ ((between ++ item) ++ rest) ≡ whole → new ≡ (out ++ between) ++ item → new ++ rest ≡ whole
one_more out between item rest new whole e f = rw f (rw (append_assoc (out ++ between) item rest, append_assoc out between (item ++ rest)) (rw (append_assoc between item rest) at e))
