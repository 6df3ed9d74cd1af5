-- Lists that begin with another one.
use Rattle.std.proofs.Common.{◌≡◌, ℕ, List, ◌++◌}

-- more bytes stand behind these
abbrev pub IsBehind : List ℕ → List ℕ → Type 0
IsBehind front now = (more : List ℕ) × (now ≡ front ++ more)
