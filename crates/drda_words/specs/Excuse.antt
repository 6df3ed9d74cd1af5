-- Want of memory may come in place of an answer; nothing else may.
use Rattle.std.specs.Prelude.{◌≡◌, ℕ, List, ◌++◌, Option, Result, Ok, Err, IfSome}

-- What a function returned, seen by view, is the answer that a definition gives, a value or a fault.
-- fault_of says which fault an error is: None stands for want of memory, which may come in place of
-- any answer.
abbrev pub Answers : {X E V F : Type 0} → (X → V) → (E → Option F) → Result X E → Result V F → Type 0
Answers view fault_of (Ok x) answer = answer ≡ Ok (view x)
Answers view fault_of (Err e) answer = IfSome (fault_of e) (λ f. answer ≡ Err f)

-- These bytes were added behind what was there, or, where memory was refused, nothing was changed.
abbrev pub Appends : {X E : Type 0} → Result X E → List ℕ → List ℕ → List ℕ → Type 0
Appends (Ok x) old bytes new = new ≡ old ++ bytes
Appends (Err e) old bytes new = new ≡ old
