-- Bytes that are not taken.
use Rattle.std.proofs.Common.{◌≡◌, ◌≤◌, ℕ, zero, suc, List, [], ◌++◌, take, append-nil, subst, arith}
use Rattle.dss_frames.specs.Dss.{Dss}
use Rattle.dss_frames.specs.Fault.{BeginsWith, IsUnfinished}
use Rattle.conversation.specs.Steps.{KeepsToFirst}

alone : (bytes piece : List ℕ) → IsUnfinished bytes → (many : ℕ) (command : List Dss) (rest : List ℕ) → many ≤ 0 → BeginsWith (bytes ++ take many piece) command rest → rest ≡ []
alone bytes piece un zero command rest none begins = absurd (un.no_command command rest (subst (λ (z : List ℕ). BeginsWith z command rest) (append-nil bytes) begins))
alone bytes piece un (suc many) command rest none begins = absurd (omega (arith, none))

pub keeps_to_nothing : (bytes piece : List ℕ) → IsUnfinished bytes → KeepsToFirst bytes piece 0
keeps_to_nothing bytes piece un = record { less = λ fewer below. absurd (omega (arith, below)); alone = alone bytes piece un }
