-- What has failed where a run ends.
use Rattle.std.proofs.Common.{◌≡◌, ◌⊎◌, ◌+◌, ℕ, sym, ap, subst, ◌∙◌, inl, inr}
use Rattle.counted_streams.specs.Faults.{Counts}
use Rattle.drda_node.specs.declared.serving.RunEnd.{RunEnd}
use Rattle.drda_node.specs.Gathering.{CountsEnd}
use Rattle.drda_node.specs.Serving.{TellsFaults}

-- What was gathered is written, or a write has failed: then that is told in the place of the end.
pub ended : (end result : RunEnd) (old : Counts) (reads faults writes writes' : ℕ) → TellsFaults end old (record { reads = reads; read_faults = faults; write_faults = writes })
    → (faults ≡ old.read_faults) ⊎ (faults ≡ old.read_faults + 1) → writes ≡ old.write_faults → CountsEnd end result writes writes'
    → TellsFaults result old (record { reads = reads; read_faults = faults; write_faults = writes' })
ended end result old reads faults writes writes' cause read same (inl (is, none)) =
    subst (λ (e : RunEnd). TellsFaults e old (record { reads = reads; read_faults = faults; write_faults = writes' })) (sym is)
    (subst (λ (n : ℕ). TellsFaults end old (record { reads = reads; read_faults = faults; write_faults = n })) (sym none) cause)
ended end result old reads faults writes writes' cause read same (inr (is, more)) =
    subst (λ (e : RunEnd). TellsFaults e old (record { reads = reads; read_faults = faults; write_faults = writes' })) (sym is)
    (record { reading = read; writing = more ∙ ap (λ (n : ℕ). n + 1) same })
