use Rattle.std.proofs.Common.{ℕ, List, ◌++◌, length, drop, replicate, ap, ◌∙◌}
use Rattle.std.proofs.lemmas.List.{drop-replicate}
use Rattle.xa_calls.proofs.xid.padded.Goals as goal

-- the first bytes are written over, and the zeros after them stay
pub returns : goal.returns
returns c =
    let n = length c.args.bytes.now in
    ap (λ (t : List ℕ). t ++ drop n (replicate 140 0)) c.copy_from_slice.ensures.after ∙ ap (λ (t : List ℕ). c.args.bytes.now ++ t) (drop-replicate n 140 0)
