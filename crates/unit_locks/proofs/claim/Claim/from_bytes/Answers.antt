use Rattle.std.proofs.Common.{◌≡◌, ◌++◌, List, ℕ, ap, drop, sym, subst, take, take-append-drop, ◌∙◌}
use Rattle.unit_locks.specs.Claim.{IsClaim, claim_bytes, claim_of}
use Rattle.unit_locks.proofs.Bytes.{cut, none_found}
use Rattle.unit_locks.proofs.claim.Claim.from_bytes.Goals as goal

pub split_at-requires : goal.split_at-requires
split_at-requires c = (cut c.args.bytes.now c.in-Some.length (λ i. (c.type_inv.bytes i).fits) (sym c.in-Some.ensures)).inside

pub invariant_of-result : goal.invariant_of-result
invariant_of-result c =
    let k = cut c.args.bytes.now c.in-Some.length (λ i. (c.type_inv.bytes i).fits) (sym c.in-Some.ensures) in
    let e : c.in_ok-bytes.bytes.items ≡ take c.in-Some.length c.args.bytes.now = c.in_ok-bytes.ensures.items ∙ c.split_at.ensures.front in
    let P : List ℕ → Type 0 = λ l. (claim_bytes (claim_of l) ≡ l) × IsClaim (claim_of l) in
    subst P (sym e) (k.written, k.is)

pub returns-clause-ok : goal.returns-clause-ok
returns-clause-ok c =
    let k = cut c.args.bytes.now c.in-Some.length (λ i. (c.type_inv.bytes i).fits) (sym c.in-Some.ensures) in
    let e : c.in_ok-bytes.bytes.items ≡ take c.in-Some.length c.args.bytes.now = c.in_ok-bytes.ensures.items ∙ c.split_at.ensures.front in
    let written : claim_bytes (claim_of c.in_ok-bytes.bytes.items) ≡ take c.in-Some.length c.args.bytes.now = ap (λ (l : List ℕ). claim_bytes (claim_of l)) e ∙ k.written in
    let back : c.split_at.result.1.now ≡ drop c.in-Some.length c.args.bytes.now = c.split_at.ensures.back in
    sym (take-append-drop c.in-Some.length c.args.bytes.now) ∙ ap (λ (l : List ℕ). l ++ drop c.in-Some.length c.args.bytes.now) (sym written)
    ∙ ap (λ (l : List ℕ). claim_bytes (claim_of c.in_ok-bytes.bytes.items) ++ l) (sym back)
