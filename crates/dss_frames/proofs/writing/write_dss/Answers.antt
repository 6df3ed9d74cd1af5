use Rattle.std.proofs.Common.{◌≡◌, ℕ, List, [], ◌∷◌, ◌++◌, ap, refl, sym, append_assoc, ◌∙◌, length}
use Rattle.std.specs.Int.{to_be_bytes, w16}
use Rattle.dss_frames.specs.Writing.{continuations, first_size, length_bytes}
use Rattle.dss_frames.proofs.Written.{written_parts}
use Rattle.dss_frames.proofs.writing.write_dss.Goals as goal

pub returns-clause-ok : goal.returns-clause-ok
returns-clause-ok c =
    let old : List ℕ = c.args.out.now.items in
    let size : List ℕ = length_bytes 6 first_size (length c.args.contents.now) in
    let mark : List ℕ = 0xD0 ∷ c.args.format.byte ∷ [] in
    let number : List ℕ = to_be_bytes w16 c.args.correlator in
    let rest : List ℕ = c.split_at.result.1.now in
    let begun : old ++ ((size ++ mark) ++ number) ≡ ((old ++ size) ++ mark) ++ number =
    sym (append_assoc old (size ++ mark) number) ∙ ap (λ (b : List ℕ). b ++ number) (sym (append_assoc old size mark)) in
    c.append_continuations.ensures.items
    ∙ ap (λ (b : List ℕ). b ++ continuations (length rest) rest) (c.append-2.ensures.items
    ∙ ap (λ (b : List ℕ). b ++ c.split_at.result.0.now) (c.append.ensures.items
    ∙ ap (λ (b : List ℕ). b ++ c.header.result) c.in_ok-reserve.ensures.items
    ∙ ap (λ (b : List ℕ). old ++ b) c.header.ensures ∙ begun))
    ∙ written_parts old size mark number c.split_at.result.0.now rest c.args.contents.now c.args.format.byte c.args.correlator
    refl refl refl (rw c.min.ensures at c.split_at.ensures.front) (rw c.min.ensures at c.split_at.ensures.back)
