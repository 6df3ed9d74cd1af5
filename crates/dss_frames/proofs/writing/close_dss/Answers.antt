use Rattle.std.proofs.Common.{◌≡◌, ℕ, ◌+◌, ◌-◌, List, [], ◌∷◌, ◌++◌, length, take, drop, ap, sym, ◌∙◌, append_assoc, arith, length-drop}
use Rattle.std.specs.Int.{to_be_bytes, w16}
use Rattle.dss_frames.specs.Writing.{first_size, length_bytes}
use Rattle.dss_frames.proofs.Written.{written_short}
use Rattle.dss_frames.proofs.writing.close_dss.Goals as goal

pub returns-clause-ok : goal.returns-clause-ok
returns-clause-ok c =
    let front : List ℕ = take c.args.dss.at c.args.out.now.items in
    let contents : List ℕ = drop (c.args.dss.at + 6) c.args.out.now.items in
    let behind : List ℕ = 0xD0 ∷ c.args.format.byte ∷ [] in
    let count : c.len.result - (c.args.dss.at + 6) ≡ length contents = omega (arith, length-drop (c.args.dss.at + 6) c.args.out.now.items) in
    c.set_header.ensures.items
    ∙ append_assoc front c.header.result contents
    ∙ ap (λ (b : List ℕ). front ++ (b ++ contents)) (c.header.ensures ∙ ap (λ (n : ℕ). length_bytes 6 first_size n ++ behind ++ to_be_bytes w16 c.args.correlator) count)
    ∙ ap (λ (b : List ℕ). front ++ b) (sym (written_short c.args.format.byte c.args.correlator contents (omega (arith, length-drop (c.args.dss.at + 6) c.args.out.now.items))))
