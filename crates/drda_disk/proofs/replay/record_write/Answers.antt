use Rattle.std.proofs.Common.{◌≡◌, ℕ, List, [], ◌∷◌, ◌++◌, length, sym, ◌∙◌, ap, refl, rules}
use Rattle.drda_disk.specs.declared.replay.Write.{Write}
use Rattle.drda_disk.specs.Recorded.{steps_of, recorded_len}
use Rattle.drda_disk.proofs.Recorded.{steps_of-write, recorded_len-write}
use Rattle.drda_disk.proofs.replay.record_write.Goals as goal

pub returns-clause-ok : goal.returns-clause-ok
returns-clause-ok c =
    let w : Write = record { at = c.args.at; len = length c.args.bytes.now } in
    let writes : c.push_write.new.writes.items ≡ c.args.writes.now.items ++ w ∷ [] = search rules in
    let written : c.extend_from_slice.new.self.items ≡ c.args.written.now.items ++ c.args.bytes.now = search rules in
    ap (λ (l : List Write). steps_of l c.extend_from_slice.new.self.items) writes ∙ ap (λ (l : List ℕ). steps_of (c.args.writes.now.items ++ w ∷ []) l) written
    ∙ steps_of-write c.args.writes.now.items c.args.written.now.items w c.args.bytes.now refl c.requires

pub returns-clause-whole : goal.returns-clause-whole
returns-clause-whole c =
    let w : Write = record { at = c.args.at; len = length c.args.bytes.now } in
    let writes : c.push_write.new.writes.items ≡ c.args.writes.now.items ++ w ∷ [] = search rules in
    let written : c.extend_from_slice.new.self.items ≡ c.args.written.now.items ++ c.args.bytes.now = search rules in
    ap recorded_len writes ∙ recorded_len-write c.args.writes.now.items c.args.written.now.items w c.args.bytes.now refl c.requires ∙ ap length (sym written)
