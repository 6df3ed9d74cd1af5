use Rattle.std.proofs.Common.{◌≡◌, ◌-◌, List, ℕ, [], ◌∷◌, ◌++◌, length, ◌∙◌, ap, rules}
use Rattle.half_store.specs.Fresh.{zeros, head_bytes, head_page}
use Rattle.half_store.proofs.Written.{front_joined}
use Rattle.half_store.proofs.fresh.fresh_front.Goals as goal

pub returns-clause-items : goal.returns-clause-items
returns-clause-items c =
    let head : c.push_head.new.bytes.items ≡ head_bytes c.args.size c.args.name.now = search rules in
    let page : c.pad.new.bytes.items ≡ head_page c.args.size c.args.name.now = c.in_ok-pad.ensures.items ∙ ap (λ (l : List ℕ). l ++ zeros (8184 - length l)) head in
    let gate : c.push.new.self.items ≡ c.pad.new.bytes.items ++ 165 ∷ [] = search rules in
    front_joined (head_page c.args.size c.args.name.now) c.pad.new.bytes.items c.push.new.self.items c.push_header.new.bytes.items c.pad-2.new.bytes.items page c.in_ok-pad.ensures.len gate
    c.in_ok-push_header.ensures c.in_ok-pad-2.ensures.items
