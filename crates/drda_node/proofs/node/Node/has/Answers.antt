use Rattle.std.proofs.Common.{◌<◌, ◌≤◌, Some, length, ap, ◌∙◌, sym, arith, rules}
use Rattle.drda_node.specs.Feeding.{shown_held}
use Rattle.drda_node.specs.Register.{shown}
use Rattle.drda_node.proofs.Rows.{view_at, shows_open, open_shows, get_view, below_view}
use Rattle.drda_node.proofs.node.Node.has.Goals as goal

pub returns-then-place-len : goal.returns-then-place-len
returns-then-place-len g c =
    let items = c.args.self.now.places.items in
    let place = c.index.result.now in
    let below : c.args.place < length items = search rules in (
      λ is. (shown_held place.front, get_view shown items c.args.place place below ∙ ap (λ p. Some (shown p)) (sym c.index.ensures) ∙ ap (λ o. Some o) (open_shows place is)),
      λ there. shows_open place (there.0) (ap shown c.index.ensures ∙ view_at shown items c.args.place place (Some there.0) there.1),
    )

pub returns-else-place-len : goal.returns-else-place-len
returns-else-place-len g c =
    let items = c.args.self.now.places.items in
    let past : length items ≤ c.args.place = search rules in (
      λ is. absurd (let below : c.args.place < length items = search (rules, is) in omega arith),
      λ there. absurd (let below = below_view shown items c.args.place (Some there.0) there.1 in omega (arith, below, past)),
    )
