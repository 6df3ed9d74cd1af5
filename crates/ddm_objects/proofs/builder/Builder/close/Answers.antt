use Rattle.std.proofs.Common.{◌≡◌, length, ◌<◌, ◌∷◌, vec_len, arith}
use Rattle.std.specs.Prelude.{reverse, Some}
use Rattle.ddm_objects.proofs.Nesting.{last_first, some_open, nested_closed, writing_closed}
use Rattle.ddm_objects.proofs.builder.Builder.close.Goals as goal

abbrev At : Type 0
At = goal.After-pop

last_is : (c : At) → reverse c.self.inside.containers.items ≡ c.index-container.result.now ∷ reverse c.pop.new.self.items
last_is c =
    let container = c.index-container.result.now in
    let any : 0 < length c.self.inside.containers.items = some_open c.self.inside.out.items c.self.inside.containers.items c.args.self.now c.self.view_is c.requires in
    let some : 0 < vec_len c.self.inside.containers = omega (arith, c.self.inside.containers.ok.0) in
    let same : c.pop.result ≡ Some container = cc (c.pop.ensures.value container some, c.index-container.ensures, c.len.ensures) in
    last_first c.self.inside.containers.items c.pop.new.self.items c.pop.result container c.pop.ensures.items same

pub invariant_of-self-2 : goal.invariant_of-self-2
invariant_of-self-2 c =
    nested_closed c.self.inside.out.items c.close.new.out.items (reverse c.self.inside.containers.items) c.index-container.result.now (reverse c.pop.new.self.items) (last_is c) c.self.invariant c.in_ok-close.ensures.ok

pub returns-clause-ok : goal.returns-clause-ok
returns-clause-ok c =
    writing_closed c.self.inside.out.items c.close.new.out.items (reverse c.self.inside.containers.items) c.index-container.result.now (reverse c.pop.new.self.items) c.args.self.now (last_is c) c.self.invariant c.in_ok-close.ensures.ok c.self.view_is
