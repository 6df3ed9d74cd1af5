use Rattle.std.proofs.Common.{map, ap, subst, sym, ◌∙◌, List, ℕ}
use Rattle.std.specs.List.Sorted.{IsStrictlySortedBy}
use Rattle.std.specs.Map.{keys_of}
use Rattle.key_map.specs.Slots.{by_bytes, rows_of}
use Rattle.key_map.specs.Overlay.{change_of}
use Rattle.key_map.proofs.Said.{keys_said}
use Rattle.key_map.proofs.overlay.Overlay.entries.Goals as goal

pub returns-clause-all : goal.returns-clause-all
returns-clause-all c = ap (map change_of) (c.rows.ensures.all ∙ ap rows_of c.self.view_is)

pub returns-clause-rising : goal.returns-clause-rising
returns-clause-rising c =
    subst (λ (ks : List (List ℕ)). IsStrictlySortedBy by_bytes ks) (ap (λ s. keys_of (rows_of s)) c.self.view_is ∙ sym (keys_said (rows_of c.args.self.now))) c.rows.ensures.rising
