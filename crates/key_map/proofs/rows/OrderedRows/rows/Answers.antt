use Rattle.std.proofs.Common.{◌≡◌, List, [], ◌∷◌, true, refl, ap, ◌∙◌, filter}
use Rattle.key_map.specs.Slots.{rows_of, slots_in}
use Rattle.key_map.proofs.Seen.{rows_rising}
use Rattle.key_map.proofs.rows.OrderedRows.rows.Goals as goal

all_kept : {A : Type 0} (xs : List A) → filter (λ x. true) xs ≡ xs
all_kept [] = refl
all_kept (x ∷ xs) = ap (λ t. x ∷ t) (all_kept xs)

pub returns-clause-all : goal.returns-clause-all
returns-clause-all c =
    ap (λ es. rows_of (slots_in es)) (c.range.ensures.between tt ∙ all_kept c.self.inside.slots.entries)
    ∙ ap rows_of c.self.view_is

pub returns-clause-rising : goal.returns-clause-rising
returns-clause-rising c = rows_rising c.self.inside.slots.entries c.args.self.now c.self.view_is c.self.invariant
