use Rattle.std.proofs.Common.{◌≡◌, Bool, true, false, refl, ap, ◌∙◌, filter}
use Rattle.std.specs.Prelude.{◌&&◌}
use Rattle.std.specs.Ordering.{is_le}
use Rattle.key_map.specs.Slots.{by_bytes, rows_of, slots_in}
use Rattle.key_map.specs.Walk.{from_key}
use Rattle.key_map.proofs.Seen.{filter_seen, cmp}
use Rattle.key_map.proofs.rows.OrderedRows.rows_from.Goals as goal

and_true : (b : Bool) → (b && true) ≡ b
and_true true = refl
and_true false = refl

pub returns : goal.returns
returns c =
    ap (λ es. rows_of (slots_in es)) (c.range.ensures.between tt)
    ∙ filter_seen (λ k. is_le (cmp c.args.start.now k) && true) (λ k. is_le (by_bytes c.args.start.now.items k)) (λ k. and_true (is_le (cmp c.args.start.now k))) c.self.inside.slots.entries
    ∙ ap (λ s. filter (from_key c.args.start.now.items) (rows_of s)) c.self.view_is
