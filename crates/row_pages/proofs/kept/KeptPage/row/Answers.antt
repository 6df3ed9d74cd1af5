use Rattle.std.proofs.Common.{ℕ, List, arith, ap, ◌∙◌, length, drop}
use Rattle.row_pages.specs.Page.{Page}
use Rattle.row_pages.specs.Reading.{row_at}
use Rattle.row_pages.proofs.Placed.{kept_row, no_row_there, read_there, rows_count}
use Rattle.row_pages.proofs.kept.KeptPage.row.Goals as goal

pub index-requires : goal.index-requires
index-requires c =
    let starts = c.self.inside.starts in
    omega (arith, c.requires, starts.ok.0, rows_count (length starts.items) (drop 3 c.self.inside.bytes.items) c.self.invariant.places.rows.has, ap (λ (p : Page). length p.rows) c.self.view_is)

pub from_place-requires : goal.from_place-requires
from_place-requires c =
    let there = kept_row c.self.inside.starts.items c.self.inside.bytes.items c.args.self.now.rows c.args.i c.index.result.now c.from.result c.self.invariant.places (ap (λ (p : Page). p.rows) c.self.view_is) c.requires (c.from.ensures ∙ c.index.ensures) in
    omega (arith, there.within, ap length c.deref.ensures.value)

pub unreachable-requires : goal.unreachable-requires
unreachable-requires c =
    let there = kept_row c.self.inside.starts.items c.self.inside.bytes.items c.args.self.now.rows c.args.i c.index.result.now c.from.result c.self.invariant.places (ap (λ (p : Page). p.rows) c.self.view_is) c.requires (c.from.ensures ∙ c.index.ensures) in
    no_row_there c.self.inside.bytes.items c.from.result _ there (c.in-None.ensures ∙ ap row_at c.from_place.ensures ∙ ap (λ (b : List ℕ). row_at (drop c.from.result b)) c.deref.ensures.value)

pub returns : goal.returns
returns c =
    let there = kept_row c.self.inside.starts.items c.self.inside.bytes.items c.args.self.now.rows c.args.i c.index.result.now c.from.result c.self.invariant.places (ap (λ (p : Page). p.rows) c.self.view_is) c.requires (c.from.ensures ∙ c.index.ensures) in
    read_there c.self.inside.bytes.items c.from.result _ _ there (c.in-Some.ensures ∙ ap row_at c.from_place.ensures ∙ ap (λ (b : List ℕ). row_at (drop c.from.result b)) c.deref.ensures.value)
