-- Each row decides, or the others do.
use Rattle.std.proofs.Common.{◌≡◌, ◌∙◌, IfSome, List, Some, ap, drop, option_map, subst, sym, ℕ, ◌+◌}
use Rattle.row_values.specs.RowView.{row_in, schema_in}
use Rattle.row_values.specs.Schema.{Schema}
use Rattle.row_pages.specs.Judging.{do_rise, go_on}
use Rattle.row_pages.proofs.Rising.{all_rise, behind_is, no_row, not_behind, one_more}
use Rattle.ahead_view.proofs.judging.do_rise.Goals as goal

pub loop-i-init : goal.loop-i-init
loop-i-init c = (all_rise c.args.schema.now c.args.rows.now, tt)

pub returns-in_default : goal.returns-in_default
returns-in_default c =
    no_row c.args.schema.now (option_map row_in c.loop-i.last) c.args.rows.now c.loop-i.i c.row.result.now c.row.ensures (do_rise c.args.schema.now c.args.rows.now) c.in_default.ensures.only c.loop-i.invariant.0

pub is_behind-requires : goal.is_behind-requires
is_behind-requires c = subst (λ (s : Schema). IfSome c.loop-i.last (λ last. schema_in last ≡ s)) (sym c.in-Ok.ensures.parsed.0) c.loop-i.invariant.1

pub returns-then-not-is_behind : goal.returns-then-not-is_behind
returns-then-not-is_behind c =
    let s = c.args.schema.now in let last = option_map row_in c.loop-i.last in let row = c.row.result.now in
    not_behind s last c.args.rows.now c.loop-i.i row c.row.ensures (do_rise s c.args.rows.now) c.in-Ok.ensures.only
    (c.if-not-is_behind.ensures ∙ behind_is s (schema_in c.in-Ok.row) last row (row_in c.in-Ok.row) c.in-Ok.ensures.parsed.0 c.in-Ok.ensures.parsed.1) c.loop-i.invariant.0

pub loop-i-preserved : goal.loop-i-preserved
loop-i-preserved c =
    let s = c.args.schema.now in let last = option_map row_in c.loop-i.last in let row = c.row.result.now in (
      ap (λ (r : List ℕ). go_on s (Some r) (drop (c.loop-i.i + 1) c.args.rows.now)) c.in-Ok.ensures.parsed.1
          ∙ one_more s last c.args.rows.now c.loop-i.i row c.row.ensures (do_rise s c.args.rows.now) c.in-Ok.ensures.only
          (c.if-not-is_behind.ensures ∙ behind_is s (schema_in c.in-Ok.row) last row (row_in c.in-Ok.row) c.in-Ok.ensures.parsed.0 c.in-Ok.ensures.parsed.1) c.loop-i.invariant.0,
      c.in-Ok.ensures.parsed.0,
    )
