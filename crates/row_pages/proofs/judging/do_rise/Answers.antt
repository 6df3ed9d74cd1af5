-- Each row decides, or the others do.
use Rattle.std.proofs.Common.{◌≡◌, ◌∙◌, IfSome, List, Some, ap, arith, drop, option_map, subst, sym, ℕ, ◌+◌}
use Rattle.std.specs.List.{AllByRecursion}
use Rattle.std.proofs.lemmas.List.{drop_all}
use Rattle.drda_words.specs.Bytes.{AreBytes}
use Rattle.row_values.proofs.ReadSteps.{drop_at}
use Rattle.row_values.specs.RowView.{row_in, schema_in}
use Rattle.row_values.specs.Schema.{Schema}
use Rattle.row_pages.specs.Judging.{do_rise, go_on}
use Rattle.row_pages.proofs.Rising.{all_rise, behind_is, no_row, not_behind, one_more}
use Rattle.row_pages.proofs.judging.do_rise.Goals as goal

pub loop-i-init : goal.loop-i-init
loop-i-init c = (all_rise c.args.schema.now c.args.page.now.rows, tt, λ all. all)

pub returns-in_default-clause-rise : goal.returns-in_default-clause-rise
returns-in_default-clause-rise c =
    no_row c.args.schema.now (option_map row_in c.loop-i.last) c.args.page.now.rows c.loop-i.i c.row-bytes.result.now c.row-bytes.ensures (do_rise c.args.schema.now c.args.page.now.rows) c.in_default.ensures.only c.loop-i.invariant.0

pub is_behind-requires : goal.is_behind-requires
is_behind-requires c = subst (λ (s : Schema). IfSome c.loop-i.last (λ last. schema_in last ≡ s)) (sym c.in-Ok.ensures.parsed.0) c.loop-i.invariant.1

pub returns-then-not-is_behind-clause-rise : goal.returns-then-not-is_behind-clause-rise
returns-then-not-is_behind-clause-rise c =
    let s = c.args.schema.now in let last = option_map row_in c.loop-i.last in let row = c.row-bytes.result.now in
    not_behind s last c.args.page.now.rows c.loop-i.i row c.row-bytes.ensures (do_rise s c.args.page.now.rows) c.in-Ok.ensures.only
    (c.if-not-is_behind.ensures ∙ behind_is s (schema_in c.in-Ok.row) last row (row_in c.in-Ok.row) c.in-Ok.ensures.parsed.0 c.in-Ok.ensures.parsed.1) c.loop-i.invariant.0

pub loop-i-preserved : goal.loop-i-preserved
loop-i-preserved c =
    let s = c.args.schema.now in let last = option_map row_in c.loop-i.last in let row = c.row-bytes.result.now in (
      ap (λ (r : List ℕ). go_on s (Some r) (drop (c.loop-i.i + 1) c.args.page.now.rows)) c.in-Ok.ensures.parsed.1
          ∙ one_more s last c.args.page.now.rows c.loop-i.i row c.row-bytes.ensures (do_rise s c.args.page.now.rows) c.in-Ok.ensures.only
          (c.if-not-is_behind.ensures ∙ behind_is s (schema_in c.in-Ok.row) last row (row_in c.in-Ok.row) c.in-Ok.ensures.parsed.0 c.in-Ok.ensures.parsed.1) c.loop-i.invariant.0,
      c.in-Ok.ensures.parsed.0,
      λ all. c.loop-i.invariant.2 (subst (AllByRecursion AreBytes) (sym (drop_at c.args.page.now.rows c.loop-i.i row c.row-bytes.ensures)) (c.are_bytes.ensures, all)),
    )

pub returns-clause-bytes : goal.returns-clause-bytes
returns-clause-bytes c good = c.loop-i.invariant.2 (subst (AllByRecursion AreBytes) (sym (drop_all c.loop-i.i c.args.page.now.rows (omega (arith, c.loop-i-test.false, c.len-i-end.ensures)))) tt)
