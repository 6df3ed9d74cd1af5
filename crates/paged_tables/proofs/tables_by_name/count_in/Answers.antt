use Rattle.std.proofs.Common.{◌≡◌, ◌+◌, ◌≤◌, length, ap, zero-add, arith, ◌∙◌}
use Rattle.std.specs.Prelude.{count_by}
use Rattle.paged_tables.specs.Stored.{Stored}
use Rattle.paged_tables.proofs.TreeSteps.{count_created}
use Rattle.paged_tables.proofs.tables_by_name.count_in.Goals as goal

pub loop-table-init : goal.loop-table-init
loop-table-init c =
    let all = c.into_iter-table-iterator.ensures.into_iter_gives in
    let as_many : length c.into_iter-table-iterator.result ≡ length c.args.tables.now.entries = ap length all ∙ c.values-table-items.ensures.len in
    let few : 0 + length c.into_iter-table-iterator.result ≤ length c.args.tables.now.entries = omega arith in
    record {
      can = tt;
      finite = tt;
      sum = zero-add (count_by (λ (t : Stored). t.is_created) c.into_iter-table-iterator.result) ∙ ap (count_by (λ (t : Stored). t.is_created)) (all ∙ c.values-table-items.ensures.rest) ∙ count_created c.args.tables.now.entries;
      few = few;
    }
