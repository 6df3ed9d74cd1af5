use Rattle.std.proofs.Common.{ap, sym, subst, ◌∙◌, ◌≡◌, ℕ, List, false}
use Rattle.std.specs.List.{list_any}
use Rattle.std.specs.Option.{MatchOption}
use Rattle.unit_locks.specs.declared.holder.Holder.{Holder}
use Rattle.unit_locks.specs.Index.{Finds, blocks, bucket, table_hash}
use Rattle.unit_locks.specs.Lists.{list_at}
use Rattle.unit_locks.proofs.index.other_with_table.Goals as goal

pub returns : goal.returns
returns c =
    let unit_of : Holder → ℕ = λ h. h.unit in
    let test = blocks c.args.unit c.args.claim.now in
    let list = c.list.ensures ∙ ap (list_at c.args.holders.now) (c.bucket.ensures.is ∙ ap bucket c.table_hash.ensures) in
    subst (λ (l : List Holder). MatchOption c.other_holder.result (list_any test l ≡ false) (λ other. Finds test unit_of l other)) list c.other_holder.ensures
