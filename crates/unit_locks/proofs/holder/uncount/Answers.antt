use Rattle.std.proofs.Common.{ap, sym, ◌∙◌, ◌≡◌, ◌≢◌, ◌+◌, ◌-◌, ◌≤◌, ◌<◌, ℕ, Bool, List, arith, length, slice_set, refl}
use Rattle.unit_locks.specs.Index.{bucket, counted, held, one_if, same_use, table_hash, use_in}
use Rattle.unit_locks.specs.Lists.{list_at}
use Rattle.unit_locks.proofs.Counts.{held_moved, no_bucket}
use Rattle.unit_locks.proofs.ListRows.{list_is, list_past, list_set, list_set_other}
use Rattle.unit_locks.proofs.holder.uncount.Goals as goal

pub returns-then-at-len : goal.returns-then-at-len
returns-then-at-len c =
    let lists = c.args.holders.now.items in
    let at : c.bucket-at.result ≡ bucket (table_hash c.args.claim.now.table) = c.bucket-at.ensures.is ∙ ap bucket c.table_hash.ensures in
    let inside : c.bucket-at.result < length lists = omega (arith, c.if-at-len.true, c.len.ensures, c.args.holders.now.ok.0) in
    let new = slice_set lists c.bucket-at.result c.lower.new.holders in
    held_moved (λ n b. n - one_if b) (λ n. omega arith) lists new (use_in c.args.unit c.args.claim.now)
    (λ k. ap (λ n. counted (list_at new n) k) (sym at) ∙ ap (λ l. counted l k) (list_set lists c.bucket-at.result c.lower.new.holders inside) ∙ c.lower.ensures k
    ∙ ap (λ n. n - one_if (same_use (use_in c.args.unit c.args.claim.now) k)) (ap (λ v. counted v.items k) c.index_mut.ensures.value ∙ ap (λ l. counted l k) (sym (list_is lists c.bucket-at.result c.index_mut.result.now inside)) ∙ ap (λ n. counted (list_at lists n) k) at))
    (λ b other. list_set_other lists b c.bucket-at.result c.lower.new.holders (λ e. other (e ∙ at)))

pub returns-else-at-len : goal.returns-else-at-len
returns-else-at-len c k =
    let lists = c.args.holders.now.items in
    let at : c.bucket-at.result ≡ bucket (table_hash c.args.claim.now.table) = c.bucket-at.ensures.is ∙ ap bucket c.table_hash.ensures in
    let past : length lists ≤ c.bucket-at.result = omega (arith, c.if-at-len.false, c.len.ensures, c.args.holders.now.ok.0) in
    no_bucket lists (use_in c.args.unit c.args.claim.now) k (ap (list_at lists) (sym at) ∙ list_past lists c.bucket-at.result past)
