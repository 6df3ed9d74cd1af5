use Rattle.std.proofs.Common.{ap, sym, ◌∙◌, ◌≡◌, ◌≢◌, ◌+◌, ◌≤◌, ◌<◌, ℕ, Bool, List, arith, length, slice_set, refl}
use Rattle.unit_locks.specs.Index.{bucket, counted, held, one_if, same_use, table_hash, use_in}
use Rattle.unit_locks.specs.Lists.{list_at}
use Rattle.unit_locks.proofs.Counts.{held_moved}
use Rattle.unit_locks.proofs.ListRows.{list_is, list_set, list_set_other}
use Rattle.unit_locks.proofs.holder.count.Goals as goal

pub returns-in-Ok-clause-ok : goal.returns-in-Ok-clause-ok
returns-in-Ok-clause-ok c k =
    let lists = c.grow.new.lists.items in
    let at : c.bucket-at.result ≡ bucket (table_hash c.args.claim.now.table) = c.bucket-at.ensures.is ∙ ap bucket c.table_hash.ensures in
    let inside : c.bucket-at.result < length lists = omega (arith, c.in_ok-grow.ensures.long, c.grow.new.lists.ok.0) in
    let new = slice_set lists c.bucket-at.result c.raise.new.holders in
    let u = use_in c.args.unit c.args.claim.now in
    held_moved (λ n b. n + one_if b) (λ n. omega arith) lists new u
    (λ j. ap (λ n. counted (list_at new n) j) (sym at) ∙ ap (λ l. counted l j) (list_set lists c.bucket-at.result c.raise.new.holders inside) ∙ c.in-Ok.ensures.ok j
    ∙ ap (λ n. n + one_if (same_use u j)) (ap (λ v. counted v.items j) c.index_mut.ensures.value ∙ ap (λ l. counted l j) (sym (list_is lists c.bucket-at.result c.index_mut.result.now inside)) ∙ ap (λ n. counted (list_at lists n) j) at))
    (λ b other. list_set_other lists b c.bucket-at.result c.raise.new.holders (λ e. other (e ∙ at))) k
    ∙ ap (λ n. n + one_if (same_use u k)) (ap (λ l. counted l k) (c.grow.ensures.same (bucket (table_hash k.table))))

pub returns-in-Err-clause-err : goal.returns-in-Err-clause-err
returns-in-Err-clause-err c k =
    let lists = c.grow.new.lists.items in
    let at : c.bucket-at.result ≡ bucket (table_hash c.args.claim.now.table) = c.bucket-at.ensures.is ∙ ap bucket c.table_hash.ensures in
    let inside : c.bucket-at.result < length lists = omega (arith, c.in_ok-grow.ensures.long, c.grow.new.lists.ok.0) in
    let new = slice_set lists c.bucket-at.result c.raise.new.holders in
    held_moved (λ n b. n) (λ n. refl) lists new (use_in c.args.unit c.args.claim.now)
    (λ j. ap (λ n. counted (list_at new n) j) (sym at) ∙ ap (λ l. counted l j) (list_set lists c.bucket-at.result c.raise.new.holders inside) ∙ ap (λ l. counted l j) c.in-Err.ensures.err
    ∙ ap (λ v. counted v.items j) c.index_mut.ensures.value ∙ ap (λ l. counted l j) (sym (list_is lists c.bucket-at.result c.index_mut.result.now inside)) ∙ ap (λ n. counted (list_at lists n) j) at)
    (λ b other. list_set_other lists b c.bucket-at.result c.raise.new.holders (λ e. other (e ∙ at))) k
    ∙ ap (λ l. counted l k) (c.grow.ensures.same (bucket (table_hash k.table)))
