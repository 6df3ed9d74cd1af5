use Rattle.std.proofs.Common.{IsTrue, List, ℕ, length, subst}
use Rattle.half_store.specs.Layout.{is_store_size}
use Rattle.durable_core.proofs.Heads.{inside_ok, pages_ok}
use Rattle.durable_core.proofs.head.read_head.Goals as goal

pub returns-in-Ok-clause-pages : goal.returns-in-Ok-clause-pages
returns-in-Ok-clause-pages g c =
    pages_ok (length (g.D.Disk.life c.args.disk.now).seen) c.in-Ok.active (subst (λ (seen : List ℕ). IsTrue (is_store_size (length seen))) c.open.ensures.stays.same c.in-Ok.ensures.size) c.in-Ok.ensures.region

pub returns-in-Ok-clause-journal : goal.returns-in-Ok-clause-journal
returns-in-Ok-clause-journal g c =
    inside_ok (length (g.D.Disk.life c.args.disk.now).seen) c.in-Ok.active (subst (λ (seen : List ℕ). IsTrue (is_store_size (length seen))) c.open.ensures.stays.same c.in-Ok.ensures.size) c.in-Ok.ensures.region
