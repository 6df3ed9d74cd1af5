use Rattle.std.proofs.Common.{◌≡◌, Err, true, false, sym, ◌∙◌, ap, subst, rules}
use Rattle.half_store.specs.Layout.{is_store_size}
use Rattle.half_store.specs.Active.{active_of}
use Rattle.half_store.specs.Opened.{Tells, CountsOpen}
use Rattle.half_store.proofs.Found.{not_sized, refused, found}
use Rattle.half_store.proofs.opening.open.Goals as goal

pub returns-then-not-is_store_size-clause-active : goal.returns-then-not-is_store_size-clause-active
returns-then-not-is_store_size-clause-active g c honest =
    let image = (g.D.Disk.life c.args.disk.now).seen in
    let out : is_store_size c.size-size.result ≡ false = search rules in
    not_sized image (ap (λ n. is_store_size n) (sym c.size-size.ensures) ∙ out)

pub returns-in_err-name-clause-active : goal.returns-in_err-name-clause-active
returns-in_err-name-clause-active g c honest =
    let image = (g.D.Disk.life c.args.disk.now).seen in
    let within : is_store_size c.size-size.result ≡ true = search rules in
    let is : c.from_residual.result ≡ Err c.in_err-name.field-0.0 = search rules in
    subst (λ r. Tells (active_of image) r) (sym is) (refused image c.size-size.result 0 (ap (λ n. is_store_size n) (sym c.size-size.ensures) ∙ within) c.size-size.ensures c.in_err-name.field-0.0 (c.in_err-name.ensures.name honest))

pub returns-clause-active : goal.returns-clause-active
returns-clause-active g c honest =
    let image = (g.D.Disk.life c.args.disk.now).seen in
    let within : is_store_size c.size-size.result ≡ true = search rules in
    subst (λ f. Tells f c.judged.result)
    (sym (found image c.size-size.result c.half_bytes-half_bytes.result (ap (λ n. is_store_size n) (sym c.size-size.ensures) ∙ within) c.size-size.ensures _ (g.D.Disk.life c.read_name.new.disk).seen (g.D.Disk.life c.read_half.new.disk).seen
    c.in_ok-first.first c.in_ok-second.second c.half_bytes-half_bytes.ensures.len (c.in_ok-name.ensures.name honest) c.read_name.ensures.stays.same c.read_half.ensures.stays.same
    (c.in_ok-first.ensures.state honest) (c.in_ok-second.ensures.state honest)))
    c.judged.ensures.told

pub returns-clause-cause : goal.returns-clause-cause
returns-clause-cause g c =
    subst (λ n. CountsOpen c.judged.result (g.D.Disk.life c.args.disk.now).faults n) (sym (c.in_ok-second.ensures.cause ∙ c.in_ok-first.ensures.cause ∙ c.in_ok-name.ensures.cause))
    (c.judged.ensures.cause (g.D.Disk.life c.args.disk.now).faults)
