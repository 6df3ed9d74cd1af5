use Rattle.std.proofs.Common.{◌≡◌, ◌+◌, inl, true, sym, ◌∙◌, ap, arith, rules}
use Rattle.drda_disk.proofs.Moments.{no_call, weaker, and_then}
use Rattle.half_store.specs.Layout.{is_store_size, half_len}
use Rattle.half_store.specs.Fresh.{is_name, front_bytes}
use Rattle.half_store.proofs.Formatted.{unmarked_none, is_laid, none_or_fresh, fresh_written}
use Rattle.half_store.proofs.formatting.format.Goals as goal

pub returns-then-not-is_store_size-clause-any_moment : goal.returns-then-not-is_store_size-clause-any_moment
returns-then-not-is_store_size-clause-any_moment g c honest bare = no_call (g.D.Disk.life c.args.disk.now) _ (λ i now. inl (unmarked_none i (bare i now)))

pub returns-then-not-is_name-clause-any_moment : goal.returns-then-not-is_name-clause-any_moment
returns-then-not-is_name-clause-any_moment g c honest bare = no_call (g.D.Disk.life c.args.disk.now) _ (λ i now. inl (unmarked_none i (bare i now)))

pub returns-in_err-front-clause-any_moment : goal.returns-in_err-front-clause-any_moment
returns-in_err-front-clause-any_moment g c honest bare = no_call (g.D.Disk.life c.args.disk.now) _ (λ i now. inl (unmarked_none i (bare i now)))

pub returns-in_err-second-clause-any_moment : goal.returns-in_err-second-clause-any_moment
returns-in_err-second-clause-any_moment g c honest bare = no_call (g.D.Disk.life c.args.disk.now) _ (λ i now. inl (unmarked_none i (bare i now)))

pub returns-in_err-lay-clause-any_moment : goal.returns-in_err-lay-clause-any_moment
returns-in_err-lay-clause-any_moment g c honest bare = weaker _ _ _ _ (c.lay.ensures.unmarked bare) (λ i is. inl (unmarked_none i is))

pub returns-in_err-write_through-clause-any_moment : goal.returns-in_err-write_through-clause-any_moment
returns-in_err-write_through-clause-any_moment g c honest bare =
    let file = (g.D.Disk.life c.args.disk.now).seen in
    let within : is_store_size c.size-size.result ≡ true = search rules in
    let named : is_name c.args.name.now ≡ true = search rules in
    let front = c.deref.ensures.value ∙ c.in_ok-front.ensures.items ∙ ap (λ n. front_bytes n c.args.name.now) c.size-size.ensures in
    let laid = is_laid c.args.name.now file (g.D.Disk.life c.lay.new.disk).seen (8192 + c.half_bytes-half_bytes.result) c.deref.result.now c.deref-2.result.now front (c.deref-2.ensures.value ∙ c.in_ok-second.ensures.items)
    (ap (λ n. 8192 + n) (c.half_bytes-half_bytes.ensures.len ∙ ap half_len c.size-size.ensures)) (ap (λ n. is_store_size n) (sym c.size-size.ensures) ∙ within) named (c.is_name.ensures.short (search rules))
    (omega (arith, c.half_bytes-half_bytes.ensures.large, c.half_bytes-half_bytes.ensures.len, ap half_len c.size-size.ensures)) (omega (arith, c.half_bytes-half_bytes.ensures.large, c.half_bytes-half_bytes.ensures.inside, c.size-size.ensures)) (c.in_ok-lay.ensures.written honest) in
    and_then _ _ _ _ _ _ (c.lay.ensures.unmarked bare) (c.write_through.ensures.any_moment c.in_ok-lay.ensures.durable) (λ i is. inl (unmarked_none i is)) (λ i cut. none_or_fresh c.args.name.now (g.D.Disk.life c.lay.new.disk).seen i cut laid)

pub returns-clause-any_moment : goal.returns-clause-any_moment
returns-clause-any_moment g c honest bare =
    let file = (g.D.Disk.life c.args.disk.now).seen in
    let within : is_store_size c.size-size.result ≡ true = search rules in
    let named : is_name c.args.name.now ≡ true = search rules in
    let front = c.deref.ensures.value ∙ c.in_ok-front.ensures.items ∙ ap (λ n. front_bytes n c.args.name.now) c.size-size.ensures in
    let laid = is_laid c.args.name.now file (g.D.Disk.life c.lay.new.disk).seen (8192 + c.half_bytes-half_bytes.result) c.deref.result.now c.deref-2.result.now front (c.deref-2.ensures.value ∙ c.in_ok-second.ensures.items)
    (ap (λ n. 8192 + n) (c.half_bytes-half_bytes.ensures.len ∙ ap half_len c.size-size.ensures)) (ap (λ n. is_store_size n) (sym c.size-size.ensures) ∙ within) named (c.is_name.ensures.short (search rules))
    (omega (arith, c.half_bytes-half_bytes.ensures.large, c.half_bytes-half_bytes.ensures.len, ap half_len c.size-size.ensures)) (omega (arith, c.half_bytes-half_bytes.ensures.large, c.half_bytes-half_bytes.ensures.inside, c.size-size.ensures)) (c.in_ok-lay.ensures.written honest) in
    and_then _ _ _ _ _ _ (c.lay.ensures.unmarked bare) (c.write_through.ensures.any_moment c.in_ok-lay.ensures.durable) (λ i is. inl (unmarked_none i is)) (λ i cut. none_or_fresh c.args.name.now (g.D.Disk.life c.lay.new.disk).seen i cut laid)

pub returns-clause-fresh : goal.returns-clause-fresh
returns-clause-fresh g c honest =
    let file = (g.D.Disk.life c.args.disk.now).seen in
    let within : is_store_size c.size-size.result ≡ true = search rules in
    let named : is_name c.args.name.now ≡ true = search rules in
    let front = c.deref.ensures.value ∙ c.in_ok-front.ensures.items ∙ ap (λ n. front_bytes n c.args.name.now) c.size-size.ensures in
    let laid = is_laid c.args.name.now file (g.D.Disk.life c.lay.new.disk).seen (8192 + c.half_bytes-half_bytes.result) c.deref.result.now c.deref-2.result.now front (c.deref-2.ensures.value ∙ c.in_ok-second.ensures.items)
    (ap (λ n. 8192 + n) (c.half_bytes-half_bytes.ensures.len ∙ ap half_len c.size-size.ensures)) (ap (λ n. is_store_size n) (sym c.size-size.ensures) ∙ within) named (c.is_name.ensures.short (search rules))
    (omega (arith, c.half_bytes-half_bytes.ensures.large, c.half_bytes-half_bytes.ensures.len, ap half_len c.size-size.ensures)) (omega (arith, c.half_bytes-half_bytes.ensures.large, c.half_bytes-half_bytes.ensures.inside, c.size-size.ensures)) (c.in_ok-lay.ensures.written honest) in (
      c.in_ok-write_through.ensures.durable,
      fresh_written c.args.name.now (g.D.Disk.life c.lay.new.disk).seen (g.D.Disk.life c.write_through.new.disk).seen laid
          (omega (arith, c.half_bytes-half_bytes.ensures.large, c.half_bytes-half_bytes.ensures.inside, c.size-size.ensures, c.lay.ensures.len)) (c.in_ok-write_through.ensures.written honest),
    )
