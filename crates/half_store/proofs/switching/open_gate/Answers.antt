use Rattle.std.proofs.Common.{◌+◌, inl, length, arith}
use Rattle.drda_disk.proofs.Moments.{weaker}
use Rattle.drda_disk.proofs.Parts.{Torn-wider, Torn-trans}
use Rattle.half_store.proofs.Switched.{opening}
use Rattle.half_store.proofs.switching.open_gate.Goals as goal

pub returns-in_err-write_through-clause-any_moment : goal.returns-in_err-write_through-clause-any_moment
returns-in_err-write_through-clause-any_moment g c n base honest long within =
    weaker _ _ _ _ (c.write_through.ensures.within (c.args.at + 1) n base (omega arith) (omega (arith, long)) within) (λ i cut. inl cut)

pub returns-in_err-write_through-clause-others : goal.returns-in_err-write_through-clause-others
returns-in_err-write_through-clause-others g c = Torn-wider (c.args.at + 1) (length c.args.behind.now) c.args.at (1 + length c.args.behind.now) _ _ (omega arith) (omega arith) c.write_through.ensures.others

pub returns-in_err-write_through-2-clause-any_moment : goal.returns-in_err-write_through-2-clause-any_moment
returns-in_err-write_through-2-clause-any_moment g c n base honest long within =
    opening c.args.at n base (g.D.Disk.life c.args.disk.now).seen c.args.behind.now _ _ _ (c.write_through.ensures.within (c.args.at + 1) n base (omega arith) (omega (arith, long)) within)
    (c.in_ok-write_through.ensures.written honest) (c.write_through-2.ensures.any_moment c.in_ok-write_through.ensures.durable)

pub returns-in_err-write_through-2-clause-others : goal.returns-in_err-write_through-2-clause-others
returns-in_err-write_through-2-clause-others g c =
    Torn-trans c.args.at (1 + length c.args.behind.now) _ _ _
    (Torn-wider (c.args.at + 1) (length c.args.behind.now) c.args.at (1 + length c.args.behind.now) _ _ (omega arith) (omega arith) c.write_through.ensures.others)
    (Torn-wider c.args.at 1 c.args.at (1 + length c.args.behind.now) _ _ (omega arith) (omega arith) c.write_through-2.ensures.others)

pub returns-clause-any_moment : goal.returns-clause-any_moment
returns-clause-any_moment g c n base honest long within =
    opening c.args.at n base (g.D.Disk.life c.args.disk.now).seen c.args.behind.now _ _ _ (c.write_through.ensures.within (c.args.at + 1) n base (omega arith) (omega (arith, long)) within)
    (c.in_ok-write_through.ensures.written honest) (c.write_through-2.ensures.any_moment c.in_ok-write_through.ensures.durable)

pub returns-clause-others : goal.returns-clause-others
returns-clause-others g c =
    Torn-trans c.args.at (1 + length c.args.behind.now) _ _ _
    (Torn-wider (c.args.at + 1) (length c.args.behind.now) c.args.at (1 + length c.args.behind.now) _ _ (omega arith) (omega arith) c.write_through.ensures.others)
    (Torn-wider c.args.at 1 c.args.at (1 + length c.args.behind.now) _ _ (omega arith) (omega arith) c.write_through-2.ensures.others)
