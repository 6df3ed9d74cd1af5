use Rattle.std.proofs.Common.{ap, arith, List}
use Rattle.dss_frames.specs.Dss.{Dss}
use Rattle.drda_commands.specs.Given.{contents_of}
use Rattle.drda_commands.specs.Given.{count_in}
use Rattle.drda_commands.proofs.given.Given.count.Goals as goal

pub returns : goal.returns
returns c =
    let e = ap (λ (dsss : List Dss). count_in (contents_of dsss)) c.in_default.ensures in
    omega (arith, e, c.dsss.invariant.same, c.dsss.invariant.within)
